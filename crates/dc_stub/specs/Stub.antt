-- One question as an engine asks it.
use Rattle.std.specs.Prelude.{ℕ, ◌+◌, []}
use Rattle.dc_engine.specs.Automaton.{Automaton}
use Rattle.dc_lookup.specs.Asking.{Asking, ask_step, ask_wake, is_over}

-- The question, and how many events were handled.
pub record Stub : Type 0 where
  pub asking : Asking
  pub handled : ℕ

-- The machine. It is finished where its transmission has ended.
abbrev pub stub_machine : Automaton Stub
stub_machine = record {
  opening = λ s. [];
  wake = λ s. ask_wake s.asking;
  finished = λ s. is_over s.asking;
  actions = λ s e words. (ask_step s.asking e words).actions;
  next = λ s e words. record { asking = (ask_step s.asking e words).asking; handled = s.handled + 1 };
  handled = λ s. s.handled;
}
