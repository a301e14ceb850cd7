-- A machine that counts its events and does nothing else.
use Rattle.std.specs.Prelude.{ℕ, ◌+◌, false, [], None}
use Rattle.dc_engine.specs.Automaton.{Automaton}

abbrev pub idle : Automaton ℕ
idle = record {
  opening = λ s. [];
  wake = λ s. None;
  finished = λ s. false;
  actions = λ s e words. [];
  next = λ s e words. s + 1;
  handled = λ s. s;
}
