-- A machine whose actions are compared with a recorded text.
use Rattle.std.specs.Prelude.{ℕ, ◌+◌, Bool, true, false, List, [], Option, Some, None}
use Rattle.dc_engine.specs.Automaton.{Automaton}
use Rattle.dc_script.specs.Text.{text_of}
use Rattle.dc_audit.specs.Matched.{matched}
use Rattle.dc_audit.specs.Verdict.{at_end}
use Rattle.dc_audit.specs.declared.outcome.Verdict.{Verdict}
use Rattle.dc_audit.specs.declared.outcome.Verdict.TheVariants.{Differs}

-- How a comparison stands: what is left of the text; or the number at which it differed first.
pub data Compared : Type 0 where
  going : List ℕ → Compared
  differed : ℕ → Compared

abbrev pub compared_of : Option (List ℕ) → (first : ℕ) → Compared
compared_of (Some rest) first = going rest
compared_of None first = differed first

-- One more text is compared, which has the number k.
abbrev pub compare_next : (k : ℕ) → List ℕ → Compared → Compared
compare_next k text (going rest) = compared_of (matched text (Some rest)) k
compare_next k text (differed j) = differed j

-- What it comes to where no text is left, behind texts of which the last has the number before k.
abbrev pub at_last : (k : ℕ) → Compared → Verdict
at_last k (going rest) = at_end k rest
at_last k (differed j) = Differs j

-- The number of the first text that differs, by whether the recorded text went on before this one, and whether it does behind it.
abbrev pub first_number : (before after : Bool) → (k first : ℕ) → ℕ
first_number true false k first = k
first_number true true k first = first
first_number false after k first = first

-- A machine, and how the comparison stands.
pub record Judged (S : Type 0) : Type 0 where
  pub inner : S
  pub compared : Compared

-- It does nothing outside. At each event the text of the inner machine's actions is compared.
abbrev pub judging : {S : Type 0} → Automaton S → Automaton (Judged S)
judging m = record {
  opening = λ s. [];
  wake = λ s. m.wake s.inner;
  finished = λ s. m.finished s.inner;
  actions = λ s e words. [];
  next = λ s e words. record {
    inner = m.next s.inner e words;
    compared = compare_next (m.handled s.inner + 1) (text_of (m.actions s.inner e words)) s.compared;
  };
  handled = λ s. m.handled s.inner;
}
