use Rattle.std.proofs.Common.{◌≡◌, ℕ, ◌<◌, false}
use Rattle.std.specs.Prelude.{slice_get, Some}
use Rattle.dc_model.specs.Message.{Record}
use Rattle.dc_show.specs.Parts.{is_wanted}
use Rattle.dc_show.proofs.answers.has_answers.Given as goal

abbrev pub invariant-loop-at : goal.invariant-loop-at
invariant-loop-at l = (k : ℕ) → k < l.at → (r : Record) → slice_get l.message.records k ≡ Some r → is_wanted l.kind r ≡ false
