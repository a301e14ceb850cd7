use Rattle.std.proofs.Common.{◌≡◌, ℕ, ◌<◌}
use Rattle.std.specs.Prelude.{slice_get, Some, None}
use Rattle.dc_model.specs.Message.{Record}
use Rattle.dc_show.specs.Parts.{host_part}
use Rattle.dc_show.proofs.answers.first_host.Given as goal

abbrev pub invariant-loop-at : goal.invariant-loop-at
invariant-loop-at l = (k : ℕ) → k < l.at → (r : Record) → slice_get l.message.records k ≡ Some r → host_part r ≡ None
