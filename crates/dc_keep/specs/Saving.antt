-- What becomes of the last cache of a session.
use Rattle.std.specs.Prelude.{◌≡◌, ℕ, List, []}
use Rattle.std.specs.declared.option.Option.{Option}
use Rattle.std.specs.declared.option.Option.TheVariants.{None, Some}
use Rattle.dc_core.specs.Running.{Running}
use Rattle.dc_status.specs.declared.status.Status.{Status}
use Rattle.dc_keep.specs.Left.{Leaves}

-- By the core that the session left: without one nothing is saved, and the status stays.
abbrev pub LeavesLast : {O : Type 0} (gained : O → List ℕ → O → Type 0) (old new : O) (ended after : Status) → Option Running → Type 0
LeavesLast gained old new ended after None = (after ≡ ended) × gained old [] new
LeavesLast gained old new ended after (Some core) = Leaves gained core.machine.cache old new ended after
