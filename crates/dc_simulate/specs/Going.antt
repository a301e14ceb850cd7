-- The next event, where one is left.
use Rattle.std.specs.Prelude.{◌≡◌, Bool, true, false}
use Rattle.std.specs.declared.option.Option.{Option}
use Rattle.std.specs.declared.option.Option.TheVariants.{None, Some}
use Rattle.dc_model.specs.Event.{Event}
use Rattle.dc_simulation.specs.World.{World, Given}

-- What a call that left this in the inbox says.
abbrev pub Next : Bool → Event → Option Given → (old new : World) → Type 0
Next true e given old new = given ≡ Some (record { event = e; world = new })
Next false e given old new = (given ≡ None) × (new ≡ old)
