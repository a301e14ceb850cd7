use Rattle.std.proofs.Common.{◌≡◌}
use Rattle.dc_model.specs.Cache.{Entry, placed, turns_left}
use Rattle.dc_ring.proofs.ArenaStore.place.Given as goal

abbrev pub invariant-room : goal.invariant-room
invariant-room l = let e : Entry = record { key = l.key; body = l.body; expiry = l.expiry } in placed e l.self ≡ placed e l.initial.self

abbrev pub decreases-room : goal.decreases-room
decreases-room l = turns_left l.self
