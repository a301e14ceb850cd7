use Rattle.std.proofs.Common.{◌≡◌, List, ℕ, false, sym, subst, ap}
use Rattle.dc_model.specs.Places.{all_empty}
use Rattle.dc_model.proofs.ShuffleLemmas.{still_placed, places_long}
use Rattle.dc_transmit.specs.Standing.{Standing}
use Rattle.dc_filter.proofs.slot.Slot.begin.Goals as goal

pub start-requires-clause-place : goal.start-requires-clause-place
start-requires-clause-place g c =
    let long = places_long c.args.draws.now c.args.servers.now 16 c.shuffle.array_long c.shuffle.ensures in
    subst (λ (x : List (List ℕ)). all_empty x ≡ false) (sym c.shuffle.ensures) (still_placed c.args.draws.now c.args.servers.now long c.requires.place)

pub returns-clause-fit : goal.returns-clause-fit
returns-clause-fit g c = (_, ap (λ (s : Standing). s.attempt) c.start.ensures.standing)
