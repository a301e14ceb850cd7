use Rattle.std.proofs.Common.{◌≡◌, ◌<◌, length, arith, ◌∙◌}
use Rattle.dc_transmit.specs.Rounds.{places_of}
use Rattle.dc_transmit.proofs.PlaceLemmas.{place_used, place_free, places_end}
use Rattle.dc_transmit.proofs.places.filled_place.Goals as goal

pub returns-then-ne-clause-places : goal.returns-then-ne-clause-places
unfolding places_of
returns-then-ne-clause-places c =
    let range : c.loop-place.place < length c.args.servers.now = omega arith in
    c.loop-place.invariant ∙ place_used c.loop-place.place c.args.servers.now c.ne.result range c.ne.ensures c.if-ne.true

pub loop-place-preserved : goal.loop-place-preserved
loop-place-preserved c =
    let range : c.loop-place.place < length c.args.servers.now = omega arith in
    c.loop-place.invariant ∙ place_free c.loop-place.place c.args.servers.now c.ne.result range c.ne.ensures c.if-ne.false

pub returns-clause-places : goal.returns-clause-places
unfolding places_of
returns-clause-places c =
    let all : length c.args.servers.now ≡ c.loop-place.place = omega (arith, c.loop-place.auto.place-end, c.requires) in
    c.loop-place.invariant ∙ places_end c.loop-place.place c.args.servers.now all
