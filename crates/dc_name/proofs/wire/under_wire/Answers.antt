use Rattle.std.proofs.Common.{◌∙◌}
use Rattle.dc_name.proofs.WireLemmas.{longer_not_root, under_above, under_here}
use Rattle.dc_name.proofs.wire.under_wire.Goals as goal

pub above-rest-requires-clause-not_root : goal.above-rest-requires-clause-not_root
above-rest-requires-clause-not_root c = longer_not_root _ _ c.loop-rest.invariant.name c.requires.zone c.loop-rest-test.true

pub loop-rest-preserved : goal.loop-rest-preserved
loop-rest-preserved c = record {
  name = c.above-rest.ensures.name;
  same = under_above c.loop-rest.rest.now c.above-rest.result.now c.args.zone.now c.loop-rest.invariant.name c.requires.zone c.above-rest.ensures.labels c.loop-rest-test.true ∙ c.loop-rest.invariant.same;
}

pub returns : goal.returns
returns c = c.same_wire.ensures ∙ under_here c.loop-rest.rest.now c.args.zone.now c.loop-rest.invariant.name c.requires.zone c.loop-rest-test.false ∙ c.loop-rest.invariant.same
