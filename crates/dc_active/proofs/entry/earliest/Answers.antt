use Rattle.std.proofs.Common.{◌-◌, drop, length, arith}
use Rattle.dc_active.specs.View.{queries_of}
use Rattle.dc_active.proofs.EarliestLemmas.{earliest_none, earliest_some, none_from}
use Rattle.dc_active.proofs.entry.earliest.Goals as goal

pub loop-place-init : goal.loop-place-init
loop-place-init c = record {
  range = omega arith;
  found = earliest_none (drop (length c.args.entries.now) (queries_of c.args.entries.now)) (queries_of c.args.entries.now) (none_from c.args.entries.now);
}

pub loop-place-preserved : goal.loop-place-preserved
loop-place-preserved c = record {
  range = omega (arith, c.loop-place.invariant.range);
  found = earliest_some (drop (c.loop-place.place - 1) (queries_of c.args.entries.now)) (queries_of c.args.entries.now) c.earlier.result c.earlier.ensures.least;
}
