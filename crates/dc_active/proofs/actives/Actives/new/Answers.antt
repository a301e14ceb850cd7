use Rattle.std.proofs.Common.{length, sym, ap, subst, arith}
use Rattle.dc_machine.specs.Kept.{AllOf}
use Rattle.dc_machine.specs.Machine.{udp_queries}
use Rattle.dc_active.specs.View.{queries_of, IsFit}
use Rattle.dc_active.proofs.ListLemmas.{all_none}
use Rattle.dc_active.proofs.actives.Actives.new.Goals as goal

pub invariant_of-result : goal.invariant_of-result
invariant_of-result c = record {
  fit = subst (λ es. AllOf IsFit es) (sym c.in_ok-with_capacity.ensures.items) (all_none IsFit);
  idle = c.in_ok-spare_works.ensures.idle;
  udp = sym (ap (λ es. length (udp_queries (queries_of es))) c.in_ok-with_capacity.ensures.items);
  most = omega (arith, c.in_ok-with_capacity.ensures.len, c.in_ok-spare_works.ensures.many);
  entries = omega (arith, c.in_ok-with_capacity.ensures.exact);
  works = c.in_ok-spare_works.ensures.room;
}
