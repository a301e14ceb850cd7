use Rattle.std.proofs.Common.{IsNone, arith}
use Rattle.dc_active.proofs.ListLemmas.{all_pop}
use Rattle.dc_active.proofs.actives.Actives.new_work.Goals as goal

pub invariant_of-self : goal.invariant_of-self
invariant_of-self c = record {
  fit = c.self.invariant.fit;
  idle = (all_pop (λ w. IsNone w.value.sender.attempt) c.pop.result c.unwrap.result c.self.inside.spare.items c.pop.new.self.items c.unwrap.ensures c.pop.ensures.items c.self.invariant.idle).0;
  udp = c.self.invariant.udp;
  most = omega (arith, c.self.invariant.most, c.pop.ensures.len);
  entries = c.self.invariant.entries;
  works = omega (arith, c.self.invariant.works, c.pop.ensures.capacity);
}

pub returns-clause-idle : goal.returns-clause-idle
returns-clause-idle c = (all_pop (λ w. IsNone w.value.sender.attempt) c.pop.result c.unwrap.result c.self.inside.spare.items c.pop.new.self.items c.unwrap.ensures c.pop.ensures.items c.self.invariant.idle).1
