use Rattle.std.proofs.Common.{length, ap, arith}
use Rattle.dc_active.specs.Roll.{Roll}
use Rattle.dc_machine.specs.Machine.{udp_queries}
use Rattle.dc_active.proofs.CountLemmas.{count_most}
use Rattle.dc_active.proofs.EntryLemmas.{length_of}
use Rattle.dc_active.proofs.actives.Actives.udp.Goals as goal

pub returns-clause-most : goal.returns-clause-most
returns-clause-most c =
    let queries = length_of c.self.inside.entries.items c.args.self.now.queries (ap (λ (r : Roll). r.queries) c.self.view_is) in
    let udp = ap (λ qs. length (udp_queries qs)) (ap (λ (r : Roll). r.queries) c.self.view_is) in
    omega (arith, count_most c.args.self.now.queries, queries, udp, c.self.invariant.udp, c.self.invariant.most, c.self.inside.entries.ok.0)
