use Rattle.std.proofs.Common.{ap, arith}
use Rattle.dc_active.specs.Roll.{Roll}
use Rattle.dc_active.proofs.EntryLemmas.{length_of}
use Rattle.dc_active.proofs.actives.Actives.len.Goals as goal

pub returns-clause-most : goal.returns-clause-most
returns-clause-most c =
    let queries = length_of c.self.inside.entries.items c.args.self.now.queries (ap (λ (r : Roll). r.queries) c.self.view_is) in
    let spare = ap (λ (r : Roll). r.spare) c.self.view_is in
    omega (arith, queries, spare, c.self.invariant.most, c.self.inside.entries.ok.0)
