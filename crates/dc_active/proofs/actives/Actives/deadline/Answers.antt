use Rattle.std.proofs.Common.{ap}
use Rattle.dc_active.specs.Roll.{Roll}
use Rattle.dc_active.proofs.EntryLemmas.{deadline_at}
use Rattle.dc_active.proofs.actives.Actives.deadline.Goals as goal

pub returns : goal.returns
returns c = deadline_at c.self.inside.entries.items c.args.self.now.queries c.args.i c.index.result.now c.self.invariant.fit (ap (λ (r : Roll). r.queries) c.self.view_is) c.requires c.index.ensures
