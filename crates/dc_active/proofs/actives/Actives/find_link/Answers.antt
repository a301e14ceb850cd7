use Rattle.std.proofs.Common.{◌≡◌, ap}
use Rattle.dc_active.specs.View.{queries_of}
use Rattle.dc_active.specs.Roll.{Roll}
use Rattle.std.specs.Prelude.{◌==◌}
use Rattle.dc_active.proofs.PickLemmas.{found_within}
use Rattle.dc_active.proofs.EntryLemmas.{link_place}
use Rattle.dc_active.proofs.actives.Actives.find_link.Goals as goal

pub returns-clause-place : goal.returns-clause-place
returns-clause-place c =
    let e = link_place c.args.link c.self.inside.entries.items c.self.invariant.fit in
    let q : queries_of c.self.inside.entries.items ≡ c.args.self.now.queries = ap (λ (r : Roll). r.queries) c.self.view_is in
    cc

pub returns-clause-range : goal.returns-clause-range
returns-clause-range c = found_within (λ a. a.attempt.link == c.args.link) c.args.self.now.queries c.find_link.result (returns-clause-place c)
