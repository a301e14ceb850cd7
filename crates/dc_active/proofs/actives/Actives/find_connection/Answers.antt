use Rattle.std.proofs.Common.{◌≡◌, ap}
use Rattle.dc_active.specs.View.{queries_of}
use Rattle.dc_active.specs.Roll.{Roll}
use Rattle.dc_machine.specs.Machine.{is_on}
use Rattle.dc_active.proofs.PickLemmas.{found_within}
use Rattle.dc_active.proofs.EntryLemmas.{connection_place}
use Rattle.dc_active.proofs.actives.Actives.find_connection.Goals as goal

pub returns-clause-place : goal.returns-clause-place
returns-clause-place c =
    let e = connection_place c.args.number c.self.inside.entries.items in
    let q : queries_of c.self.inside.entries.items ≡ c.args.self.now.queries = ap (λ (r : Roll). r.queries) c.self.view_is in
    cc

pub returns-clause-range : goal.returns-clause-range
returns-clause-range c = found_within (λ a. is_on c.args.number a.client) c.args.self.now.queries c.find_connection.result (returns-clause-place c)
