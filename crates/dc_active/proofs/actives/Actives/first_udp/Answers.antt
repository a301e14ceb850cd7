use Rattle.std.proofs.Common.{◌≡◌, ap}
use Rattle.dc_active.specs.View.{queries_of}
use Rattle.dc_active.specs.Roll.{Roll}
use Rattle.dc_machine.specs.Machine.{is_udp}
use Rattle.dc_active.proofs.PickLemmas.{found_within}
use Rattle.dc_active.proofs.EntryLemmas.{udp_place}
use Rattle.dc_active.proofs.actives.Actives.first_udp.Goals as goal

pub returns-clause-place : goal.returns-clause-place
returns-clause-place c =
    let e = udp_place c.self.inside.entries.items in
    let q : queries_of c.self.inside.entries.items ≡ c.args.self.now.queries = ap (λ (r : Roll). r.queries) c.self.view_is in
    cc

pub returns-clause-range : goal.returns-clause-range
returns-clause-range c = found_within (λ a. is_udp a.client) c.args.self.now.queries c.find_udp.result (returns-clause-place c)
