use Rattle.std.proofs.Common.{◌≡◌, ap}
use Rattle.dc_machine.specs.Machine.{Active, is_on}
use Rattle.dc_active.specs.View.{entry_of, queries_of}
use Rattle.dc_active.specs.Roll.{Roll}
use Rattle.dc_active.proofs.PickLemmas.{any_map}
use Rattle.dc_active.proofs.actives.Actives.is_busy.Goals as goal

pub returns : goal.returns
returns c =
    let e = any_map entry_of (λ (a : Active). is_on c.args.number a.client) c.self.inside.entries.items in
    let q : queries_of c.self.inside.entries.items ≡ c.args.self.now.queries = ap (λ (r : Roll). r.queries) c.self.view_is in
    cc
