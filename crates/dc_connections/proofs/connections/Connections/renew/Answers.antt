use Rattle.std.proofs.Common.{◌≡◌, ◌<◌, length, ap, sym, arith, refl, ◌∙◌}
use Rattle.std.specs.Prelude.{find, option_map, None}
use Rattle.std.proofs.lemmas.List.{length-set}
use Rattle.dc_connections.specs.Places.{connection_at, has_number}
use Rattle.dc_connections.proofs.PlaceLemmas.{found_number, renewed_none}
use Rattle.dc_connections.proofs.EntryLemmas.{as_many, put_apart, renew_is}
use Rattle.dc_connections.proofs.connections.Connections.renew.Goals as goal

pub invariant_of-self : goal.invariant_of-self
invariant_of-self c =
    let es = c.self.inside.entries.items in
    let r = c.index_mut-entry.result.now in
    let inside : c.in-Some.i < length c.self.inside.entries.items = omega (arith, as_many c.self.inside.entries.items c.args.self.now c.self.view_is, c.in-Some.ensures.place) in
    record {
      apart = put_apart es c.in-Some.i r (record r { deadline = c.args.deadline }) inside c.index_mut-entry.ensures.value c.self.invariant.apart refl;
      all = omega (arith, c.self.invariant.all, length-set es c.in-Some.i (record r { deadline = c.args.deadline }));
      room = c.self.invariant.room;
      spare_room = c.self.invariant.spare_room;
    }

pub returns-in-Some-clause-connections : goal.returns-in-Some-clause-connections
returns-in-Some-clause-connections c =
    renew_is c.self.inside.entries.items c.args.self.now c.in-Some.i c.args.number c.args.deadline c.index_mut-entry.result.now c.self.view_is c.in-Some.ensures.place
    c.self.invariant.apart c.index_mut-entry.ensures.value (found_number c.args.self.now c.in-Some.i c.args.number c.in-Some.ensures.found)

pub returns-in_default-clause-connections : goal.returns-in_default-clause-connections
returns-in_default-clause-connections c =
    let none : None ≡ find (has_number c.args.number) c.args.self.now =
    ap (λ o. option_map (connection_at c.args.self.now) o) (sym c.in_default.is) ∙ c.find.ensures.found in
    renewed_none c.args.self.now c.args.number c.args.deadline none
