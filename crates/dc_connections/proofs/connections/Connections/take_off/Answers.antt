use Rattle.std.proofs.Common.{◌≡◌, ◌<◌, length, ap, subst, arith, refl, ◌∙◌}
use Rattle.std.proofs.lemmas.List.{length-set}
use Rattle.dc_model.specs.Transmission.{is_whole}
use Rattle.dc_machine.specs.Machine.{Connection}
use Rattle.dc_connections.specs.Places.{connection_at, with_less, AreApart}
use Rattle.dc_connections.specs.Entries.{connection_of}
use Rattle.dc_connections.proofs.PlaceLemmas.{with_at, with_length}
use Rattle.dc_connections.proofs.EntryLemmas.{as_many, read_is, put_apart, less_is}
use Rattle.dc_connections.proofs.connections.Connections.take_off.Goals as goal

pub take_off-requires : goal.take_off-requires
take_off-requires c =
    let at : connection_of c.index_mut-entry.result.now ≡ connection_at c.args.self.now c.args.i =
    read_is c.self.inside.entries.items c.args.self.now c.args.i c.index_mut-entry.result.now c.self.view_is c.requires.place c.index_mut-entry.ensures.value in
    ap (λ (d : Connection). is_whole d.gathered) at ∙ c.requires.whole

pub invariant_of-self : goal.invariant_of-self
invariant_of-self c =
    let es = c.self.inside.entries.items in
    let r = c.index_mut-entry.result.now in
    let inside : c.args.i < length c.self.inside.entries.items = omega (arith, as_many c.self.inside.entries.items c.args.self.now c.self.view_is, c.requires.place) in
    record {
      apart = put_apart es c.args.i r (record r { stream = c.take_off.new.self }) inside c.index_mut-entry.ensures.value c.self.invariant.apart refl;
      all = omega (arith, c.self.invariant.all, length-set es c.args.i (record r { stream = c.take_off.new.self }));
      room = c.self.invariant.room;
      spare_room = c.self.invariant.spare_room;
    }

pub returns-clause-connections : goal.returns-clause-connections
returns-clause-connections c =
    less_is c.self.inside.entries.items c.args.self.now c.args.i c.index_mut-entry.result.now c.take_off.new.self c.self.view_is c.requires.place
    c.self.invariant.apart c.index_mut-entry.ensures.value c.take_off.ensures

pub returns-clause-at : goal.returns-clause-at
returns-clause-at c =
    let changed : Connection = with_less (connection_at c.args.self.now c.args.i) in
    ap (λ ds. connection_at ds c.args.i) (returns-clause-connections c)
    ∙ with_at c.args.self.now c.args.i changed c.requires.place (subst AreApart c.self.view_is c.self.invariant.apart) refl

pub returns-clause-len : goal.returns-clause-len
returns-clause-len c =
    let changed : Connection = with_less (connection_at c.args.self.now c.args.i) in
    ap length (returns-clause-connections c) ∙ with_length changed c.args.self.now
