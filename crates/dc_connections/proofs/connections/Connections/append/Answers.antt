use Rattle.std.proofs.Common.{◌≡◌, ◌<◌, ◌+◌, length, ap, subst, sym, arith, refl, ◌≤◌, ◌∙◌}
use Rattle.std.proofs.lemmas.List.{length-set}
use Rattle.dc_machine.specs.Machine.{Connection}
use Rattle.dc_connections.specs.Places.{connection_at, with_more, AreApart}
use Rattle.dc_connections.specs.Entries.{connection_of}
use Rattle.dc_connections.proofs.PlaceLemmas.{with_at, with_length}
use Rattle.dc_connections.proofs.EntryLemmas.{as_many, read_is, put_apart, more_is}
use Rattle.dc_connections.proofs.connections.Connections.append.Goals as goal

pub append-requires : goal.append-requires
append-requires c =
    let at : connection_of c.index_mut-receiver.result.now ≡ connection_at c.args.self.now c.args.i =
    read_is c.self.inside.entries.items c.args.self.now c.args.i c.index_mut-receiver.result.now c.self.view_is c.requires.place c.index_mut-receiver.ensures.value in
    subst (λ (d : Connection). length d.gathered + length c.args.bytes.now ≤ 65537) (sym at) c.requires.room

pub invariant_of-self : goal.invariant_of-self
invariant_of-self c =
    let es = c.self.inside.entries.items in
    let r = c.index_mut-receiver.result.now in
    let inside : c.args.i < length c.self.inside.entries.items = omega (arith, as_many c.self.inside.entries.items c.args.self.now c.self.view_is, c.requires.place) in
    record {
      apart = put_apart es c.args.i r (record r { stream = c.append.new.self }) inside c.index_mut-receiver.ensures.value c.self.invariant.apart refl;
      all = omega (arith, c.self.invariant.all, length-set es c.args.i (record r { stream = c.append.new.self }));
      room = c.self.invariant.room;
      spare_room = c.self.invariant.spare_room;
    }

pub returns-clause-connections : goal.returns-clause-connections
returns-clause-connections c =
    more_is c.self.inside.entries.items c.args.self.now c.args.i c.index_mut-receiver.result.now c.args.bytes.now c.append.new.self c.self.view_is c.requires.place
    c.self.invariant.apart c.index_mut-receiver.ensures.value c.append.ensures

pub returns-clause-at : goal.returns-clause-at
returns-clause-at c =
    let changed : Connection = with_more c.args.bytes.now (connection_at c.args.self.now c.args.i) in
    ap (λ ds. connection_at ds c.args.i) (returns-clause-connections c)
    ∙ with_at c.args.self.now c.args.i changed c.requires.place (subst AreApart c.self.view_is c.self.invariant.apart) refl

pub returns-clause-len : goal.returns-clause-len
returns-clause-len c =
    let changed : Connection = with_more c.args.bytes.now (connection_at c.args.self.now c.args.i) in
    ap length (returns-clause-connections c) ∙ with_length changed c.args.self.now
