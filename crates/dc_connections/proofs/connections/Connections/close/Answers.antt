use Rattle.std.proofs.Common.{◌≡◌, ◌+◌, List, length, ap, subst, sym, arith, ◌∙◌, length-append}
use Rattle.std.proofs.lemmas.List.Edits.{length-remove}
use Rattle.std.specs.List.{remove}
use Rattle.dc_machine.specs.Machine.{Connection}
use Rattle.dc_connections.specs.Places.{AreApart}
use Rattle.dc_connections.specs.Entries.{connections_of}
use Rattle.dc_connections.proofs.PlaceLemmas.{without_length}
use Rattle.dc_connections.proofs.EntryLemmas.{as_many, removed_is, removed_apart}
use Rattle.dc_connections.proofs.connections.Connections.close.Goals as goal

pub invariant_of-self : goal.invariant_of-self
invariant_of-self c =
    let apart : AreApart (connections_of (remove c.self.inside.entries.items c.args.i)) =
    removed_apart c.self.inside.entries.items c.args.self.now c.args.i c.self.view_is c.requires c.self.invariant.apart in
    let kept : c.remove-entry.new.self.items ≡ remove c.self.inside.entries.items c.args.i = c.remove-entry.ensures.items in
    let fewer : length (remove c.self.inside.entries.items c.args.i) + 1 ≡ length c.self.inside.entries.items =
    length-remove c.self.inside.entries.items c.args.i (omega (arith, as_many c.self.inside.entries.items c.args.self.now c.self.view_is, c.requires)) in
    let pushed = rw c.unwrap.ensures at c.push.ensures.items in
    let spare : length c.push.new.self.items ≡ length c.self.inside.spare.items + 1 = ap length pushed ∙ length-append c.self.inside.spare.items _ in
    record {
      apart = subst (λ es. AreApart (connections_of es)) (sym c.remove-entry.ensures.items) apart;
      all = omega (arith, ap length kept, fewer, spare, c.self.invariant.all);
      room = omega (arith, c.self.invariant.room, c.remove-entry.ensures.capacity);
      spare_room = omega (arith, c.self.invariant.spare_room, c.push.ensures.capacity);
    }

pub returns-clause-connections : goal.returns-clause-connections
returns-clause-connections c =
    ap connections_of c.remove-entry.ensures.items
    ∙ removed_is c.self.inside.entries.items c.args.self.now c.args.i c.self.view_is c.requires c.self.invariant.apart

pub returns-clause-len : goal.returns-clause-len
returns-clause-len c =
    ap (λ (ds : List Connection). length ds + 1) (returns-clause-connections c)
    ∙ without_length c.args.self.now c.args.i c.requires (subst AreApart c.self.view_is c.self.invariant.apart)
