use Rattle.std.proofs.Common.{◌≡◌, ◌+◌, length, length-append, ap, subst, sym, arith, ◌∙◌}
use Rattle.dc_connections.specs.Places.{AreApart}
use Rattle.dc_connections.specs.Entries.{connections_of}
use Rattle.dc_connections.specs.declared.entry.Entry.{Entry}
use Rattle.dc_connections.proofs.EntryLemmas.{added_apart}
use Rattle.dc_connections.proofs.connections.Connections.open.Goals as goal

pub invariant_of-self : goal.invariant_of-self
invariant_of-self c =
    let es = c.self.inside.entries.items in
    let entry : Entry = record { number = c.args.number; addr = c.args.addr; port = c.args.port; deadline = c.args.deadline; stream = c.clear.new.self } in
    let popped = rw c.unwrap-stream.ensures at c.pop.ensures.items in
    let pushed = rw c.unwrap.ensures at c.push.ensures.items in
    let spare : length c.self.inside.spare.items ≡ length c.pop.new.self.items + 1 = ap length popped ∙ length-append c.pop.new.self.items _ in
    let more : length c.push.new.self.items ≡ length c.self.inside.entries.items + 1 = ap length pushed ∙ length-append c.self.inside.entries.items _ in
    record {
      apart = subst (λ xs. AreApart (connections_of xs)) (sym pushed) (added_apart es c.args.self.now entry c.self.view_is c.requires.new c.self.invariant.apart);
      all = omega (arith, spare, more, c.self.invariant.all);
      room = omega (arith, c.self.invariant.room, c.push.ensures.capacity);
      spare_room = omega (arith, c.self.invariant.spare_room, c.pop.ensures.capacity);
    }
