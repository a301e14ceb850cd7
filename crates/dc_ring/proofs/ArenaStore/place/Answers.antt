use Rattle.std.proofs.Common.{sym, ◌∙◌, ap, length}
use Rattle.dc_model.specs.Cache.{Entry, placed}
use Rattle.dc_store.proofs.Turns.{placed_room, placed_evict, placed_rotate, placed_none, unless_none}
use Rattle.dc_ring.proofs.ArenaStore.place.Goals as goal

pub returns-then-has_no_young : goal.returns-then-has_no_young
returns-then-has_no_young c =
    let e : Entry = record { key = c.args.key.now; body = c.args.body.now; expiry = c.args.expiry } in
    sym (placed_none e c.room.self (sym c.has_room.ensures ∙ c.room-test.true) (c.has_no_old.ensures.0 c.if-has_no_old.true) (c.has_no_young.ensures.0 c.if-has_no_young.true)) ∙ c.room.invariant

pub room-preserved-then-has_no_old : goal.room-preserved-then-has_no_old
room-preserved-then-has_no_old c =
    let e : Entry = record { key = c.args.key.now; body = c.args.body.now; expiry = c.args.expiry } in
    ap (placed e) c.rotate.ensures ∙ sym (placed_rotate e c.room.self (sym c.has_room.ensures ∙ c.room-test.true) (c.has_no_old.ensures.0 c.if-has_no_old.true) (unless_none c.has_no_young.result (length c.room.self.young) c.has_no_young.ensures c.if-has_no_young.false)) ∙ c.room.invariant

pub room-preserved : goal.room-preserved
room-preserved c =
    let e : Entry = record { key = c.args.key.now; body = c.args.body.now; expiry = c.args.expiry } in
    ap (placed e) c.evict.ensures ∙ sym (placed_evict e c.room.self (sym c.has_room.ensures ∙ c.room-test.true) (unless_none c.has_no_old.result (length c.room.self.old) c.has_no_old.ensures c.if-has_no_old.false)) ∙ c.room.invariant

pub returns : goal.returns
returns c =
    let e : Entry = record { key = c.args.key.now; body = c.args.body.now; expiry = c.args.expiry } in
    c.add.ensures ∙ sym (placed_room e c.room.self (sym c.has_room.ensures ∙ c.room-test.false)) ∙ c.room.invariant
