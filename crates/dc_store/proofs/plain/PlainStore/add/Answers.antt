use Rattle.std.proofs.Common.{◌≡◌, ◌+◌, arith, ◌∙◌, ◌++◌, length, take, drop, refl, vec_len}
use Rattle.std.specs.Vec.{with_items}
use Rattle.dc_store.specs.declared.plain.PlainStore.TheInside.{Inside}
use Rattle.dc_store.proofs.Lists.{sizes-payload, sizes-parts}
use Rattle.dc_store.proofs.Packed.{added_view, added_packed, room_is, with_all, used_is}
use Rattle.dc_store.proofs.plain.PlainStore.add.Goals as goal

pub overflow_sub-used : goal.overflow_sub-used
overflow_sub-used c =
    let a = c.self.inside in
    let x = sizes-payload a.records.items in
    let y = sizes-parts a.young a.records.items in
    omega arith

pub write_front-requires : goal.write_front-requires
write_front-requires c =
    let a = c.self.inside in
    let x = sizes-payload a.records.items in
    let y = sizes-parts a.young a.records.items in
    let r = room_is a c.args.self.now _ c.self.view_is c.self.invariant c.requires.room in
    omega arith

pub unwrap-requires : goal.unwrap-requires
unwrap-requires c =
    let a = c.self.inside in
    let x = sizes-payload a.records.items in
    let y = sizes-parts a.young a.records.items in
    let r = room_is a c.args.self.now _ c.self.view_is c.self.invariant c.requires.room in
    c.insert.ensures.succeeds (omega arith)

pub invariant_of-self : goal.invariant_of-self
invariant_of-self c =
    let a = c.self.inside in
    let n : Inside = record a { records = c.insert.new.self; bytes = with_items a.bytes c.write_front.new.bytes; young = a.young + 1; young_size = a.young_size + (20 + length c.args.key.now + length c.args.body.now); motion = c.saturating_add-self-inside.result } in
    let u = used_is a c.len.result c.self.invariant c.len.ensures in
    let w = c.write_front.auto.bytes in
    let v = c.deref_mut.ensures.len in
    let l : length c.write_front.new.bytes ≡ vec_len a.bytes = omega arith in
    let k = c.args.key.now in
    let b = c.args.body.now in
    added_packed a n c.args.self.now k b c.args.expiry c.self.view_is c.self.invariant
    (record {
      size = refl;
      heads = refl;
      bytes = with_all (vec_len a.bytes) c.write_front.new.bytes _ l ∙ c.write_front.ensures ∙ (λ i. k ++ (b ++ (take (u i) (c.deref_mut.ensures.value i) ++ drop (length k + length b + u i) (c.deref_mut.ensures.value i))));
      records = rw c.unwrap.ensures at c.insert.ensures.items;
      block = refl;
      capacity = c.insert.ensures.capacity;
      young = refl;
      young_size = refl;
      old_size = refl;
      end = refl;
      motion = c.saturating_add-self-inside.ensures;
    })
    c.requires.room

pub returns : goal.returns
returns c =
    let a = c.self.inside in
    let n : Inside = record a { records = c.insert.new.self; bytes = with_items a.bytes c.write_front.new.bytes; young = a.young + 1; young_size = a.young_size + (20 + length c.args.key.now + length c.args.body.now); motion = c.saturating_add-self-inside.result } in
    let u = used_is a c.len.result c.self.invariant c.len.ensures in
    let w = c.write_front.auto.bytes in
    let v = c.deref_mut.ensures.len in
    let l : length c.write_front.new.bytes ≡ vec_len a.bytes = omega arith in
    let k = c.args.key.now in
    let b = c.args.body.now in
    added_view a n c.args.self.now k b c.args.expiry c.self.view_is c.self.invariant
    (record {
      size = refl;
      heads = refl;
      bytes = with_all (vec_len a.bytes) c.write_front.new.bytes _ l ∙ c.write_front.ensures ∙ (λ i. k ++ (b ++ (take (u i) (c.deref_mut.ensures.value i) ++ drop (length k + length b + u i) (c.deref_mut.ensures.value i))));
      records = rw c.unwrap.ensures at c.insert.ensures.items;
      block = refl;
      capacity = c.insert.ensures.capacity;
      young = refl;
      young_size = refl;
      old_size = refl;
      end = refl;
      motion = c.saturating_add-self-inside.ensures;
    })
