use Rattle.std.proofs.Common.{◌-◌, arith, ◌∙◌, ap, length, refl}
use Rattle.dc_model.specs.Cache.{capacity}
use Rattle.dc_store.specs.declared.plain.PlainStore.TheInside.{Inside}
use Rattle.dc_store.proofs.Packed.{evicted_view, evicted_packed, last_fits, end_stays, end_grows}
use Rattle.dc_store.proofs.plain.PlainStore.evict.Goals as goal

pub overflow_sub-self : goal.overflow_sub-self
overflow_sub-self c =
    let f = last_fits c.self.inside c.args.self.now c.pop.new.self.items c.in-Some.last c.self.view_is c.self.invariant c.requires c.in-Some.ensures.items in
    omega arith

pub invariant_of-self-else-self-len : goal.invariant_of-self-else-self-len
invariant_of-self-else-self-len c =
    let n : Inside = record c.self.inside { records = c.pop.new.self; old_size = c.self.inside.old_size - c.size_of_record.result } in
    evicted_packed c.self.inside n c.args.self.now c.in-Some.last c.self.view_is c.self.invariant c.requires
    (record { size = refl; heads = refl; bytes = refl; records = c.in-Some.ensures.items; capacity = c.in-Some.ensures.capacity; young = refl; young_size = refl; old_size = ap (λ k. c.self.inside.old_size - k) c.size_of_record.ensures; motion = refl })
    (end_stays c.self.inside.young (length c.pop.new.self.items) (capacity c.self.inside.size) c.self.inside.end (λ e. c.if-self-len.false (omega arith)))

pub returns-then-self-len : goal.returns-then-self-len
returns-then-self-len c =
    let n : Inside = record c.self.inside { records = c.pop.new.self; old_size = c.self.inside.old_size - c.size_of_record.result; end = c.len-self-inside.result } in
    evicted_view c.self.inside n c.args.self.now c.in-Some.last c.self.view_is c.self.invariant c.requires
    (record { size = refl; heads = refl; bytes = refl; records = c.in-Some.ensures.items; capacity = c.in-Some.ensures.capacity; young = refl; young_size = refl; old_size = ap (λ k. c.self.inside.old_size - k) c.size_of_record.ensures; motion = refl })
    (end_grows c.self.inside.young (length c.pop.new.self.items) (capacity c.self.inside.size) c.self.inside.end c.len-self-inside.result (omega arith) (c.len-self-inside.ensures ∙ c.self.invariant.block))

pub returns-else-self-len : goal.returns-else-self-len
returns-else-self-len c =
    let n : Inside = record c.self.inside { records = c.pop.new.self; old_size = c.self.inside.old_size - c.size_of_record.result } in
    evicted_view c.self.inside n c.args.self.now c.in-Some.last c.self.view_is c.self.invariant c.requires
    (record { size = refl; heads = refl; bytes = refl; records = c.in-Some.ensures.items; capacity = c.in-Some.ensures.capacity; young = refl; young_size = refl; old_size = ap (λ k. c.self.inside.old_size - k) c.size_of_record.ensures; motion = refl })
    (end_stays c.self.inside.young (length c.pop.new.self.items) (capacity c.self.inside.size) c.self.inside.end (λ e. c.if-self-len.false (omega arith)))
