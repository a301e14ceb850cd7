use Rattle.std.proofs.Common.{◌+◌, ◌∷◌, ◌++◌, [], vec_len, IsNone, sym, subst, arith}
use Rattle.dc_machine.specs.Kept.{AllOf}
use Rattle.dc_active.proofs.ListLemmas.{all_none, all_push, done}
use Rattle.dc_active.proofs.work.spare_works.Goals as goal

pub loop-i-init : goal.loop-i-init
loop-i-init c = record {
  many = c.in_ok-works.ensures.len;
  room = omega (arith, c.in_ok-works.ensures.exact);
  idle = subst (λ ws. AllOf (λ w. IsNone w.value.sender.attempt) ws) (sym c.in_ok-works.ensures.items) (all_none (λ w. IsNone w.value.sender.attempt));
}

pub loop-i-preserved : goal.loop-i-preserved
loop-i-preserved c =
    let items = done c.push.result c.unwrap.result (c.loop-i.works.items ++ c.in_ok-idle_work.field-0 ∷ []) c.push.new.self.items c.loop-i.works.items c.unwrap.ensures c.push.ensures.items in
    let many = done c.push.result c.unwrap.result (vec_len c.loop-i.works + 1) (vec_len c.push.new.self) (vec_len c.loop-i.works) c.unwrap.ensures c.push.ensures.len in
    record {
      many = omega (arith, many, c.loop-i.invariant.many);
      room = omega (arith, c.loop-i.invariant.room, c.push.ensures.capacity);
      idle = subst (λ ws. AllOf (λ w. IsNone w.value.sender.attempt) ws) (sym items) (all_push (λ w. IsNone w.value.sender.attempt) c.loop-i.works.items c.in_ok-idle_work.field-0 c.loop-i.invariant.idle c.in_ok-idle_work.ensures);
    }
