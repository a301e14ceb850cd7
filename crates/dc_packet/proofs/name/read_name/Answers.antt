use Rattle.std.proofs.Common.{◌≡◌, ◌+◌, ◌∷◌, ◌++◌, [], length, ap, sym, ◌∙◌, subst, inl, inr, arith, None}
use Rattle.dc_model.specs.Name as model
use Rattle.dc_name.proofs.TextLemmas.{length-wire-push}
use Rattle.dc_packet.proofs.WalkLemmas.{IsWalk, walk_start, walk_label, walk_pointer, walk_end, walk_past_label, walk_past_pointer, too_long, push_is, first_behind, last_behind, later_behind, first_later}
use Rattle.dc_packet.proofs.name.read_name.Goals as goal
use Rattle.dc_packet.proofs.name.read_name.Goals.{In-Some-Label, In-Some-Pointer, In-Some-End}

pub loop-name-init : goal.loop-name-init
loop-name-init c = record {
  walk = subst (λ n. IsWalk c.args.packet.now c.args.pos n None 0 c.args.pos) (sym c.root-name.ensures) (walk_start c.args.packet.now c.args.pos);
  after = omega arith;
  within = omega arith;
}

-- the part that was read
label_read : (c : In-Some-Label) → model.part_at c.args.packet.now c.loop-name.at ≡ model.label c.in-Some-Label.label.now
label_read c = sym (rw c.in-Some-Label.field-0-is at c.in-Some-Label.ensures.part)

pointer_read : (c : In-Some-Pointer) → model.part_at c.args.packet.now c.loop-name.at ≡ model.pointer c.in-Some-Pointer.to
pointer_read c = sym (rw c.in-Some-Pointer.field-0-is at c.in-Some-Pointer.ensures.part)

pub returns-in-Some-End-clause-read : goal.returns-in-Some-End-clause-read
returns-in-Some-End-clause-read c = record {
  pointers = c.loop-name.pointers;
  reads = rw c.unwrap_or.ensures (walk_end c.args.packet.now c.args.pos c.loop-name.name c.loop-name.after c.loop-name.pointers c.loop-name.at c.loop-name.invariant.walk
      (sym (rw c.in-Some-End.field-0-is at c.in-Some-End.ensures.part)));
}

pub returns-in-Some-End-clause-after : goal.returns-in-Some-End-clause-after
returns-in-Some-End-clause-after c = rw c.unwrap_or.ensures c.loop-name.invariant.after

pub returns-in-Some-End-clause-within : goal.returns-in-Some-End-clause-within
returns-in-Some-End-clause-within c =
    let here = rw c.in-Some-End.field-0-is at c.in-Some-End.ensures.within in
    rw c.unwrap_or.ensures (last_behind c.loop-name.after (c.loop-name.at + 1) (length c.args.packet.now) c.loop-name.invariant.within here)

pub returns-then-not-push-clause-read : goal.returns-then-not-push-clause-read
returns-then-not-push-clause-read c =
    let read = label_read (goal.at.returns-then-not-push-clause-read c).In-Some-Label in
    walk_past_label c.args.packet.now c.args.pos c.loop-name.name c.loop-name.after c.loop-name.pointers c.loop-name.at c.in-Some-Label.label.now c.loop-name.invariant.walk read
    (inl (too_long c.args.packet.now c.loop-name.at c.loop-name.name c.in-Some-Label.label.now read (sym c.push.ensures.fits ∙ c.if-not-push.true)))

pub returns-then-wire-pointers-gt-MOST_NAME_STEPS-clause-read :
    goal.returns-then-wire-pointers-gt-MOST_NAME_STEPS-clause-read
returns-then-wire-pointers-gt-MOST_NAME_STEPS-clause-read c =
    let read = label_read (goal.at.returns-then-wire-pointers-gt-MOST_NAME_STEPS-clause-read c).In-Some-Label in
    let label = c.in-Some-Label.label.now in
    let pushed = push_is c.loop-name.name c.push.new.self label c.push.result c.push.ensures.fits c.if-not-push.false c.push.ensures.name in
    let len : length c.wire.result.now ≡ model.wire_length (c.loop-name.name ++ (label ∷ [])) = ap (λ b. length b) c.wire.ensures.bytes ∙ ap model.wire_length pushed in
    walk_past_label c.args.packet.now c.args.pos c.loop-name.name c.loop-name.after c.loop-name.pointers c.loop-name.at label c.loop-name.invariant.walk read
    (inr (omega (arith, len, c.if-wire-pointers-gt-MOST_NAME_STEPS.true)))

pub loop-name-smaller-in-Some-Label : goal.loop-name-smaller-in-Some-Label
loop-name-smaller-in-Some-Label c =
    let label = c.in-Some-Label.label.now in
    let pushed = push_is c.loop-name.name c.push.new.self label c.push.result c.push.ensures.fits c.if-not-push.false c.push.ensures.name in
    let len : length c.wire.result.now ≡ model.wire_length c.push.new.self = ap (λ b. length b) c.wire.ensures.bytes in
    let grows : model.wire_length c.push.new.self ≡ model.wire_length c.loop-name.name + 1 + length label = ap model.wire_length pushed ∙ length-wire-push c.loop-name.name label in
    omega (arith, len, grows, c.if-wire-pointers-gt-MOST_NAME_STEPS.false)

pub loop-name-preserved-in-Some-Label : goal.loop-name-preserved-in-Some-Label
loop-name-preserved-in-Some-Label c =
    let read = label_read (goal.at.loop-name-preserved-in-Some-Label c).In-Some-Label in
    let label = c.in-Some-Label.label.now in
    let pushed = push_is c.loop-name.name c.push.new.self label c.push.result c.push.ensures.fits c.if-not-push.false c.push.ensures.name in
    let len : length c.wire.result.now ≡ model.wire_length c.push.new.self = ap (λ b. length b) c.wire.ensures.bytes in
    record {
      walk = walk_label c.args.packet.now c.args.pos c.loop-name.name c.push.new.self c.loop-name.after c.loop-name.pointers c.loop-name.at label c.loop-name.invariant.walk read pushed
          c.wire.ensures.name (omega (arith, len, c.if-wire-pointers-gt-MOST_NAME_STEPS.false));
      after = later_behind c.loop-name.after c.args.pos c.loop-name.at (c.loop-name.at + (1 + length label)) (omega arith) c.loop-name.invariant.after;
      within = c.loop-name.invariant.within;
    }

pub returns-then-wire-pointers-gt-MOST_NAME_STEPS-2-clause-read :
    goal.returns-then-wire-pointers-gt-MOST_NAME_STEPS-2-clause-read
returns-then-wire-pointers-gt-MOST_NAME_STEPS-2-clause-read c =
    let read = pointer_read (goal.at.returns-then-wire-pointers-gt-MOST_NAME_STEPS-2-clause-read c).In-Some-Pointer in
    let len : length c.wire-in-Some-Pointer.result.now ≡ model.wire_length c.loop-name.name = ap (λ b. length b) c.wire-in-Some-Pointer.ensures.bytes in
    walk_past_pointer c.args.packet.now c.args.pos c.loop-name.name c.loop-name.after c.loop-name.pointers c.loop-name.at c.in-Some-Pointer.to c.loop-name.invariant.walk read
    (omega (arith, len, c.if-wire-pointers-gt-MOST_NAME_STEPS-2.true))

pub loop-name-preserved : goal.loop-name-preserved
loop-name-preserved c =
    let read = pointer_read (goal.at.loop-name-preserved c).In-Some-Pointer in
    let len : length c.wire-in-Some-Pointer.result.now ≡ model.wire_length c.loop-name.name = ap (λ b. length b) c.wire-in-Some-Pointer.ensures.bytes in
    let here = rw c.in-Some-Pointer.field-0-is at c.in-Some-Pointer.ensures.within in
    record {
      walk = rw c.or-after.ensures (walk_pointer c.args.packet.now c.args.pos c.loop-name.name c.loop-name.after c.loop-name.pointers c.loop-name.at c.in-Some-Pointer.to c.loop-name.invariant.walk read
          (omega (arith, len, c.if-wire-pointers-gt-MOST_NAME_STEPS-2.false)));
      after = rw c.or-after.ensures (first_later c.loop-name.after c.args.pos c.loop-name.at (c.in-Some-Pointer.to + 1) c.loop-name.invariant.after);
      within = rw c.or-after.ensures (first_behind c.loop-name.after (c.loop-name.at + 2) (length c.args.packet.now) c.loop-name.invariant.within here);
    }
