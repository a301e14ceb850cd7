use Rattle.std.proofs.Common.{length, None, sym, ◌∙◌, ap, subst, arith}
use Rattle.std.specs.Prelude.{option_map}
use Rattle.dc_packet.proofs.WalkLemmas.{IsWalk, walk_start}
use Rattle.dc_items.specs.Read.{plain_read}
use Rattle.dc_items.proofs.PlainLemmas.{eqb_zero, eqb_some, plain_none, plain_end, plain_long, plain_more}
use Rattle.dc_items.proofs.plain.plain_name.Goals as goal

pub loop-label-init : goal.loop-label-init
loop-label-init c = record {
  walk = subst (λ n. IsWalk c.args.body.now c.args.pos n None 0 c.args.pos) (sym c.root-name.ensures) (walk_start c.args.body.now c.args.pos);
  from = omega arith;
}

pub returns-in_err-label-clause-name : goal.returns-in_err-label-clause-name
returns-in_err-label-clause-name c =
    ap (λ o. option_map plain_read o) c.from_residual.ensures
    ∙ sym (plain_none c.args.body.now c.args.pos c.loop-label.name c.loop-label.at c.loop-label.invariant.walk c.in_err-label.ensures.label)

pub returns-then-is_empty-clause-name : goal.returns-then-is_empty-clause-name
returns-then-is_empty-clause-name c =
    sym (plain_end c.args.body.now c.args.pos c.loop-label.name c.loop-label.at c.in_ok-label.label.now c.loop-label.invariant.walk c.in_ok-label.ensures.label
    (eqb_zero (length c.in_ok-label.label.now) (sym c.is_empty.ensures ∙ c.if-is_empty.true)))

pub returns-then-not-push-clause-name : goal.returns-then-not-push-clause-name
returns-then-not-push-clause-name c =
    let some = eqb_some (length c.in_ok-label.label.now) (sym c.is_empty.ensures ∙ c.if-is_empty.false) in
    sym (plain_long c.args.body.now c.args.pos c.loop-label.name c.loop-label.at c.in_ok-label.label.now c.push.result c.loop-label.invariant.walk c.in_ok-label.ensures.label some c.push.ensures.fits c.if-not-push.true)

pub loop-label-preserved : goal.loop-label-preserved
loop-label-preserved c =
    let some = eqb_some (length c.in_ok-label.label.now) (sym c.is_empty.ensures ∙ c.if-is_empty.false) in
    record {
      walk = plain_more c.args.body.now c.args.pos c.loop-label.name c.push.new.self c.loop-label.at c.in_ok-label.label.now c.push.result c.loop-label.invariant.walk c.in_ok-label.ensures.label some c.push.ensures.fits c.if-not-push.false c.push.ensures.name;
      from = omega arith;
    }
