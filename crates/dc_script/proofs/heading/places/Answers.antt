use Rattle.std.proofs.Common.{refl, sym, ◌∙◌, arith}
use Rattle.dc_script.proofs.Placing.{so_far_start, so_far_more, so_far_none, so_far_full, so_far_done}
use Rattle.dc_script.proofs.heading.places.Goals as goal

pub loop-word-init : goal.loop-word-init
loop-word-init c = so_far_start c.args.words.now _ _ refl refl

pub returns-then-filled-eq-MOST_SERVERS : goal.returns-then-filled-eq-MOST_SERVERS
returns-then-filled-eq-MOST_SERVERS c = so_far_full c.args.words.now _ _ _ _ c.in-Some.word.now c.loop-word.invariant c.in-Some.ensures c.if-filled-eq-MOST_SERVERS.true

pub returns-in_err-places : goal.returns-in_err-places
returns-in_err-places c =
    rw c.from_residual.ensures (so_far_none c.args.words.now _ _ _ _ c.in-Some.word.now c.loop-word.invariant c.in-Some.ensures (sym c.server.ensures ∙ c.in_err-places.was))

pub loop-word-preserved : goal.loop-word-preserved
loop-word-preserved c =
    so_far_more c.args.words.now _ _ _ _ c.in-Some.word.now c.in_ok-places.field-0 c.loop-word.invariant c.in-Some.ensures (sym c.server.ensures ∙ c.in_ok-places.was) (omega (arith, c.loop-word.invariant.room))

pub returns : goal.returns
returns c = so_far_done c.args.words.now _ _ _ c.loop-word.invariant c.in_default.ensures.0
