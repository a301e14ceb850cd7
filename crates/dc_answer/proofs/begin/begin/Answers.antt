use Rattle.std.proofs.Common.{true, subst, arith}
use Rattle.dc_model.specs.Reply.{Reply}
use Rattle.dc_machine.specs.Query as machine
use Rattle.dc_frames.specs.View.{query_of}
use Rattle.dc_answer.specs.Replies.{Replies}
use Rattle.dc_answer.proofs.Aliases.{first_aliases-none, first_aliases-all, first_aliases-exceed}
use Rattle.dc_answer.proofs.begin.begin.Goals as goal

pub loop-i-init : goal.loop-i-init
loop-i-init c = subst (λ (r : Reply). Replies true c.ask.new.reply r) (first_aliases-none (query_of c.args.query.now)) c.ask.ensures

pub returns-then-not-add_alias : goal.returns-then-not-add_alias
returns-then-not-add_alias c =
    first_aliases-exceed (query_of c.args.query.now) _ c.add_alias.new.reply c.add_alias.new.reply c.if-not-add_alias.ensures

pub returns : goal.returns
returns c =
    let q : machine.Query = query_of c.args.query.now in
    subst (λ (r : Reply). Replies true c.loop-i.reply r) (first_aliases-all q c.loop-i.i (omega arith)) c.loop-i.invariant
