use Rattle.std.proofs.Common.{ap, ◌∙◌}
use Rattle.dc_packet.specs.declared.record.Rr.{Rr}
use Rattle.dc_reply.specs.Bodies.{body_of}
use Rattle.dc_model.specs.Message.{kept_ttl}
use Rattle.dc_machine.specs.Turn.{reply_of}
use Rattle.dc_frames.specs.View.{query_of}
use Rattle.dc_answer.specs.Heard.{first_heard}
use Rattle.dc_answer.proofs.Making.{Replies-begun}
use Rattle.dc_answer.proofs.HeardLemmas.{record_skipped, record_added}
use Rattle.dc_answer.proofs.heard.add_record.Goals as goal

pub returns-then-not-is_heard : goal.returns-then-not-is_heard
returns-then-not-is_heard c =
    record_skipped (query_of c.args.query.now) c.args.message.now c.args.i c.is_heard.result c.args.reply.now c.requires.number c.is_heard.ensures c.if-not-is_heard.true c.requires.before

pub rr-requires : goal.rr-requires
rr-requires c = Replies-begun c.args.reply.now (reply_of (query_of c.args.query.now) (first_heard c.args.i (query_of c.args.query.now) c.args.message.now)) c.requires.before

pub returns : goal.returns
returns c =
    record_added (query_of c.args.query.now) c.args.message.now c.args.i c.is_heard.result c.name.result.now c.row-rr.result.kind c.kept_ttl.result (body_of c.lent.result) c.rr.result c.args.reply.now c.rr.new.self
    c.requires.number c.is_heard.ensures c.if-not-is_heard.false
    c.name.ensures
    (ap (λ (r : Rr). r.kind) c.row-rr.ensures)
    (c.kept_ttl.ensures ∙ ap (λ (r : Rr). kept_ttl r.ttl) c.row-rr.ensures)
    (c.lent.ensures ∙ c.data-data.ensures)
    c.requires.before c.rr.ensures.fits c.rr.ensures.added
