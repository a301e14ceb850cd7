use Rattle.std.proofs.Common.{refl, arith}
use Rattle.dc_reply.specs.Bodies.{body_of}
use Rattle.dc_reply.proofs.AnswerLemmas.{answer-steps}
use Rattle.dc_reply.proofs.writer.Writer.answer.Goals as goal

pub returns-clause-written : goal.returns-clause-written
returns-clause-written c =
    answer-steps c.args.self.now.written (record { owner = c.args.owner.now; kind = c.args.kind; ttl = c.args.ttl; body = body_of c.args.body })
    c.name.new.self.written c.fixed.new.self.written c.body.new.self.written c.set_u16.new.self.written _ _ _
    c.name.ensures.written (omega arith) c.fixed.ensures c.body.ensures.written (omega arith) refl c.set_u16.ensures
