use Rattle.std.proofs.Common.{◌≡◌, ◌∙◌, ◌+◌, ℕ, length, take, ap, sym, arith}
use Rattle.dc_model.specs.Reply.{Written, Answer}
use Rattle.dc_reply.specs.Bodies.{answer_of}
use Rattle.dc_reply.proofs.DraftLemmas.{draft-answer, answer-fits, answer-exceeds, more-least, more-known, more-undone}
use Rattle.dc_reply.proofs.reply.Reply.rr.Goals as goal

pub returns-then-plain_len-len-clause-fits : goal.returns-then-plain_len-len-clause-fits
returns-then-plain_len-len-clause-fits c r e =
    let answer : Answer = answer_of c.args.owner.now c.args.kind c.args.ttl c.args.body in
    let least = more-least c.self.inside.writer.written answer in
    answer-exceeds r answer _ (c.self.view_is ∙ e) (omega (arith, c.self.invariant.whole))

pub truncate-requires-clause-known : goal.truncate-requires-clause-known
truncate-requires-clause-known c =
    let least = more-known c.self.inside.writer.written c.answer.new.self.written _ c.answer.ensures.written in
    omega arith

pub returns-then-len-gt-MOST-clause-fits : goal.returns-then-len-gt-MOST-clause-fits
returns-then-len-gt-MOST-clause-fits c r e =
    let size = ap (λ (w : Written). length w.bytes) c.answer.ensures.written in
    answer-exceeds r (answer_of c.args.owner.now c.args.kind c.args.ttl c.args.body) _ (c.self.view_is ∙ e) (omega arith)

pub returns-then-len-gt-MOST-clause-same : goal.returns-then-len-gt-MOST-clause-same
returns-then-len-gt-MOST-clause-same c _ =
    let after : Written = c.answer.new.self.written in
    let undone : c.truncate.new.self.written ≡ c.self.inside.writer.written =
    c.truncate.ensures
    ∙ ap (λ (n : ℕ). record { bytes = take n after.bytes; table = take c.known-known.result after.table }) c.len-len.ensures.len
    ∙ ap (λ (n : ℕ). record { bytes = take (length c.self.inside.writer.written.bytes) after.bytes; table = take n after.table }) c.known-known.ensures
    ∙ more-undone c.self.inside.writer.written after _ c.answer.ensures.written in
    ap (λ (w : Written). record { begun = c.self.inside.begun; id = c.self.inside.id; flags = c.self.inside.flags; count = c.self.inside.count; asked = c.self.inside.asked; written = w }) undone
    ∙ c.self.view_is

pub invariant_of-self-2 : goal.invariant_of-self-2
invariant_of-self-2 c =
    let least = more-least c.self.inside.writer.written (answer_of c.args.owner.now c.args.kind c.args.ttl c.args.body) in
    let size = ap (λ (w : Written). length w.bytes) c.answer.ensures.written in
    record {
      response = c.self.invariant.response;
      answers = omega (arith, c.self.invariant.answers);
      question = omega (arith, c.self.invariant.question);
      short = c.self.invariant.short;
      whole = omega arith;
    }

pub returns-clause-fits : goal.returns-clause-fits
returns-clause-fits c r e =
    answer-fits r (answer_of c.args.owner.now c.args.kind c.args.ttl c.args.body) _ c.answer.new.self.written (c.self.view_is ∙ e) c.answer.ensures.written (omega arith)

pub returns-clause-added : goal.returns-clause-added
returns-clause-added c r e _ =
    ap (λ (w : Written). record { begun = c.self.inside.begun; id = c.self.inside.id; flags = c.self.inside.flags; count = c.self.inside.count + 1; asked = c.self.inside.asked; written = w }) c.answer.ensures.written
    ∙ sym (draft-answer r (answer_of c.args.owner.now c.args.kind c.args.ttl c.args.body) _ (c.self.view_is ∙ e))
