use Rattle.std.proofs.Common.{◌≡◌, true, ap, rules}
use Rattle.std.specs.Bool.{IsTrue}
use Rattle.dc_model.specs.Reply.{Reply}
use Rattle.dc_reply.specs.Draft.{Draft, draft_of}
use Rattle.dc_machine.specs.Turn.{Following}
use Rattle.dc_desk.specs.Steps.{Follows}
use Rattle.dc_desk.specs.declared.outcome.Outcome.{Outcome}
use Rattle.dc_desk.specs.declared.outcome.Outcome.TheVariants.{Waiting, Replied, Dropped}
use Rattle.dc_desk.specs.declared.step.Step.TheVariants.{End}
use Rattle.dc_look.proofs.tests.looked.Goals as goal

begun : (d : Draft) (r : Reply) → d ≡ draft_of r → IsTrue d.begun
unfolding draft_of
begun d r e =
    let h : d.begun ≡ true = ap (λ (x : Draft). x.begun) e in
    search rules

-- A reply that was made is begun.
replied : (o : Outcome) (d : Draft) (f : Following) → o ≡ Replied → Follows (End o) d f → IsTrue d.begun
replied Waiting d f e k = cc
replied Replied d f e k = begun d k.0 k.2
replied (Dropped c) d f e k = cc

pub returns-in-End-Replied : goal.returns-in-End-Replied
returns-in-End-Replied c e = replied c.in-End-Replied.field-0 c.look.new.desk.reply _ c.in-End-Replied.field-0-is c.in-End-Replied.ensures.next
