use Rattle.std.proofs.Common.{◌≡◌, subst}
use Rattle.dc_model.specs.Message.{Message, rcode}
use Rattle.dc_model.specs.Marks.{marks_of, class_of}
use Rattle.dc_marks.specs.Classes.{class_named}
use Rattle.dc_marks.proofs.MarkLemmas.{message_in-is}
use Rattle.dc_marks.proofs.class.classify.Goals as goal

pub returns : goal.returns
returns c =
    subst (λ (m : Message). c.class_of.result ≡ class_named (class_of c.args.control.now (rcode m) (marks_of c.args.name.now c.args.qtype m))) (message_in-is _ _ c.new-message.ensures)
    (c.class_of.ensures (marks_of c.args.name.now c.args.qtype c.new-message.result) c.marks-found.ensures)
