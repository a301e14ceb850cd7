use Rattle.std.proofs.Common.{subst}
use Rattle.dc_model.specs.Message.{Message}
use Rattle.dc_model.specs.Marks.{marks_of}
use Rattle.dc_marks.specs.Marked.{AreMarks}
use Rattle.dc_marks.proofs.MarkLemmas.{message_in-is}
use Rattle.dc_marks.proofs.walk.found.Goals as goal

pub returns : goal.returns
returns c = subst (λ (m : Message). AreMarks m c.marks.result (marks_of c.args.name.now c.args.qtype m)) (message_in-is _ _ c.new.ensures) c.marks.ensures
