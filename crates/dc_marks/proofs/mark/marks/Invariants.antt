use Rattle.dc_model.specs.Marks.{marks_of}
use Rattle.dc_marks.specs.Marked.{AreMarks}
use Rattle.dc_marks.proofs.MarkLemmas.{first}
use Rattle.dc_marks.proofs.mark.marks.Given as goal

abbrev pub invariant-loop-i : goal.invariant-loop-i
invariant-loop-i l = AreMarks l.message l.found (marks_of l.name l.wanted (first l.i l.message))
