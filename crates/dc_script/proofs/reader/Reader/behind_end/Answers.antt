use Rattle.std.proofs.Common.{◌∙◌, arith}
use Rattle.dc_script.proofs.StateLemmas.{Breaks-next, Breaks-rest, IsOver-here}
use Rattle.dc_script.proofs.reader.Reader.behind_end.Goals as goal

pub returns-in-Found-clause-answer : goal.returns-in-Found-clause-answer
returns-in-Found-clause-answer g c = Breaks-next _ _ _ _ _ _ _ (c.in-Found.ensures.ended ∙ c.requires.ended) c.in-Found.ensures.found c.number.ensures

pub returns-in-TooLong-clause-answer : goal.returns-in-TooLong-clause-answer
returns-in-TooLong-clause-answer g c =
    let found = c.in-TooLong.ensures.found in
    Breaks-rest _ _ _ _ _ _ _ (c.in-TooLong.ensures.ended ∙ c.requires.ended) (omega (arith, found.1)) c.number-in-TooLong.ensures

pub returns-then-is_empty-clause-answer : goal.returns-then-is_empty-clause-answer
returns-then-is_empty-clause-answer g c =
    let found = c.in-Ended.ensures.found in
    (found.2, IsOver-here _ _ _ _ (c.in-Ended.ensures.ended ∙ c.requires.ended) found.0 c.if-is_empty.ensures)

pub returns-else-is_empty-clause-answer : goal.returns-else-is_empty-clause-answer
returns-else-is_empty-clause-answer g c =
    Breaks-rest _ _ _ _ _ _ _ (c.in-Ended.ensures.ended ∙ c.requires.ended) c.if-is_empty.ensures c.number-else-is_empty.ensures
