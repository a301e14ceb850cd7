use Rattle.std.proofs.Common.{[], refl, ◌∙◌}
use Rattle.dc_event.specs.Answers.{heard_by, well_heard}
use Rattle.dc_script.specs.Read.{unread, ReadOff-both}
use Rattle.dc_script.specs.World.{SaysNoMore}
use Rattle.dc_script.proofs.StateLemmas.{Breaks-far, Breaks-open, IfFailed-then}
use Rattle.dc_event.specs.Causes.{fares_behind}
use Rattle.dc_script.proofs.reader.Reader.before_end.Goals as goal

pub returns-in-TooLong-clause-answer : goal.returns-in-TooLong-clause-answer
returns-in-TooLong-clause-answer g c =
    let found = c.in-TooLong.ensures.found in
    Breaks-far _ _ _ _ _ _ _ 131201 refl (c.in-TooLong.ensures.ended ∙ c.requires.ended) found.0 found.1 found.2 c.number.ensures

pub returns-in-Ended-clause-answer : goal.returns-in-Ended-clause-answer
returns-in-Ended-clause-answer g c =
    let found = c.in-Ended.ensures.found in
    Breaks-open _ _ _ _ _ _ _ (c.in-Ended.ensures.ended ∙ c.requires.ended) found.0 found.1 found.2 c.number-in-Ended.ensures

pub returns-in-Found-clause-heard : goal.returns-in-Found-clause-heard
returns-in-Found-clause-heard g c =
    ReadOff-both g.S.Source.took g.met.S.Source.took_none g.met.S.Source.took_both _ _ _ _ _ _ _ _ _ [] (heard_by c.line_found.result c.line_found.new.inbox)
    c.in-Found.ensures.heard c.line_found.ensures.heard

pub returns-in-Found-clause-stopped : goal.returns-in-Found-clause-stopped
returns-in-Found-clause-stopped g c =
    let now = c.line_found.new.self in
    IfFailed-then c.line_found.result (SaysNoMore (unread now.ended now.found now.rest.line now.rest.rest)) now.failed c.peek.new.self.failed c.args.self.now.failed
    c.in-Found.ensures.stopped c.line_found.ensures.stopped

pub returns-in-Found-clause-fares : goal.returns-in-Found-clause-fares
returns-in-Found-clause-fares g c =
    fares_behind g.S.Source.took g.met.S.Source.took_both g.S.Source.refused g.S.Source.faults (well_heard c.line_found.result) _ _ _ _
    c.in-Found.ensures.heard.taken c.in-Found.ensures.fares c.line_found.ensures.fares
