use Rattle.dc_script.specs.World.{Passed-next, next_same, next_stopped}
use Rattle.dc_script.proofs.world.ScriptWorldWorld.next.Goals as goal

pub returns-clause-history : goal.returns-clause-history
returns-clause-history g c =
    let source = g.met.S.Source in
    let sink = g.met.K.Sink in
    Passed-next g.S.Source.took source.took_none source.took_both g.S.Source.refused g.S.Source.faults g.K.Sink.gained sink.gained_none sink.gained_both g.K.Sink.refused g.K.Sink.faults c.args.self.now c.hear-answer.new.self c.note.new.self
    c.args.wake c.hear-answer.result c.hear-answer.new.inbox c.hear-answer.ensures.heard c.hear-answer.ensures.same c.note.ensures.note c.hear-answer.ensures.calm c.hear-answer.ensures.unread

pub returns-clause-same : goal.returns-clause-same
returns-clause-same g c = next_same c.args.self.now c.hear-answer.new.self c.note.new.self c.hear-answer.result c.hear-answer.ensures.same c.note.ensures.note

pub returns-clause-stopped : goal.returns-clause-stopped
returns-clause-stopped g c = λ e. next_stopped c.hear-answer.new.self c.note.new.self c.hear-answer.result c.note.ensures.note (c.hear-answer.ensures.stopped e)
