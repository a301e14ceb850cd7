use Rattle.std.proofs.Common.{◌∷◌, [], ◌∙◌, sym, subst}
use Rattle.dc_event.specs.History.{listened}
use Rattle.std.specs.Result.{is_ok}
use Rattle.dc_record.specs.Recorded.{Passed}
use Rattle.dc_record.proofs.RecordLemmas.{passed_listened, listen_counts}
use Rattle.dc_record.proofs.recorder.RecordWorldWorld.listen.Goals as goal

pub returns-then-is_err-clause-history : goal.returns-then-is_err-clause-history
returns-then-is_err-clause-history g c =
    let h = listened c.args.addr c.args.send_from (is_ok c.listen-answer.result) ∷ [] in
    let in' = c.self.inside in
    subst (λ r. Passed g.W.World.history g.W.World.faults g.K.Sink.gained g.K.Sink.refused g.K.Sink.faults r h c.fail.new.self) c.self.view_is
    (subst (λ r. Passed g.W.World.history g.W.World.faults g.K.Sink.gained g.K.Sink.refused g.K.Sink.faults (record { world = in'.world; sink = in'.sink; failed = in'.failed; faults = in'.faults }) h r) (sym c.fail.ensures)
    (passed_listened g.W.World.history g.W.World.faults g.K.Sink.gained g.K.Sink.refused g.K.Sink.faults g.met.K.Sink.gained_none (record { world = in'.world; sink = in'.sink; failed = in'.failed; faults = in'.faults }) c.listen-answer.new.self _ c.args.addr c.args.send_from
    (is_ok c.listen-answer.result) c.listen-answer.ensures.history (c.listen-answer.ensures.count ∙ listen_counts c.listen-answer.result c.args.addr c.args.send_from _)))

pub returns-else-is_err-clause-history : goal.returns-else-is_err-clause-history
returns-else-is_err-clause-history g c =
    let h = listened c.args.addr c.args.send_from (is_ok c.listen-answer.result) ∷ [] in
    let in' = c.self.inside in
    subst (λ r. Passed g.W.World.history g.W.World.faults g.K.Sink.gained g.K.Sink.refused g.K.Sink.faults r h (record { world = c.listen-answer.new.self; sink = in'.sink; failed = in'.failed; faults = in'.faults })) c.self.view_is
    (passed_listened g.W.World.history g.W.World.faults g.K.Sink.gained g.K.Sink.refused g.K.Sink.faults g.met.K.Sink.gained_none (record { world = in'.world; sink = in'.sink; failed = in'.failed; faults = in'.faults }) c.listen-answer.new.self in'.faults c.args.addr
    c.args.send_from (is_ok c.listen-answer.result) c.listen-answer.ensures.history (c.listen-answer.ensures.count ∙ listen_counts c.listen-answer.result c.args.addr c.args.send_from _))
