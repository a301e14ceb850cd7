use Rattle.std.proofs.Common.{◌≡◌, ◌∷◌, [], ◌∙◌, false, ap, subst}
use Rattle.dc_event.specs.History.{asked, answer_by}
use Rattle.dc_record.specs.Recorded.{Passed}
use Rattle.dc_record.proofs.RecordLemmas.{passed_event, passed_none, next_counts}
use Rattle.dc_record.proofs.recorder.RecordWorld.hear.Goals as goal

pub returns-in-Event-clause-history : goal.returns-in-Event-clause-history
returns-in-Event-clause-history g c =
    let h = asked c.args.wake (answer_by c.write.result c.next.new.inbox) ∷ [] in
    let in' = c.self.inside in
    let well : in'.failed ≡ false = ap (λ r. r.failed) c.self.view_is ∙ c.requires in
    subst (λ r. Passed g.W.World.history g.W.World.faults g.K.Sink.gained g.K.Sink.refused g.K.Sink.faults r h c.write.new.self) c.self.view_is
    (passed_event g.W.World.history g.W.World.faults g.K.Sink.gained g.K.Sink.refused g.K.Sink.faults (record { world = in'.world; sink = in'.sink; failed = in'.failed; faults = in'.faults }) c.write.new.self c.next.new.self c.args.wake c.next.new.inbox c.write.result well
    c.in-Event.ensures.history c.in-Event.ensures.count c.write.ensures)

pub returns-in_default : goal.returns-in_default
returns-in_default g c =
    let h = asked c.args.wake (answer_by c.next.result c.next.new.inbox) ∷ [] in
    let in' = c.self.inside in
    let well : in'.failed ≡ false = ap (λ r. r.failed) c.self.view_is ∙ c.requires in
    record {
      history = subst (λ r. Passed g.W.World.history g.W.World.faults g.K.Sink.gained g.K.Sink.refused g.K.Sink.faults r h (record { world = c.next.new.self; sink = in'.sink; failed = in'.failed; faults = in'.faults })) c.self.view_is
          (passed_none g.W.World.history g.W.World.faults g.K.Sink.gained g.K.Sink.refused g.K.Sink.faults g.met.K.Sink.gained_none (record { world = in'.world; sink = in'.sink; failed = in'.failed; faults = in'.faults }) c.next.new.self c.args.wake c.next.new.inbox c.next.result
          c.in_default.not-Event well c.next.ensures.history (c.next.ensures.count ∙ next_counts c.next.result c.args.wake c.next.new.inbox _));
      faults = ap (λ r. r.faults) c.self.view_is;
      warrant = c.next.ensures.warrant;
    }
