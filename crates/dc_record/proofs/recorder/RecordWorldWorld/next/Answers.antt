use Rattle.std.proofs.Common.{◌∷◌, [], ◌∙◌, sym, ap, subst}
use Rattle.dc_event.specs.History.{asked, failed}
use Rattle.dc_event.specs.Causes.{counted}
use Rattle.dc_record.specs.Recorded.{Passed}
use Rattle.dc_record.proofs.RecordLemmas.{passed_failed}
use Rattle.dc_record.proofs.recorder.RecordWorldWorld.next.Goals as goal

pub returns-then-self-clause-history : goal.returns-then-self-clause-history
returns-then-self-clause-history g c =
    subst (λ r. Passed g.W.World.history g.W.World.faults g.K.Sink.gained g.K.Sink.refused g.K.Sink.faults c.args.self.now (asked c.args.wake failed ∷ []) r) (sym c.fail.ensures)
    (passed_failed g.W.World.history g.W.World.faults g.K.Sink.gained g.K.Sink.refused g.K.Sink.faults g.met.W.World.history_none g.met.K.Sink.gained_none c.args.self.now (counted c.args.self.now.faults) c.args.wake
    (sym (ap (λ r. r.failed) c.self.view_is) ∙ c.if-self.true))
