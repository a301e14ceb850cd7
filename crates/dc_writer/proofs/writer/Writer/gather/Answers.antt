use Rattle.std.proofs.Common.{[], ap, sym, ◌∙◌}
use Rattle.dc_writer.specs.Written.{Written}
use Rattle.dc_writer.proofs.Writing.{held_then, held_early}
use Rattle.dc_writer.proofs.Faring.{fated_then}
use Rattle.dc_writer.proofs.writer.Writer.gather.Goals as goal

pub returns-then-not-self-clause-passed : goal.returns-then-not-self-clause-passed
returns-then-not-self-clause-passed g c =
    held_then g.K.Sink.gained g.K.Sink.faults g.met.K.Sink.gained_both c.flush.new.self.failed c.hold.new.self.failed c.args.sink.now c.flush.new.sink c.hold.new.sink c.args.self.now.held c.args.bytes.now c.hold.new.self.held (ap (λ (w : Written). w.failed) (sym c.self-2.view_is) ∙ c.if-not-self.true) c.flush.ensures.passed c.hold.ensures.passed

pub returns-else-not-self-clause-passed : goal.returns-else-not-self-clause-passed
returns-else-not-self-clause-passed g c =
    held_early g.K.Sink.gained g.K.Sink.faults g.met.K.Sink.gained_both c.flush.new.self.failed c.args.sink.now c.flush.new.sink c.args.self.now.held c.args.bytes.now c.flush.new.self.held (ap (λ (w : Written). w.failed) (sym c.self-2.view_is) ∙ c.if-not-self.false) c.flush.ensures.passed

pub returns-then-not-self-clause-fared : goal.returns-then-not-self-clause-fared
returns-then-not-self-clause-fared g c =
    fated_then g.K.Sink.gained g.K.Sink.refused g.K.Sink.faults g.met.K.Sink.gained_both c.flush.new.self.failed c.hold.new.self.failed c.args.sink.now c.flush.new.sink c.hold.new.sink c.args.self.now.held [] (ap (λ (w : Written). w.failed) (sym c.self-2.view_is) ∙ c.if-not-self.true) c.flush.ensures.passed c.flush.ensures.fared c.hold.ensures.fared
