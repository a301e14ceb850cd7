use Rattle.std.proofs.Common.{◌≡◌, ◌≤◌, ◌+◌, length}
use Rattle.dc_model.specs.Name.{wire}
use Rattle.dc_model.specs.Reply.{name_written}
use Rattle.dc_reply.specs.Put.{with_more}
use Rattle.dc_reply.proofs.writer.Writer.name.Given as goal

abbrev pub invariant-loop-above : goal.invariant-loop-above
invariant-loop-above l = record {
  written : with_more l.self.written (name_written l.rest) ≡ with_more l.initial.self.written (name_written l.initial.rest);
  len : length l.self.written.bytes + length (wire l.rest) ≤ length l.initial.self.written.bytes + length (wire l.initial.rest);
}

abbrev pub decreases-loop-above : goal.decreases-loop-above
decreases-loop-above l = length l.rest
