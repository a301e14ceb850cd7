use Rattle.std.proofs.Common.{◌≡◌, length, ◌++◌, List, ℕ}
use Rattle.dc_lookup.specs.Filter.{flushed}
use Rattle.dc_sieve.proofs.FlushLemmas.{SoFlushed}
use Rattle.dc_sieve.proofs.settle.flush.Given as goal

abbrev pub invariant-lines : goal.invariant-lines
invariant-lines g l = SoFlushed g.K.Sink.gained g.K.Sink.faults l.fn.engine l.fn.sink l.engine l.sink

abbrev pub decreases-lines : goal.decreases-lines
decreases-lines g l = length l.engine.queue
