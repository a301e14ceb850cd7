use Rattle.std.proofs.Common.{ℕ, ◌-◌, ◌^◌}
use Rattle.dc_sieve.proofs.SettleLemmas.{SoSettled}
use Rattle.dc_sieve.proofs.settle.settle.Given as goal

abbrev pub invariant-settling : goal.invariant-settling
invariant-settling g l =
    SoSettled g.S.Source.took g.S.Source.left g.K.Sink.gained g.S.Source.faults g.K.Sink.faults g.met.S.Source.took_both g.met.K.Sink.gained_both l.fn.engine l.fn.input l.fn.source l.fn.sink
    l.engine l.input l.source l.sink

abbrev pub decreases-settling : goal.decreases-settling
decreases-settling g l = 2 ^ 60 - l.input.count
