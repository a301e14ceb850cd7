use Rattle.std.proofs.Common.{take}
use Rattle.dc_resolve.proofs.ShortLemmas.{AllShort}
use Rattle.dc_resolve.proofs.short.hosts_fit.Given as goal

abbrev pub invariant-loop-i : goal.invariant-loop-i
invariant-loop-i l = AllShort (take l.i l.query.frames.value.slots)
