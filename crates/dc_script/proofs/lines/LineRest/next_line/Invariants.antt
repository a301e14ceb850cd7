use Rattle.std.proofs.Common.{◌≡◌, ℕ, ◌-◌, List, length}
use Rattle.dc_script.proofs.Searching.{SoFar}
use Rattle.dc_script.proofs.lines.LineRest.next_line.Given as goal

abbrev pub invariant-loop-len : goal.invariant-loop-len
invariant-loop-len g l = ((more : List ℕ) × SoFar g.S.Source.took l.fn.self l.fn.source l.self l.source l.searched more) × (g.S.Source.faults l.source ≡ g.S.Source.faults l.fn.source)

abbrev pub decreases-loop-len : goal.decreases-loop-len
decreases-loop-len g l = 262144 - length l.self.rest
