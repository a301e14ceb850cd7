use Rattle.std.proofs.Common.{◌≡◌, List, ℕ}
use Rattle.dc_script.specs.Head.{most_ahead}
use Rattle.dc_script.specs.Heads.{stage_of, head_in}
use Rattle.dc_script.proofs.HeadLemmas.{HeadSoFar}
use Rattle.dc_script.proofs.head.read_lines.Given as goal

abbrev pub invariant-loop : goal.invariant-loop
invariant-loop g l =
    ((more : List ℕ) × HeadSoFar g.S.Source.took l.fn.source l.source (stage_of l.setup.stage) (head_in l.setup) l.rest.rest l.lines more) × (g.S.Source.faults l.source ≡ g.S.Source.faults l.fn.source)

abbrev pub decreases-loop : goal.decreases-loop
decreases-loop g l = most_ahead (stage_of l.setup.stage) (head_in l.setup)
