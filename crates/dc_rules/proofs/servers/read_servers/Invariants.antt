use Rattle.std.proofs.Common.{length}
use Rattle.dc_model.specs.Rules.{address_in}
use Rattle.dc_rules.proofs.Filling.{IsSoFar}
use Rattle.dc_rules.proofs.servers.read_servers.Given as goal

abbrev pub invariant-loop-line : goal.invariant-loop-line
invariant-loop-line l = IsSoFar address_in l.text l.places l.filled l.lines

abbrev pub decreases-loop-line : goal.decreases-loop-line
decreases-loop-line l = length l.lines
