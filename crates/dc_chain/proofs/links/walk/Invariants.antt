use Rattle.std.proofs.Common.{◌≡◌, ℕ, ◌-◌, ◌+◌, List}
use Rattle.dc_model.specs.Chain.{IsBucket}
use Rattle.dc_chain.proofs.Places.{Left}
use Rattle.dc_chain.proofs.links.walk.Given as goal

abbrev pub invariant-loop-i : goal.invariant-loop-i
invariant-loop-i g l = record {
  left : (ps : List ℕ) → IsBucket l.arena l.bucket ps → Left l.arena l.before l.at (101 - l.i) l.key ps;
  cost : l.steps ≡ l.initial.steps + l.i;
}
