use Rattle.std.proofs.Common.{List, length, ◌-◌, drop}
use Rattle.dc_lookup.specs.Words.{Job}
use Rattle.dc_stub.specs.Begun.{bytes_of}
use Rattle.dc_tools.proofs.JobLemmas.{IsSoFar}
use Rattle.dc_tools.proofs.words.are_usable.Given as goal

abbrev pub invariant-words : goal.invariant-words
invariant-words g l = (so : List Job) × IsSoFar g.T.Word.said (bytes_of l.words) so (bytes_of (drop l.at l.words))

abbrev pub decreases-words : goal.decreases-words
decreases-words g l = length l.words - l.at
