use Rattle.std.proofs.Common.{length, ◌-◌, map, drop}
use Rattle.dc_stub.specs.Look.{job_of}
use Rattle.dc_stub.specs.Begun.{bytes_of}
use Rattle.dc_tools.proofs.JobLemmas.{IsSoFar}
use Rattle.dc_tools.proofs.words.jobs_of_each.Given as goal

abbrev pub invariant-words : goal.invariant-words
invariant-words g l = IsSoFar g.T.Word.said (bytes_of l.words) (map job_of l.jobs.items) (bytes_of (drop l.at l.words))

abbrev pub decreases-words : goal.decreases-words
decreases-words g l = length l.words - l.at
