-- How a run over a script in memory ends.
use Rattle.std.specs.Prelude.{ℕ, Option, Some, None}
use Rattle.dc_serve.specs.declared.Served.{Served}
use Rattle.dc_serve.specs.declared.Served.TheVariants.{Finished, Spent, Ended, Failed, Bad}

-- The script ended it, by its end or by a bad line.
abbrev pub IsHeard : Served → Type 0
IsHeard Finished = ⊥
IsHeard Spent = ⊥
IsHeard Ended = Unit {0}
IsHeard Failed = ⊥
IsHeard (Bad k) = Unit {0}

-- The bad line.
abbrev pub bad_by : Served → Option ℕ
bad_by Finished = None
bad_by Spent = None
bad_by Ended = None
bad_by Failed = None
bad_by (Bad k) = Some k
