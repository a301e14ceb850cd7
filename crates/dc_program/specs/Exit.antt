-- The exit status of the program.
use Rattle.std.specs.Prelude.{ℕ}
use Rattle.dc_status.specs.declared.status.Status.{Status}
use Rattle.dc_status.specs.declared.status.Status.TheVariants.{Done, Spent, Usage, Unequal}

-- 0 where the program ended well, 1 where a recorded run isn't as recorded, 100 for unknown words, and else 111.
abbrev pub exit_of : Status → ℕ
exit_of Done = 0
exit_of Spent = 0
exit_of Unequal = 1
exit_of Usage = 100
exit_of status = 111
