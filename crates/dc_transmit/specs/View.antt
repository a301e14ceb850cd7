-- What a transmission of the code stands for.
use Rattle.std.specs.Prelude.{Option, Some, None}
use Rattle.dc_transmit.specs.Attempts.{progress_of}
use Rattle.dc_transmit.specs.Standing.{Standing, idle, standing_at}
use Rattle.dc_transmit.specs.declared.attempt.Attempt.{Attempt as CodeAttempt}
use Rattle.dc_transmit.specs.declared.progress.Progress.{Progress as CodeProgress}

-- By the last answer, where it was started and not stopped since, and what that left.
abbrev pub standing_of : Option CodeProgress → CodeAttempt → Standing
standing_of None a = idle
standing_of (Some answer) a = standing_at (progress_of answer a)
