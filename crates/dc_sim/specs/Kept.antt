-- What the simulated world keeps.
use Rattle.std.specs.Prelude.{◌≡◌, ℕ, ◌+◌, ◌*◌, ◌^◌, ◌≤◌}

-- The clock has gone on by 45001 milliseconds at most at each event, and there are places for 1024 events and links.
pub record IsKept (clock given events waiting links : ℕ) : Type 0 where
  pub moment : clock ≤ 1000000 + 45001 * given
  pub within : given ≤ events
  pub most : events ≤ 2 ^ 46
  pub places : waiting ≡ 1024
  pub remembers : links ≡ 1024
