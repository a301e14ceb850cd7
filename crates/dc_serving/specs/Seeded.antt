-- What taking a seed off a source comes to.
use Rattle.std.specs.Prelude.{◌≡◌, ℕ, ◌<◌, Bool, true, false, List, length}
use Rattle.std.specs.declared.option.Option.{Option}
use Rattle.std.specs.Io.KnownBytes.{IsAtEnd}
use Rattle.dc_serving.specs.declared.seed.Seed.{Seed}
use Rattle.dc_serving.specs.declared.seed.Seed.TheVariants.{Whole, Short, Failed}

-- What taking a seed says of the bytes that were taken: they are the seed; or the source ended, or failed, before them.
abbrev pub SeedStands : Seed → (taken : List ℕ) → (left : Option (List ℕ)) → Type 0
SeedStands (Whole seed) taken left = (taken ≡ seed) × (length taken ≡ 32)
SeedStands Short taken left = (length taken < 32) × IsAtEnd left
SeedStands Failed taken left = length taken < 32

-- Whether the source went well.
abbrev pub well_seed : Seed → Bool
well_seed (Whole seed) = true
well_seed Short = true
well_seed Failed = false
