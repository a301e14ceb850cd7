-- The words that ask for a simulation.
use Rattle.std.specs.Prelude.{ℕ, ◌^◌, bytes_eq, if◌then◌else◌, List, [], ◌∷◌, codes, Option, Some, None}
use Rattle.dc_text.specs.Numbers.{number_below}
use Rattle.dc_simulate.specs.declared.words.Simulation.{Simulation}

-- Two numbers, where both are.
abbrev pub both : Option ℕ → Option ℕ → Option (ℕ × ℕ)
both None events = None
both (Some seed) None = None
both (Some seed) (Some events) = Some (seed, events)

-- The two numbers behind the word `simulate`, each in text and below 2^64.
abbrev pub simulation_of : List (List ℕ) → Option (ℕ × ℕ)
simulation_of (word ∷ seed ∷ events ∷ []) = if bytes_eq word (codes "simulate") then both (number_below (2 ^ 64) seed) (number_below (2 ^ 64) events) else None
simulation_of words = None

-- What was asked for.
abbrev pub numbers_of : Simulation → ℕ × ℕ
numbers_of s = (s.seed, s.events)
