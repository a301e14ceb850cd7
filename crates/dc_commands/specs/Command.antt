-- What the words of a command and the environment ask for.
use Rattle.std.specs.Prelude.{ℕ, Bool, false, ◌&&◌, nat_le, bytes_eq, if◌then◌else◌, List, [], ◌∷◌, length, map, codes, string_bytes, String, Option, Some, None}
use Rattle.std.specs.declared.alloc.Global.{Global}
use Rattle.dc_config.specs.Environment.{Environment}
use Rattle.dc_config.specs.Modes.{is_set}
use Rattle.dc_config.specs.declared.error.Variable.TheVariants.{Cores, Image, Record as Recording}
use Rattle.dc_simulate.specs.Words.{simulation_of}
use Rattle.dc_commands.specs.declared.command.Command.{Command}
use Rattle.dc_commands.specs.declared.command.Command.TheVariants.{Serve, Record, Keep, Shards, Replay, Simulate, Audit, Unknown}

-- A simulation, where the words ask for one.
abbrev pub simulating : Option (ℕ × ℕ) → Command
simulating None = Unknown
simulating (Some asked) = Simulate asked.0 asked.1

-- Whether words are `audit` and 1 to 1000 names.
abbrev pub asks_audit : List (List ℕ) → Bool
asks_audit [] = false
asks_audit (word ∷ names) = bytes_eq word (codes "audit") && (nat_le 1 (length names) && nat_le (length names) 1000)

-- How clients are served: the run is written down where RECORD is set; else the cache is kept where IMAGE is set; else several cores serve where
-- CORES is set.
abbrev pub mode_of : Environment → Command
mode_of env = if is_set Recording env then Record else (if is_set Image env then Keep else (if is_set Cores env then Shards else Serve))

-- No word serves, the one word `replay` replays, the word `audit` with 1 to 1000 names audits their runs, and the word `simulate` with two
-- numbers below 2^64 simulates. Variables choose only how clients are served.
abbrev pub command_of : List (String Global) → Environment → Command
command_of [] env = mode_of env
command_of (word ∷ []) env = if bytes_eq (string_bytes word) (codes "replay") then Replay else Unknown
command_of (word ∷ other ∷ words) env =
    if asks_audit (map string_bytes (word ∷ other ∷ words)) then Audit else simulating (simulation_of (map string_bytes (word ∷ other ∷ words)))
