-- Why nothing was served.
use Rattle.std.proofs.Common.{◌≡◌, ◌≤◌, ℕ, true, List, length, Result, Ok, Err, refl, arith}
use Rattle.std.specs.declared.option.Option.{Option}
use Rattle.std.specs.Io.KnownBytes.{IsAtEnd}
use Rattle.dc_rules.specs.declared.config.Config.{Config}
use Rattle.dc_config.specs.declared.error.ConfigError.{ConfigError}
use Rattle.dc_status.specs.declared.status.Status.{Status}
use Rattle.dc_status.specs.declared.status.Status.TheVariants.{Done, Spent, Usage, BadVariable, NoRoot, BadZone, BadPermit, FilesFault, SeedShort, ReadFault, WriteFault, BadScript, BadImage, Unequal, WorldFault, NoMemory}
use Rattle.dc_status.specs.Faults.{fault_of, files_well, source_well, world_well}
use Rattle.dc_serving.specs.Serving.{Refused, FitsConf, IsFault}

not_refused : (conf : Result Config ConfigError) (c : Config) (why : ConfigError) → conf ≡ Ok c → conf ≡ Err why → ⊥
not_refused conf c why e f = cc

pub only_faults : (status : Status) (conf : Result Config ConfigError) (c : Config) (taken : List ℕ) (left : Option (List ℕ)) → conf ≡ Ok c → (IsAtEnd left → 32 ≤ length taken)
    → FitsConf status conf → Refused status taken left → IsFault status
only_faults FilesFault conf c taken left e s f r = tt
only_faults ReadFault conf c taken left e s f r = tt
only_faults WorldFault conf c taken left e s f r = tt
only_faults NoMemory conf c taken left e s f r = tt
only_faults (BadVariable v) conf c taken left e s f r = not_refused conf c _ e f
only_faults NoRoot conf c taken left e s f r = not_refused conf c _ e f
only_faults (BadZone g) conf c taken left e s f r = not_refused conf c _ e f
only_faults (BadPermit g) conf c taken left e s f r = not_refused conf c _ e f
only_faults SeedShort conf c taken left e s f r = let whole = s r.1 in omega (arith, whole, r.0)
only_faults Done conf c taken left e s f r = r
only_faults Spent conf c taken left e s f r = r
only_faults Usage conf c taken left e s f r = r
only_faults WriteFault conf c taken left e s f r = r
only_faults (BadScript k) conf c taken left e s f r = r
only_faults BadImage conf c taken left e s f r = r
only_faults Unequal conf c taken left e s f r = r

-- Of the faults, want of memory alone is no call that failed.
pub memory_alone : (status : Status) → IsFault status → files_well (fault_of status) ≡ true → source_well (fault_of status) ≡ true → world_well (fault_of status) ≡ true → status ≡ NoMemory
memory_alone FilesFault h f s w = cc
memory_alone ReadFault h f s w = cc
memory_alone WorldFault h f s w = cc
memory_alone NoMemory h f s w = refl
memory_alone (BadVariable v) h f s w = absurd h
memory_alone NoRoot h f s w = absurd h
memory_alone (BadZone g) h f s w = absurd h
memory_alone (BadPermit g) h f s w = absurd h
memory_alone SeedShort h f s w = absurd h
memory_alone Done h f s w = absurd h
memory_alone Spent h f s w = absurd h
memory_alone Usage h f s w = absurd h
memory_alone WriteFault h f s w = absurd h
memory_alone (BadScript k) h f s w = absurd h
memory_alone BadImage h f s w = absurd h
memory_alone Unequal h f s w = absurd h

pub only_memory : (status : Status) (conf : Result Config ConfigError) (c : Config) (taken : List ℕ) (left : Option (List ℕ)) → conf ≡ Ok c → (IsAtEnd left → 32 ≤ length taken)
    → FitsConf status conf → Refused status taken left
    → files_well (fault_of status) ≡ true → source_well (fault_of status) ≡ true → world_well (fault_of status) ≡ true → status ≡ NoMemory
only_memory status conf c taken left e s f r = memory_alone status (only_faults status conf c taken left e s f r)
