-- How objects fared, by the status of what was done with them.
use Rattle.std.proofs.Common.{◌≡◌, ℕ, Bool, true, List, refl, subst}
use Rattle.dc_event.specs.Causes.{Fares}
use Rattle.dc_config.specs.Asked.{well_error}
use Rattle.dc_config.specs.declared.error.ConfigError.{ConfigError}
use Rattle.dc_config.specs.declared.error.ConfigError.TheVariants as config
use Rattle.dc_play.specs.Playing.{reads_well, writes_well}
use Rattle.dc_play.specs.declared.played.Played.{Played}
use Rattle.dc_play.specs.declared.played.Played.TheVariants as played
use Rattle.dc_simulate.specs.Told.{writes_well as writes_well_simulated}
use Rattle.dc_simulate.specs.declared.command.Simulated.{Simulated}
use Rattle.dc_simulate.specs.declared.command.Simulated.TheVariants as simulated
use Rattle.dc_status.specs.declared.status.Status.{Status}
use Rattle.dc_status.specs.declared.status.Status.TheVariants.{Done, Spent, Usage, ReadFault, WriteFault, BadScript, NoMemory}
use Rattle.dc_status.specs.Faults.{fault_of, files_well, source_well, sink_well, world_well}
use Rattle.dc_status.specs.Played.{status_of}
use Rattle.dc_status.specs.Simulated.{status_of as simulated_status}
use Rattle.dc_status.specs.Refused.{refused_by}

-- Playing a script

pub played_source : (p : Played) → reads_well p ≡ source_well (fault_of (status_of p))
played_source played.Done = refl
played_source played.Spent = refl
played_source (played.Bad k) = refl
played_source played.ReadFault = refl
played_source played.WriteFault = refl

pub played_sink : (p : Played) → writes_well p ≡ sink_well (fault_of (status_of p))
played_sink played.Done = refl
played_sink played.Spent = refl
played_sink (played.Bad k) = refl
played_sink played.ReadFault = refl
played_sink played.WriteFault = refl

pub played_done : (p : Played) → status_of p ≡ Done → p ≡ played.Done
played_done played.Done e = refl
played_done played.Spent e = cc
played_done (played.Bad k) e = cc
played_done played.ReadFault e = cc
played_done played.WriteFault e = cc

pub played_in_memory : (p : Played) (P : Type 0) → status_of p ≡ NoMemory → P
played_in_memory played.Done P e = cc
played_in_memory played.Spent P e = cc
played_in_memory (played.Bad k) P e = cc
played_in_memory played.ReadFault P e = cc
played_in_memory played.WriteFault P e = cc

-- A simulation

pub simulated_sink : (r : Simulated) → writes_well_simulated r ≡ sink_well (fault_of (simulated_status r))
simulated_sink simulated.Done = refl
simulated_sink simulated.WriteFault = refl
simulated_sink simulated.NoMemory = refl

pub simulated_files : (r : Simulated) → files_well (fault_of (simulated_status r)) ≡ true
simulated_files simulated.Done = refl
simulated_files simulated.WriteFault = refl
simulated_files simulated.NoMemory = refl

pub simulated_source : (r : Simulated) → source_well (fault_of (simulated_status r)) ≡ true
simulated_source simulated.Done = refl
simulated_source simulated.WriteFault = refl
simulated_source simulated.NoMemory = refl

pub simulated_world : (r : Simulated) → world_well (fault_of (simulated_status r)) ≡ true
simulated_world simulated.Done = refl
simulated_world simulated.WriteFault = refl
simulated_world simulated.NoMemory = refl

pub simulated_usage : (r : Simulated) → simulated_status r ≡ Usage → ⊥
simulated_usage simulated.Done e = cc
simulated_usage simulated.WriteFault e = cc
simulated_usage simulated.NoMemory e = cc

-- A configuration that was refused

pub error_files : (e : ConfigError) → well_error e ≡ files_well (fault_of (refused_by e))
error_files (config.BadVariable v) = refl
error_files (config.BadZone f) = refl
error_files config.NoRoot = refl
error_files (config.BadPermit f) = refl
error_files config.FilesFault = refl
error_files config.NoMemory = refl

pub error_source : (e : ConfigError) → source_well (fault_of (refused_by e)) ≡ true
error_source (config.BadVariable v) = refl
error_source (config.BadZone f) = refl
error_source config.NoRoot = refl
error_source (config.BadPermit f) = refl
error_source config.FilesFault = refl
error_source config.NoMemory = refl

pub error_world : (e : ConfigError) → world_well (fault_of (refused_by e)) ≡ true
error_world (config.BadVariable v) = refl
error_world (config.BadZone f) = refl
error_world config.NoRoot = refl
error_world (config.BadPermit f) = refl
error_world config.FilesFault = refl
error_world config.NoMemory = refl

-- The same, of another spelling.
pub fares_as : {S A : Type 0} (gained : S → List A → S → Type 0) (refused : S → S → Type 0) (faults : S → ℕ) (old new : S) (well other : Bool) → well ≡ other
    → Fares gained refused faults well old new → Fares gained refused faults other old new
fares_as gained refused faults old new well other e f = subst (λ b. Fares gained refused faults b old new) e f
