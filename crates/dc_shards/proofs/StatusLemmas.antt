-- Which status fits what is defined, and whose fault it is.
use Rattle.std.proofs.Common.{◌≡◌, ◌↔◌, ◌≤◌, ℕ, List, [], length, Option, Some, None, Result, Ok, refl, sym, subst}
use Rattle.std.specs.Io.KnownBytes.{IsAtEnd}
use Rattle.dc_event.specs.Causes.{count_where}
use Rattle.dc_event.specs.History.{Exchange}
use Rattle.dc_rules.specs.declared.config.Config.{Config}
use Rattle.dc_config.specs.Answered.{Refuses}
use Rattle.dc_config.specs.Environment.{Environment}
use Rattle.dc_config.specs.Modes.{first_of, bad_split}
use Rattle.dc_config.specs.Variables.{bad_variable}
use Rattle.dc_config.specs.declared.error.Variable.{Variable as Named}
use Rattle.dc_config.specs.declared.error.ConfigError.{ConfigError}
use Rattle.dc_config.specs.declared.error.ConfigError.TheVariants as config
use Rattle.dc_shard.specs.Serving.{count_served}
use Rattle.dc_shard.specs.declared.served.ShardServed.{ShardServed}
use Rattle.dc_shard.specs.declared.served.ShardServed.TheVariants as served
use Rattle.dc_serving.specs.Serving.{Refused, Unserved, FitsConf, IsFault}
use Rattle.dc_serving.proofs.Complete.{only_faults}
use Rattle.dc_serving.proofs.ServingLemmas.{refusal, refused_variable}
use Rattle.dc_status.specs.Faults.{fault_of, world_well}
use Rattle.dc_status.specs.Refused.{refused_by}
use Rattle.dc_status.specs.declared.status.Status.{Status}
use Rattle.dc_status.specs.declared.status.Status.TheVariants.{Done, Spent, Usage, BadVariable, NoRoot, BadZone, BadPermit, FilesFault, SeedShort, ReadFault, WriteFault, BadScript, BadImage, Unequal, WorldFault, NoMemory}
use Rattle.dc_shards.specs.Serving.{FitsSplit, status_behind}

-- A bad variable

pub fits_bad : (status : Status) (v : Named) (conf : Result Config ConfigError) → status ≡ BadVariable v → FitsSplit status conf
fits_bad status v conf is = subst (λ s. FitsSplit s conf) (sym is) tt

pub told_bad : (status : Status) (w : Named) (bad : Option Named) → status ≡ BadVariable w → bad ≡ Some w → (v : Named) → (status ≡ BadVariable v) ↔ (bad ≡ Some v)
told_bad status w bad is told v = (λ e. cc, λ e. cc)

-- A configuration that is refused

pub error_refused : (error : ConfigError) (left : Option (List ℕ)) → Refused (refused_by error) [] left
error_refused (config.BadVariable v) left = refl
error_refused (config.BadZone f) left = refl
error_refused config.NoRoot left = refl
error_refused (config.BadPermit f) left = refl
error_refused config.FilesFault left = refl
error_refused config.NoMemory left = tt

pub error_unserved : {W : Type 0} (history : W → List Exchange → W → Type 0) (old : W) (configured : Config → Type 0) (error : ConfigError) → history old [] old
    → Unserved history old old configured (refused_by error)
error_unserved history old configured (config.BadVariable v) h = h
error_unserved history old configured (config.BadZone f) h = h
error_unserved history old configured config.NoRoot h = h
error_unserved history old configured (config.BadPermit f) h = h
error_unserved history old configured config.FilesFault h = h
error_unserved history old configured config.NoMemory h = h

fits_by : (error : ConfigError) (conf : Result Config ConfigError) → Refuses error conf → FitsSplit (refused_by error) conf
fits_by (config.BadVariable v) conf r = tt
fits_by (config.BadZone f) conf r = r
fits_by config.NoRoot conf r = r
fits_by (config.BadPermit f) conf r = r
fits_by config.FilesFault conf r = tt
fits_by config.NoMemory conf r = tt

pub fits_error : (status : Status) (error : ConfigError) (conf : Result Config ConfigError) → status ≡ refused_by error → Refuses error conf → FitsSplit status conf
fits_error status error conf is r = subst (λ s. FitsSplit s conf) (sym is) (fits_by error conf r)

first_none : (a b : Option Named) → first_of a b ≡ None → a ≡ None
first_none None b e = refl
first_none (Some v) b e = cc

pub none_before : (env : Environment) → bad_split env ≡ None → bad_variable env ≡ None
none_before env e = first_none (bad_variable env) _ e

-- Where no variable is bad, none is told.
pub told_error : (status : Status) (error : ConfigError) (bad whole : Option Named) → status ≡ refused_by error → bad ≡ None → whole ≡ None
    → ((v : Named) → (refusal error ≡ refusal (config.BadVariable v)) ↔ (bad ≡ Some v)) → (v : Named) → (status ≡ BadVariable v) ↔ (whole ≡ Some v)
told_error status error bad whole is none all told v =
    (λ e. let never : bad ≡ Some v = (refused_variable error status bad is told v).0 e in cc, λ e. cc)

-- Behind the loop

pub fits_behind : (answer : ShardServed) (status : Status) (conf : Result Config ConfigError) (c : Config) → status ≡ status_behind answer → conf ≡ Ok c → FitsSplit status conf
fits_behind served.Ended status conf c is e = subst (λ s. FitsSplit s conf) (sym is) (c, e)
fits_behind served.Spent status conf c is e = subst (λ s. FitsSplit s conf) (sym is) (c, e)
fits_behind served.Failed status conf c is e = subst (λ s. FitsSplit s conf) (sym is) (c, e)
fits_behind (served.Bad k) status conf c is e = subst (λ s. FitsSplit s conf) (sym is) (c, e)
fits_behind served.NoMemory status conf c is e = subst (λ s. FitsSplit s conf) (sym is) tt

pub told_behind : (answer : ShardServed) (status : Status) (whole : Option Named) → status ≡ status_behind answer → whole ≡ None → (v : Named) → (status ≡ BadVariable v) ↔ (whole ≡ Some v)
told_behind served.Ended status whole is none v = (λ e. cc, λ e. cc)
told_behind served.Spent status whole is none v = (λ e. cc, λ e. cc)
told_behind served.Failed status whole is none v = (λ e. cc, λ e. cc)
told_behind (served.Bad k) status whole is none v = (λ e. cc, λ e. cc)
told_behind served.NoMemory status whole is none v = (λ e. cc, λ e. cc)

pub world_behind : (answer : ShardServed) (before : ℕ) → count_served answer before ≡ count_where (world_well (fault_of (status_behind answer))) before
world_behind served.Ended before = refl
world_behind served.Spent before = refl
world_behind served.Failed before = refl
world_behind (served.Bad k) before = refl
world_behind served.NoMemory before = refl

-- Nothing else keeps events from being served.

other_fits : (status : Status) (conf : Result Config ConfigError) → FitsSplit status conf → ((v : Named) → status ≡ BadVariable v → ⊥) → FitsConf status conf
other_fits (BadVariable v) conf f never = absurd (never v refl)
other_fits NoRoot conf f never = f
other_fits (BadZone g) conf f never = f
other_fits (BadPermit g) conf f never = f
other_fits FilesFault conf f never = f
other_fits SeedShort conf f never = f
other_fits ReadFault conf f never = f
other_fits WriteFault conf f never = f
other_fits (BadScript k) conf f never = f
other_fits BadImage conf f never = f
other_fits Unequal conf f never = f
other_fits WorldFault conf f never = f
other_fits NoMemory conf f never = f
other_fits Done conf f never = f
other_fits Spent conf f never = f
other_fits Usage conf f never = f

none_told : (whole : Option Named) (status : Status) → whole ≡ None → ((v : Named) → (status ≡ BadVariable v) ↔ (whole ≡ Some v)) → (v : Named) → status ≡ BadVariable v → ⊥
none_told whole status none told v is = let never : whole ≡ Some v = (told v).0 is in cc

pub only_faults_split : (env : Environment) (status : Status) (conf : Result Config ConfigError) (c : Config) (taken : List ℕ) (left : Option (List ℕ))
    → bad_split env ≡ None → conf ≡ Ok c → (IsAtEnd left → 32 ≤ length taken)
    → ((v : Named) → (status ≡ BadVariable v) ↔ (bad_split env ≡ Some v)) → FitsSplit status conf → Refused status taken left → IsFault status
only_faults_split env status conf c taken left none is whole told fits why =
    only_faults status conf c taken left is whole (other_fits status conf fits (none_told (bad_split env) status none told)) why
