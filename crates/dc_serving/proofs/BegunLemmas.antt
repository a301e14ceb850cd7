-- A session that begins with what was read.
use Rattle.std.proofs.Common.{◌≡◌, ℕ, false, List, [], ◌∷◌, length, ap, sym, subst, Option, Some, None, Result, Ok, Err, ◌↔◌}
use Rattle.dc_model.specs.Cache.{Cache}
use Rattle.dc_event.specs.History.{Exchange, listened}
use Rattle.dc_rules.specs.declared.config.Config.{Config}
use Rattle.dc_config.specs.Environment.{Environment}
use Rattle.dc_config.specs.Tree.{Tree}
use Rattle.dc_config.specs.Conf.{conf_of}
use Rattle.dc_config.specs.Variables.{bad_variable}
use Rattle.dc_config.specs.declared.error.ConfigError.{ConfigError}
use Rattle.dc_config.specs.declared.error.ConfigError.TheVariants as config
use Rattle.dc_config.specs.declared.error.Variable.{Variable as Named}
use Rattle.dc_core.specs.Running.{Running}
use Rattle.dc_serving.specs.Runs.{cache_of}
use Rattle.dc_serving.specs.Serving.{Closes, Unheard, ServingFrom, ServesFrom, IsConfigured, IsSession, Refused, Unserved, FitsConf, Served}
use Rattle.dc_serving.specs.Setup.{Unread, SetsUp}
use Rattle.dc_serving.specs.declared.setup.Basis.{Basis}
use Rattle.dc_serving.proofs.ServingLemmas.{refusal, stands, refused_variable}
use Rattle.dc_status.specs.Refused.{refused_by}
use Rattle.dc_status.specs.declared.status.Status.{Status}
use Rattle.dc_status.specs.declared.status.Status.TheVariants.{Done, Spent, Usage, BadVariable, NoRoot, BadZone, BadPermit, FilesFault, SeedShort, ReadFault, WriteFault, BadScript, BadImage, Unequal, WorldFault, NoMemory}

-- Which statuses there may be

-- Where nothing was served behind what was read.
pub unheard_cases : {W : Type 0} (history : W → List Exchange → W → Type 0) (old new : W) (c : Config) (P : Status → Type 0)
    → (history old [] new → P NoMemory) → (history old (listened c.ip c.ipsend false ∷ []) new → P WorldFault)
    → (status : Status) → Unheard history old new c status → P status
unheard_cases history old new c P memory world NoMemory h = memory h
unheard_cases history old new c P memory world WorldFault h = world h
unheard_cases history old new c P memory world Done h = absurd h
unheard_cases history old new c P memory world Spent h = absurd h
unheard_cases history old new c P memory world Usage h = absurd h
unheard_cases history old new c P memory world (BadVariable v) h = absurd h
unheard_cases history old new c P memory world NoRoot h = absurd h
unheard_cases history old new c P memory world (BadZone f) h = absurd h
unheard_cases history old new c P memory world (BadPermit f) h = absurd h
unheard_cases history old new c P memory world FilesFault h = absurd h
unheard_cases history old new c P memory world SeedShort h = absurd h
unheard_cases history old new c P memory world ReadFault h = absurd h
unheard_cases history old new c P memory world WriteFault h = absurd h
unheard_cases history old new c P memory world (BadScript k) h = absurd h
unheard_cases history old new c P memory world BadImage h = absurd h
unheard_cases history old new c P memory world Unequal h = absurd h

-- Where events were served.
pub closed_cases : (P : Status → Type 0) → P Done → P Spent → ((k : ℕ) → P (BadScript k)) → P WorldFault
    → (status : Status) (count limit : ℕ) (used_up : Type 0) (broken : ℕ → Type 0) → Closes status count limit used_up broken → P status
closed_cases P done spent bad world Done count limit used_up broken h = done
closed_cases P done spent bad world Spent count limit used_up broken h = spent
closed_cases P done spent bad world (BadScript k) count limit used_up broken h = bad k
closed_cases P done spent bad world WorldFault count limit used_up broken h = world
closed_cases P done spent bad world Usage count limit used_up broken h = absurd h
closed_cases P done spent bad world (BadVariable v) count limit used_up broken h = absurd h
closed_cases P done spent bad world NoRoot count limit used_up broken h = absurd h
closed_cases P done spent bad world (BadZone f) count limit used_up broken h = absurd h
closed_cases P done spent bad world (BadPermit f) count limit used_up broken h = absurd h
closed_cases P done spent bad world FilesFault count limit used_up broken h = absurd h
closed_cases P done spent bad world SeedShort count limit used_up broken h = absurd h
closed_cases P done spent bad world ReadFault count limit used_up broken h = absurd h
closed_cases P done spent bad world WriteFault count limit used_up broken h = absurd h
closed_cases P done spent bad world NoMemory count limit used_up broken h = absurd h
closed_cases P done spent bad world BadImage count limit used_up broken h = absurd h
closed_cases P done spent bad world Unequal count limit used_up broken h = absurd h

-- What was not read

pub unread_unserved : {W : Type 0} (history : W → List Exchange → W → Type 0) (old new : W) (configured : Config → Type 0) (taken : List ℕ) (left : Option (List ℕ)) (status : Status)
    → Unread status taken left → history old [] new → Refused status taken left × Unserved history old new configured status
unread_unserved history old new configured taken left (BadVariable v) h k = (h, k)
unread_unserved history old new configured taken left NoRoot h k = (h, k)
unread_unserved history old new configured taken left (BadZone f) h k = (h, k)
unread_unserved history old new configured taken left (BadPermit f) h k = (h, k)
unread_unserved history old new configured taken left FilesFault h k = (h, k)
unread_unserved history old new configured taken left NoMemory h k = (tt, k)
unread_unserved history old new configured taken left SeedShort h k = (h, k)
unread_unserved history old new configured taken left ReadFault h k = (h, k)
unread_unserved history old new configured taken left Done h k = absurd h
unread_unserved history old new configured taken left Spent h k = absurd h
unread_unserved history old new configured taken left Usage h k = absurd h
unread_unserved history old new configured taken left WriteFault h k = absurd h
unread_unserved history old new configured taken left (BadScript k') h k = absurd h
unread_unserved history old new configured taken left BadImage h k = absurd h
unread_unserved history old new configured taken left Unequal h k = absurd h
unread_unserved history old new configured taken left WorldFault h k = absurd h

-- The status of what was read.
abbrev status_read : Result Basis Status → Status
status_read (Ok b) = Done
status_read (Err status) = status

-- A refusal.
abbrev pub unread : Status → Result Basis Status
unread status = Err status

-- What was read.
abbrev pub read : Basis → Result Basis Status
read b = Ok b

-- It names the variable that is bad,
pub unread_variable : (status : Status) (bad : Option Named) → ((v : Named) → (unread status ≡ unread (BadVariable v)) ↔ (bad ≡ Some v))
    → (v : Named) → (status ≡ BadVariable v) ↔ (bad ≡ Some v)
unread_variable status bad told v = (λ e. (told v).0 (ap unread e), λ e. ap status_read ((told v).1 e))

-- and where all was read, none is.
pub read_variable : (b : Basis) (status : Status) (bad : Option Named) → ((v : Named) → status ≡ BadVariable v → ⊥)
    → ((v : Named) → (read b ≡ unread (BadVariable v)) ↔ (bad ≡ Some v))
    → (v : Named) → (status ≡ BadVariable v) ↔ (bad ≡ Some v)
read_variable b status bad other told v = (λ e. absurd (other v e), λ e. let never : read b ≡ unread (BadVariable v) = (told v).1 e in cc)

-- The same of what was read, by what `load` answered.

pub refused_read : (error : ConfigError) (status : Status) (bad : Option Named) → status ≡ refused_by error
    → ((v : Named) → (refusal error ≡ refusal (config.BadVariable v)) ↔ (bad ≡ Some v))
    → (v : Named) → (unread status ≡ unread (BadVariable v)) ↔ (bad ≡ Some v)
refused_read error status bad is told v =
    let named = refused_variable error status bad is told v in
    (λ e. named.0 (ap status_read e), λ e. ap unread (named.1 e))

pub stands_read : (c : Config) (r : Result Basis Status) (bad : Option Named) → ((v : Named) → r ≡ unread (BadVariable v) → ⊥)
    → ((v : Named) → (stands c ≡ refusal (config.BadVariable v)) ↔ (bad ≡ Some v))
    → (v : Named) → (r ≡ unread (BadVariable v)) ↔ (bad ≡ Some v)
stands_read c r bad other told v =
    (λ e. absurd (other v e), λ e. let never : stands c ≡ refusal (config.BadVariable v) = (told v).1 e in cc)

-- A session

-- Nothing was served, as not all was read.
pub served_unread : {S W : Type 0} (took : S → List ℕ → S → Type 0) (left : S → Option (List ℕ)) (history : W → List Exchange → W → Type 0) (used_up : W → Type 0) (broken : W → ℕ → Type 0)
    (env : Environment) (tree : Option Tree) (source source' : S) (world : W) (limit : ℕ) (status ended : Status) (core : Option Running)
    → SetsUp took left env tree source source' (unread status) → history world [] world → ended ≡ status → core ≡ None
    → Served took left history used_up broken env tree source source' world world limit ended core
served_unread took left history used_up broken env tree source source' world limit status ended core s h is none =
    subst (λ k. Served took left history used_up broken env tree source source' world world limit ended k) (sym none)
    (subst (λ a. Served took left history used_up broken env tree source source' world world limit a None) (sym is) (record {
      bytes = s.bytes;
      taken = s.taken;
      session = unread_unserved history world world (IsConfigured env tree) s.bytes (left source') status s.reads h;
      conf = s.conf;
      variable = unread_variable status (bad_variable env) s.variable;
    }))

-- It was served, or not, with what was read.

pub core_after : {W : Type 0} (history : W → List Exchange → W → Type 0) (used_up : W → Type 0) (broken : W → ℕ → Type 0) (old new : W)
    (c : Config) (first : Cache) (seed : List ℕ) (limit : ℕ) (status : Status) (core : Option Running) (P : Status → Type 0)
    → P Done → P Spent → ((k : ℕ) → P (BadScript k)) → P WorldFault → P NoMemory
    → ServesFrom history used_up broken old new c first seed limit status core → P status
core_after history used_up broken old new c first seed limit status None P done spent bad world memory h =
    unheard_cases history old new c P (λ k. memory) (λ k. world) status h
core_after history used_up broken old new c first seed limit status (Some core) P done spent bad world memory h =
    closed_cases P done spent bad world status _ limit _ _ h.closes

session_after : {W : Type 0} (history : W → List Exchange → W → Type 0) (used_up : W → Type 0) (broken : W → ℕ → Type 0) (old new : W) (configured : Config → Type 0)
    (c : Config) (taken seed : List ℕ) (left : Option (List ℕ)) (limit : ℕ) (status : Status) (core : Option Running)
    → configured c → taken ≡ seed → length taken ≡ 32 → ServesFrom history used_up broken old new c (cache_of c) seed limit status core
    → IsSession history used_up broken old new configured taken left limit status core
session_after history used_up broken old new configured c taken seed left limit status None fits same long h =
    unheard_cases history old new c (λ a. Refused a taken left × Unserved history old new configured a) (λ k. (tt, k)) (λ k. (long, (c, fits, k))) status h
session_after history used_up broken old new configured c taken seed left limit status (Some core) fits same long h =
    (c, fits, long, subst (λ s. ServingFrom history used_up broken old new c (cache_of c) s limit status core) (sym same) h)

-- There wasn't memory enough for the cache.
pub forgotten : {W : Type 0} (history : W → List Exchange → W → Type 0) (used_up : W → Type 0) (broken : W → ℕ → Type 0) (world : W)
    (c : Config) (first : Cache) (seed : List ℕ) (limit : ℕ) (status : Status) (core : Option Running)
    → history world [] world → status ≡ NoMemory → core ≡ None → ServesFrom history used_up broken world world c first seed limit status core
forgotten history used_up broken world c first seed limit status core h is none =
    subst (λ k. ServesFrom history used_up broken world world c first seed limit status k) (sym none)
    (subst (λ a. ServesFrom history used_up broken world world c first seed limit a None) (sym is) h)

pub served_read : {S W : Type 0} (took : S → List ℕ → S → Type 0) (left : S → Option (List ℕ)) (history : W → List Exchange → W → Type 0) (used_up : W → Type 0) (broken : W → ℕ → Type 0)
    (env : Environment) (tree : Option Tree) (source source' : S) (world world' : W) (limit : ℕ) (b : Basis) (status : Status) (core : Option Running)
    → SetsUp took left env tree source source' (read b) → ServesFrom history used_up broken world world' b.config (cache_of b.config) b.seed limit status core
    → Served took left history used_up broken env tree source source' world world' limit status core
served_read took left history used_up broken env tree source source' world world' limit b status core s h =
    let c = b.config in
    record {
      bytes = s.bytes;
      taken = s.taken;
      session = session_after history used_up broken world world' (IsConfigured env tree) c s.bytes b.seed (left source') limit status core s.reads.0 s.reads.1 s.reads.2 h;
      conf = λ t e. core_after history used_up broken world world' c (cache_of c) b.seed limit status core (λ a. FitsConf a (conf_of env t))
          (c, s.conf t e) (c, s.conf t e) (λ k. (c, s.conf t e)) (c, s.conf t e) tt h;
      variable = read_variable b status (bad_variable env)
          (core_after history used_up broken world world' c (cache_of c) b.seed limit status core (λ a. (v : Named) → a ≡ BadVariable v → ⊥)
          (λ v e. cc) (λ v e. cc) (λ k v e. cc) (λ v e. cc) (λ v e. cc) h) s.variable;
    }
