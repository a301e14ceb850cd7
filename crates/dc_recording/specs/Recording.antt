-- What a service that records its run comes to.
use Rattle.std.specs.Prelude.{◌≡◌, ◌⊎◌, ℕ, ◌<◌, false, List, [], ◌∷◌, length, Result, Ok, Err}
use Rattle.std.specs.declared.option.Option.{Option}
use Rattle.std.specs.declared.option.Option.TheVariants.{None, Some}
use Rattle.std.specs.Io.KnownBytes.{IsAtEnd}
use Rattle.dc_event.specs.Told.{GainedFront}
use Rattle.dc_event.specs.History.{Exchange, listened}
use Rattle.dc_rules.specs.declared.config.Config.{Config}
use Rattle.dc_config.specs.Environment.{Environment}
use Rattle.dc_config.specs.Tree.{Tree}
use Rattle.dc_config.specs.Conf.{conf_of}
use Rattle.dc_config.specs.Modes.{bad_recorded}
use Rattle.dc_config.specs.declared.error.Variable.{Variable as Named}
use Rattle.dc_config.specs.declared.error.Variable.TheVariants.{Record}
use Rattle.dc_config.specs.declared.error.ConfigError.{ConfigError}
use Rattle.dc_config.specs.declared.error.ConfigError.TheVariants as config
use Rattle.dc_core.specs.Running.{Running}
use Rattle.dc_script.specs.HeadText.{IsTold, head_text}
use Rattle.dc_record.specs.HeadOf.{told_of}
use Rattle.dc_serving.specs.Runs.{cache_of}
use Rattle.dc_serving.specs.Serving.{IsConfigured, IsFault}
use Rattle.dc_status.specs.declared.status.Status.{Status}
use Rattle.dc_status.specs.declared.status.Status.TheVariants.{Done, Spent, Usage, BadVariable, NoRoot, BadZone, BadPermit, FilesFault, SeedShort, ReadFault, WriteFault, BadScript, BadImage, Unequal, WorldFault, NoMemory}
use Rattle.dc_recording.specs.Rooted.{rooted, IsSaid, IsUnsaid}
use Rattle.dc_recording.specs.Written.{ServedSo}

-- The head's lines of a configuration and a seed.
abbrev pub head_lines : Config → List ℕ → List ℕ
head_lines c seed = head_text (told_of (rooted c) seed) []

-- A service could begin: there is a configuration whose zones can be said, the seed is whole, and the head of both is read back.
pub record Begun (configured : Config → Type 0) (taken : List ℕ) (c : Config) : Type 0 where
  pub configured_so : configured c
  pub said : IsSaid c
  pub seed : length taken ≡ 32
  pub told : IsTold (told_of (rooted c) taken) (rooted c).permit (rooted c).zones

-- A variable is bad; or RECORD is, as a zone of the configuration can't be said, which shows when the seed was taken.
abbrev pub IsBad : (configured : Config → Type 0) → Option Named → (taken : List ℕ) → Named → Type 0
IsBad configured bad taken v =
    ((bad ≡ Some v) × (taken ≡ [])) ⊎ ((bad ≡ None) × (v ≡ Record) × (length taken ≡ 32) × ((c : Config) × configured c × IsUnsaid c))

-- Why a service couldn't begin, by the first bad variable and the bytes that were taken of the source: nothing was taken where there is no
-- configuration.
abbrev pub Unready : (configured : Config → Type 0) → Option Named → (taken : List ℕ) → (left : Option (List ℕ)) → Status → Type 0
Unready configured bad taken left (BadVariable v) = IsBad configured bad taken v
Unready configured bad taken left NoRoot = taken ≡ []
Unready configured bad taken left (BadZone f) = taken ≡ []
Unready configured bad taken left (BadPermit f) = taken ≡ []
Unready configured bad taken left FilesFault = taken ≡ []
Unready configured bad taken left SeedShort = (length taken < 32) × IsAtEnd left
Unready configured bad taken left ReadFault = length taken < 32
Unready configured bad taken left NoMemory = Unit {0}
Unready configured bad taken left Done = ⊥
Unready configured bad taken left Spent = ⊥
Unready configured bad taken left Usage = ⊥
Unready configured bad taken left WriteFault = ⊥
Unready configured bad taken left (BadScript k) = ⊥
Unready configured bad taken left BadImage = ⊥
Unready configured bad taken left Unequal = ⊥
Unready configured bad taken left WorldFault = ⊥

-- A head was written, and then no memory was left, and the world wasn't asked for anything; or it was asked once to listen, and failed; or
-- only a front of the head was written.
abbrev pub Unlistened : {W K : Type 0} (history : W → List Exchange → W → Type 0) (gained : K → List ℕ → K → Type 0) (old new : W) (sink sink' : K)
    (head : List ℕ) → Config → Status → Type 0
Unlistened history gained old new sink sink' head c NoMemory = history old [] new × gained sink head sink'
Unlistened history gained old new sink sink' head c WorldFault = history old (listened c.ip c.ipsend false ∷ []) new × gained sink head sink'
Unlistened history gained old new sink sink' head c WriteFault = history old [] new × GainedFront gained sink head sink'
Unlistened history gained old new sink sink' head c status = ⊥

-- Why nothing was served: a service couldn't begin, and nothing was asked of the world and nothing written; or it could.
abbrev pub Unserved : {W K : Type 0} (history : W → List Exchange → W → Type 0) (gained : K → List ℕ → K → Type 0) (old new : W) (sink sink' : K)
    (configured : Config → Type 0) → Option Named → (taken : List ℕ) → (left : Option (List ℕ)) → Status → Type 0
Unserved history gained old new sink sink' configured bad taken left status =
    (Unready configured bad taken left status × history old [] new × gained sink [] sink')
    ⊎ ((c : Config) × Begun configured taken c × Unlistened history gained old new sink sink' (head_lines c taken) c status)

-- What a session is, by the core that it leaves: none, and nothing was served; or one, and events were served with the configuration and the
-- seed, with an empty cache at first, and each was written behind the head of both before it was handled.
abbrev pub IsSession : {W K : Type 0} (history : W → List Exchange → W → Type 0) (used_up : W → Type 0) (broken : W → ℕ → Type 0) (gained : K → List ℕ → K → Type 0)
    (old new : W) (sink sink' : K) (configured : Config → Type 0) → Option Named → (taken : List ℕ) → (left : Option (List ℕ)) → (limit : ℕ) → (status : Status) → Option Running → Type 0
IsSession history used_up broken gained old new sink sink' configured bad taken left limit status None = Unserved history gained old new sink sink' configured bad taken left status
IsSession history used_up broken gained old new sink sink' configured bad taken left limit status (Some core) =
    (c : Config) × Begun configured taken c
    × ServedSo history used_up broken gained old new sink sink' (head_lines c taken) (rooted c) (cache_of (rooted c)) taken limit status core

-- The configuration is defined and its zones can be said.
abbrev pub HasSaid : Result Config ConfigError → Type 0
HasSaid conf = (c : Config) × (conf ≡ Ok c) × IsSaid c

-- The status fits what is defined of the configuration, where no variable is bad.
abbrev pub FitsRecorded : Status → Result Config ConfigError → Type 0
FitsRecorded (BadVariable v) conf = (c : Config) × (conf ≡ Ok c) × IsUnsaid c
FitsRecorded NoRoot conf = conf ≡ Err config.NoRoot
FitsRecorded (BadZone f) conf = conf ≡ Err (config.BadZone f)
FitsRecorded (BadPermit f) conf = conf ≡ Err (config.BadPermit f)
FitsRecorded FilesFault conf = Unit {0}
FitsRecorded NoMemory conf = Unit {0}
FitsRecorded SeedShort conf = (c : Config) × (conf ≡ Ok c)
FitsRecorded ReadFault conf = (c : Config) × (conf ≡ Ok c)
FitsRecorded WriteFault conf = HasSaid conf
FitsRecorded WorldFault conf = HasSaid conf
FitsRecorded Done conf = HasSaid conf
FitsRecorded Spent conf = HasSaid conf
FitsRecorded (BadScript k) conf = HasSaid conf
FitsRecorded Usage conf = ⊥
FitsRecorded BadImage conf = ⊥
FitsRecorded Unequal conf = ⊥

-- What a service that records its run did with its source, its world and its sink: these bytes were taken, and this is the session. Where the
-- files tell what they hold and no variable is bad, the status fits the configuration. A bad variable is told wherever there is one.
pub record Recorded {S W K : Type 0} (took : S → List ℕ → S → Type 0) (left : S → Option (List ℕ)) (history : W → List Exchange → W → Type 0) (used_up : W → Type 0) (broken : W → ℕ → Type 0)
    (gained : K → List ℕ → K → Type 0) (env : Environment) (tree : Option Tree) (source source' : S) (world world' : W) (sink sink' : K) (limit : ℕ) (status : Status) (core : Option Running) : Type 0 where
  pub bytes : List ℕ
  pub taken : took source bytes source'
  pub session : IsSession history used_up broken gained world world' sink sink' (IsConfigured env tree) (bad_recorded env) bytes (left source') limit status core
  pub conf : (t : Tree) → tree ≡ Some t → bad_recorded env ≡ None → FitsRecorded status (conf_of env t)
  pub variable : (v : Named) → bad_recorded env ≡ Some v → status ≡ BadVariable v

-- A fault of files, source, world or sink, or want of memory.
abbrev pub IsFaultOf : Status → Type 0
IsFaultOf status = IsFault status ⊎ (status ≡ WriteFault)
