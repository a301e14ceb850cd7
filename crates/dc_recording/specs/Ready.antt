-- What is read, and which memory is taken, before a service records.
use Rattle.std.specs.Prelude.{◌≡◌, ◌⊎◌, ℕ, List, Option, Some, None, Result, Ok, Err}
use Rattle.dc_rules.specs.declared.config.Config.{Config}
use Rattle.dc_config.specs.Environment.{Environment}
use Rattle.dc_config.specs.Tree.{Tree}
use Rattle.dc_config.specs.Conf.{conf_of}
use Rattle.dc_config.specs.Modes.{bad_recorded}
use Rattle.dc_config.specs.declared.error.Variable.{Variable as Named}
use Rattle.dc_config.specs.declared.error.Variable.TheVariants.{Record}
use Rattle.dc_config.specs.declared.error.ConfigError.{ConfigError}
use Rattle.dc_script.specs.HeadText.{IsTold}
use Rattle.dc_record.specs.HeadOf.{told_of}
use Rattle.dc_serving.specs.Runs.{cache_of}
use Rattle.dc_serving.specs.Serving.{IsConfigured}
use Rattle.dc_serving.specs.declared.setup.Basis.{Basis}
use Rattle.dc_status.specs.Faults.{Fault, nobody, fault_of}
use Rattle.dc_status.specs.declared.status.Status.{Status}
use Rattle.dc_status.specs.declared.status.Status.TheVariants.{BadVariable, NoMemory}
use Rattle.dc_recording.specs.declared.ready.Ready.{Ready}
use Rattle.dc_recording.specs.Rooted.{rooted, IsSaid, IsUnsaid}
use Rattle.dc_recording.specs.Recording.{Begun, head_lines, Unready, HasSaid, FitsRecorded}

-- What was taken, by what was read: the root's zone stands first, the cache is empty, and the head is written out and read back; or why not.
abbrev pub ReadyWith : Basis → Result Ready Status → Type 0
ReadyWith b (Ok r) =
    IsSaid b.config × (r.basis.config ≡ rooted b.config) × (r.basis.seed ≡ b.seed) × (r.first ≡ cache_of (rooted b.config)) × (r.head.items ≡ head_lines b.config b.seed)
    × IsTold (told_of (rooted b.config) b.seed) (rooted b.config).permit (rooted b.config).zones
ReadyWith b (Err status) = ((status ≡ BadVariable Record) × IsUnsaid b.config) ⊎ (status ≡ NoMemory)

-- All is ready: the root's zone stands first, the seed is all that was taken, the cache is empty, and the head is written out.
pub record IsReady (configured : Config → Type 0) (taken : List ℕ) (r : Ready) : Type 0 where
  pub config : Config
  pub begun : Begun configured taken config
  pub config_is : r.basis.config ≡ rooted config
  pub seed_is : taken ≡ r.basis.seed
  pub first_is : r.first ≡ cache_of (rooted config)
  pub head_is : r.head.items ≡ head_lines config taken

abbrev pub ReadiesBy : (configured : Config → Type 0) → Option Named → (taken : List ℕ) → (left : Option (List ℕ)) → Result Ready Status → Type 0
ReadiesBy configured bad taken left (Ok r) = (bad ≡ None) × IsReady configured taken r
ReadiesBy configured bad taken left (Err status) = Unready configured bad taken left status

abbrev pub FitsReady : Result Ready Status → Result Config ConfigError → Type 0
FitsReady (Ok r) conf = HasSaid conf
FitsReady (Err status) conf = FitsRecorded status conf

-- What was done with the source: these bytes were taken, and this is ready, or why not.
pub record Readies {S : Type 0} (took : S → List ℕ → S → Type 0) (left : S → Option (List ℕ)) (env : Environment) (tree : Option Tree) (source source' : S) (r : Result Ready Status) : Type 0 where
  pub bytes : List ℕ
  pub taken : took source bytes source'
  pub reads : ReadiesBy (IsConfigured env tree) (bad_recorded env) bytes (left source') r
  pub conf : (t : Tree) → tree ≡ Some t → bad_recorded env ≡ None → FitsReady r (conf_of env t)
  pub variable : (v : Named) → bad_recorded env ≡ Some v → r ≡ Err (BadVariable v)

-- Of which object a call failed.
abbrev pub fault_by : Result Ready Status → Fault
fault_by (Ok r) = nobody
fault_by (Err status) = fault_of status
