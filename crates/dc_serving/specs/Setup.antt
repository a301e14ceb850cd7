-- What is read before clients are served.
use Rattle.std.specs.Prelude.{◌≡◌, ◌↔◌, ℕ, ◌<◌, List, [], length, Result, Ok, Err}
use Rattle.std.specs.declared.option.Option.{Option}
use Rattle.std.specs.declared.option.Option.TheVariants.{Some}
use Rattle.std.specs.Io.KnownBytes.{IsAtEnd}
use Rattle.dc_rules.specs.declared.config.Config.{Config}
use Rattle.dc_config.specs.Environment.{Environment}
use Rattle.dc_config.specs.Tree.{Tree}
use Rattle.dc_config.specs.Conf.{conf_of}
use Rattle.dc_config.specs.Variables.{bad_variable}
use Rattle.dc_config.specs.declared.error.Variable.{Variable as Named}
use Rattle.dc_config.specs.declared.error.ConfigError.{ConfigError}
use Rattle.dc_status.specs.Faults.{Fault, nobody, fault_of}
use Rattle.dc_status.specs.declared.status.Status.{Status}
use Rattle.dc_status.specs.declared.status.Status.TheVariants.{BadVariable, NoRoot, BadZone, BadPermit, FilesFault, SeedShort, ReadFault, NoMemory}
use Rattle.dc_serving.specs.declared.setup.Basis.{Basis}
use Rattle.dc_serving.specs.Serving.{FitsConf, IsConfigured}

-- Why clients can't be served, by the bytes that were taken of the source: nothing was taken where there is no configuration.
abbrev pub Unread : Status → (taken : List ℕ) → (left : Option (List ℕ)) → Type 0
Unread (BadVariable v) taken left = taken ≡ []
Unread NoRoot taken left = taken ≡ []
Unread (BadZone f) taken left = taken ≡ []
Unread (BadPermit f) taken left = taken ≡ []
Unread FilesFault taken left = taken ≡ []
Unread NoMemory taken left = taken ≡ []
Unread SeedShort taken left = (length taken < 32) × IsAtEnd left
Unread ReadFault taken left = length taken < 32
Unread status taken left = ⊥

-- What was read: the configuration and a whole seed, which is all that was taken of the source; or why not.
abbrev pub Reads : (configured : Config → Type 0) → (taken : List ℕ) → (left : Option (List ℕ)) → Result Basis Status → Type 0
Reads configured taken left (Ok b) = configured b.config × (taken ≡ b.seed) × (length taken ≡ 32)
Reads configured taken left (Err status) = Unread status taken left

-- It fits what is defined of the configuration.
abbrev pub FitsRead : Result Basis Status → Result Config ConfigError → Type 0
FitsRead (Ok b) conf = conf ≡ Ok b.config
FitsRead (Err status) conf = FitsConf status conf

-- What reading did with its source: these bytes were taken, and this was read. A bad variable is told exactly where there is one.
pub record SetsUp {S : Type 0} (took : S → List ℕ → S → Type 0) (left : S → Option (List ℕ)) (env : Environment) (tree : Option Tree) (source source' : S)
    (r : Result Basis Status) : Type 0 where
  pub bytes : List ℕ
  pub taken : took source bytes source'
  pub reads : Reads (IsConfigured env tree) bytes (left source') r
  pub conf : (t : Tree) → tree ≡ Some t → FitsRead r (conf_of env t)
  pub variable : (v : Named) → (r ≡ Err (BadVariable v)) ↔ (bad_variable env ≡ Some v)

-- Of which object a call failed.
abbrev pub fault_by : Result Basis Status → Fault
fault_by (Ok b) = nobody
fault_by (Err status) = fault_of status
