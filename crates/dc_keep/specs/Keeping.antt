-- What a service that keeps its cache comes to.
use Rattle.std.specs.Prelude.{◌≡◌, ◌≢◌, ◌↔◌, ◌⊎◌, ℕ, ◌+◌, ◌<◌, ◌≤◌, min, max, Bool, true, false, List, [], ◌∷◌, length, Result, Ok}
use Rattle.std.specs.declared.option.Option.{Option}
use Rattle.std.specs.declared.option.Option.TheVariants.{None, Some}
use Rattle.std.specs.Io.KnownBytes.{IsAtEnd}
use Rattle.dc_model.specs.Cache.{Cache}
use Rattle.dc_event.specs.Causes.{Fares}
use Rattle.dc_event.specs.History.{Exchange, listened}
use Rattle.dc_rules.specs.declared.config.Config.{Config}
use Rattle.dc_config.specs.Environment.{Environment}
use Rattle.dc_config.specs.Tree.{Tree}
use Rattle.dc_config.specs.Conf.{conf_of}
use Rattle.dc_config.specs.Modes.{bad_kept, events_in}
use Rattle.dc_config.specs.declared.error.Variable.{Variable as Named}
use Rattle.dc_config.specs.declared.error.ConfigError.{ConfigError}
use Rattle.dc_core.specs.Running.{Running}
use Rattle.dc_image.specs.Loaded.{IsNoImage}
use Rattle.dc_image.specs.declared.load.ImageError.{ImageError}
use Rattle.dc_image.specs.declared.load.ImageError.TheVariants as error
use Rattle.dc_serving.specs.Serving.{ServingFrom, IsConfigured, FitsConf}
use Rattle.dc_status.specs.declared.status.Status.{Status}
use Rattle.dc_status.specs.declared.status.Status.TheVariants.{Done, Spent, Usage, BadVariable, NoRoot, BadZone, BadPermit, FilesFault, SeedShort, ReadFault, WriteFault, BadScript, BadImage, Unequal, WorldFault, NoMemory}
use Rattle.dc_keep.specs.First.{IsFirst}
use Rattle.dc_keep.specs.Left.{Leaves}

-- The configured size of the cache in bytes, brought into 100 to 1000000000.
abbrev pub size_of : Config → ℕ
size_of c = min (max c.size 100) 1000000000

-- How many events are handled at most, by what the call allows and what EVENTS says, where it is set: the lesser.

abbrev pub lesser : ℕ → Option ℕ → ℕ
lesser turns None = turns
lesser turns (Some events) = min turns events

abbrev pub turns_of : Environment → ℕ → ℕ
turns_of env turns = lesser turns (events_in env)

-- The status where no first cache was loaded.
abbrev pub status_unloaded : ImageError → Status
status_unloaded error.Empty = BadImage
status_unloaded error.Bad = BadImage
status_unloaded error.ReadFault = ReadFault
status_unloaded error.NoMemory = NoMemory

-- A service could begin: there is a configuration, the seed is whole, and the bytes of the image that were taken are all that its source had, and
-- say with which cache to begin.
pub record Begun (configured : Config → Type 0) (taken image : List ℕ) (image_left : Option (List ℕ)) (c : Config) (first : Cache) : Type 0 where
  pub configured_so : configured c
  pub seed : length taken ≡ 32
  pub first_is : IsFirst (size_of c) image image_left first

-- It couldn't, as what was in the place of an image is neither nothing nor an image of the configured size with nothing behind it.
pub record Unloaded (configured : Config → Type 0) (taken image : List ℕ) (image_left : Option (List ℕ)) : Type 0 where
  pub config : Config
  pub configured_so : configured config
  pub seed : length taken ≡ 32
  pub some : image ≢ []
  pub none : IsNoImage (size_of config) image image_left
  pub most : length image ≤ 24 + size_of config + 1

-- Why nothing was served, and what passed in the world, by the bytes that were taken of the source of the seed and of that of the image. No byte
-- of the image is taken before the seed is whole.
abbrev pub Unserved : {W : Type 0} (history : W → List Exchange → W → Type 0) (old new : W) (configured : Config → Type 0)
    (taken : List ℕ) (left : Option (List ℕ)) (image : List ℕ) (image_left : Option (List ℕ)) → Status → Type 0
Unserved history old new configured taken left image image_left (BadVariable v) = (taken ≡ []) × (image ≡ []) × history old [] new
Unserved history old new configured taken left image image_left NoRoot = (taken ≡ []) × (image ≡ []) × history old [] new
Unserved history old new configured taken left image image_left (BadZone f) = (taken ≡ []) × (image ≡ []) × history old [] new
Unserved history old new configured taken left image image_left (BadPermit f) = (taken ≡ []) × (image ≡ []) × history old [] new
Unserved history old new configured taken left image image_left FilesFault = (taken ≡ []) × (image ≡ []) × history old [] new
Unserved history old new configured taken left image image_left SeedShort = (length taken < 32) × IsAtEnd left × (image ≡ []) × history old [] new
Unserved history old new configured taken left image image_left ReadFault = (((length taken < 32) × (image ≡ [])) ⊎ (length taken ≡ 32)) × history old [] new
Unserved history old new configured taken left image image_left BadImage = Unloaded configured taken image image_left × history old [] new
Unserved history old new configured taken left image image_left NoMemory = history old [] new
Unserved history old new configured taken left image image_left WorldFault =
    (c : Config) × (first : Cache) × Begun configured taken image image_left c first × history old (listened c.ip c.ipsend false ∷ []) new
Unserved history old new configured taken left image image_left Done = ⊥
Unserved history old new configured taken left image image_left Spent = ⊥
Unserved history old new configured taken left image image_left Usage = ⊥
Unserved history old new configured taken left image image_left WriteFault = ⊥
Unserved history old new configured taken left image image_left (BadScript k) = ⊥
Unserved history old new configured taken left image image_left Unequal = ⊥

-- What a session is, by the core that it leaves: none, and nothing was served or saved; or one, and events were served with the configuration, the
-- seed and the first cache, and then the last cache was saved, or wasn't, by how serving ended.
abbrev pub IsSession : {W O : Type 0} (history : W → List Exchange → W → Type 0) (used_up : W → Type 0) (broken : W → ℕ → Type 0)
    (gained : O → List ℕ → O → Type 0) (old new : W) (out out' : O) (configured : Config → Type 0) (taken : List ℕ) (left : Option (List ℕ))
    (image : List ℕ) (image_left : Option (List ℕ)) (limit : ℕ) (status : Status) → Option Running → Type 0
IsSession history used_up broken gained old new out out' configured taken left image image_left limit status None =
    Unserved history old new configured taken left image image_left status × gained out [] out'
IsSession history used_up broken gained old new out out' configured taken left image image_left limit status (Some core) =
    (c : Config) × (first : Cache) × Begun configured taken image image_left c first
    × (ended : Status) × ServingFrom history used_up broken old new c first taken limit ended core × Leaves gained core.machine.cache out out' ended status

-- The status fits what is defined of the configuration, where no variable is bad: a bad image and a failed save come only with one that is defined.
abbrev pub FitsKept : Status → Result Config ConfigError → Type 0
FitsKept BadImage conf = (c : Config) × (conf ≡ Ok c)
FitsKept WriteFault conf = (c : Config) × (conf ≡ Ok c)
FitsKept status conf = FitsConf status conf

-- How the two sources fared, that of the seed and that of the image, by the bytes of the seed that were taken: with ReadFault one of them failed, the
-- first before the seed was whole or the second behind it; else none failed.
abbrev pub ReadSo : Status → (taken : List ℕ) → (seed image : Bool → Type 0) → Type 0
ReadSo ReadFault taken seed image = ((length taken < 32) × seed false × image true) ⊎ ((length taken ≡ 32) × seed true × image false)
ReadSo status taken seed image = seed true × image true

-- What a service that keeps its cache did with its sources, its sink and its world: these bytes were taken, and this is the session. Where the files
-- tell what they hold, the status fits the configuration. A bad variable is told exactly where there is one.
pub record Kept {S W I O : Type 0} (took : S → List ℕ → S → Type 0) (left : S → Option (List ℕ)) (refused : S → S → Type 0) (faults : S → ℕ)
    (history : W → List Exchange → W → Type 0) (used_up : W → Type 0) (broken : W → ℕ → Type 0)
    (image_took : I → List ℕ → I → Type 0) (image_left : I → Option (List ℕ)) (image_refused : I → I → Type 0) (image_faults : I → ℕ)
    (gained : O → List ℕ → O → Type 0) (env : Environment) (tree : Option Tree)
    (source source' : S) (world world' : W) (image image' : I) (out out' : O) (limit : ℕ) (status : Status) (core : Option Running) : Type 0 where
  pub bytes : List ℕ
  pub taken : took source bytes source'
  pub image_bytes : List ℕ
  pub image_taken : image_took image image_bytes image'
  pub session : IsSession history used_up broken gained world world' out out' (IsConfigured env tree) bytes (left source') image_bytes (image_left image') limit status core
  pub conf : (t : Tree) → tree ≡ Some t → bad_kept env ≡ None → FitsKept status (conf_of env t)
  pub variable : (v : Named) → (status ≡ BadVariable v) ↔ (bad_kept env ≡ Some v)
  pub read_so : ReadSo status bytes (λ well. Fares took refused faults well source source') (λ well. Fares image_took image_refused image_faults well image image')
