-- What was asked of the files, and how their calls fared.
use Rattle.std.specs.Prelude.{◌≡◌, ℕ, Bool, true, false, if◌then◌else◌, List, [], ◌∷◌, ◌++◌, codes, Option, Some, Result, Ok, Err}
use Rattle.dc_config.specs.Tree.{Tree}
use Rattle.dc_config.specs.Folders.{is_shown, listing}
use Rattle.dc_config.specs.declared.error.ConfigError.{ConfigError}
use Rattle.dc_config.specs.declared.error.ConfigError.TheVariants.{BadVariable, BadZone, NoRoot, BadPermit, FilesFault, NoMemory}

-- Whether no call of the files failed.

abbrev pub well_error : ConfigError → Bool
well_error (BadVariable v) = true
well_error (BadZone file) = true
well_error NoRoot = true
well_error (BadPermit file) = true
well_error FilesFault = false
well_error NoMemory = true

abbrev pub well : {T : Type 0} → Result T ConfigError → Bool
well (Ok x) = true
well (Err why) = well_error why

-- The path that is read of a file in `servers`. A name with a first dot is skipped.
abbrev pub path_of : List ℕ → List (List ℕ)
path_of file = if is_shown file then (codes "servers/" ++ file) ∷ [] else []

-- Those of several, one after another.
abbrev pub paths_of : List (List ℕ) → List (List ℕ)
paths_of [] = []
paths_of (file ∷ files) = path_of file ++ paths_of files

-- The folder `servers` was asked for, then each of its files that counts, in order, and then these. Its files are those that the tree tells.
pub record AskedZones {F : Type 0} (tree : F → Option Tree) (asked : F → List (List ℕ) → F → Type 0) (behind : List (List ℕ)) (old new : F) : Type 0 where
  pub files : List (List ℕ)
  pub told : (t : Tree) → tree old ≡ Some t → files ≡ listing (t.names (codes "servers"))
  pub asks : asked old (codes "servers" ∷ (paths_of files ++ behind)) new
