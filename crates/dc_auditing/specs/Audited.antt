-- What an audit comes to.
use Rattle.std.specs.Prelude.{◌≡◌, ℕ, Bool, true, false, List, length, map, Option, Some}
use Rattle.std.specs.List.{list_all}
use Rattle.dc_event.specs.Told.{GainedFront}
use Rattle.dc_config.specs.Tree.{Tree}
use Rattle.dc_status.specs.declared.status.Status.{Status}
use Rattle.dc_status.specs.declared.status.Status.TheVariants.{Done, Spent, Usage, BadVariable, NoRoot, BadZone, BadPermit, FilesFault, SeedShort, ReadFault, WriteFault, BadScript, BadImage, Unequal, WorldFault, NoMemory}
use Rattle.dc_auditing.specs.Findings.{Recorded, recorded_at, paths_of, finding_of, is_same}
use Rattle.dc_auditing.specs.Report.{report_of}

-- The files of these names were read, each script before its recording, and this is held of each name. It is what the tree tells, where it does.
pub record Read {F : Type 0} (tree : F → Option Tree) (asked : F → List (List ℕ) → F → Type 0) (names : List (List ℕ)) (old new : F) (held : List (Option Recorded)) : Type 0 where
  pub each : length held ≡ length names
  pub told : (t : Tree) → tree old ≡ Some t → held ≡ map (recorded_at t) names
  pub asks : asked old (paths_of names) new

-- The lines of what is held of these names.
abbrev pub lines : List (List ℕ) → List (Option Recorded) → List ℕ
lines names held = report_of names (map finding_of held)

-- Whether each recorded text is what the resolver does.
abbrev pub all_same : List (Option Recorded) → Bool
all_same held = list_all is_same (map finding_of held)

-- All files were read, and all lines were written; each recorded text is what the resolver does, or not each.
pub record Told {F K : Type 0} (tree : F → Option Tree) (asked : F → List (List ℕ) → F → Type 0) (gained : K → List ℕ → K → Type 0) (names : List (List ℕ)) (files files' : F) (sink sink' : K)
    (same : Bool) : Type 0 where
  pub held : List (Option Recorded)
  pub read : Read tree asked names files files' held
  pub same_is : all_same held ≡ same
  pub written : gained sink (lines names held) sink'

-- All files were read, and a front of the lines was written.
pub record CutShort {F K : Type 0} (tree : F → Option Tree) (asked : F → List (List ℕ) → F → Type 0) (gained : K → List ℕ → K → Type 0) (names : List (List ℕ)) (files files' : F) (sink sink' : K) : Type 0 where
  pub held : List (Option Recorded)
  pub read : Read tree asked names files files' held
  pub written : GainedFront gained sink (lines names held) sink'

-- What was done, by the status. Where files or memory failed, nothing was written. Other statuses don't come.
abbrev pub Audited : {F K : Type 0} (tree : F → Option Tree) (asked : F → List (List ℕ) → F → Type 0) (gained : K → List ℕ → K → Type 0) (names : List (List ℕ)) (files files' : F) (sink sink' : K) → Status → Type 0
Audited tree asked gained names files files' sink sink' Done = Told tree asked gained names files files' sink sink' true
Audited tree asked gained names files files' sink sink' Unequal = Told tree asked gained names files files' sink sink' false
Audited tree asked gained names files files' sink sink' WriteFault = CutShort tree asked gained names files files' sink sink'
Audited tree asked gained names files files' sink sink' FilesFault = sink' ≡ sink
Audited tree asked gained names files files' sink sink' NoMemory = sink' ≡ sink
Audited tree asked gained names files files' sink sink' Spent = ⊥
Audited tree asked gained names files files' sink sink' Usage = ⊥
Audited tree asked gained names files files' sink sink' (BadVariable v) = ⊥
Audited tree asked gained names files files' sink sink' NoRoot = ⊥
Audited tree asked gained names files files' sink sink' (BadZone f) = ⊥
Audited tree asked gained names files files' sink sink' (BadPermit f) = ⊥
Audited tree asked gained names files files' sink sink' SeedShort = ⊥
Audited tree asked gained names files files' sink sink' ReadFault = ⊥
Audited tree asked gained names files files' sink sink' (BadScript k) = ⊥
Audited tree asked gained names files files' sink sink' WorldFault = ⊥
Audited tree asked gained names files files' sink sink' BadImage = ⊥
