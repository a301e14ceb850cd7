-- How objects fared, by the answer of a command.
use Rattle.std.proofs.Common.{◌≡◌, ℕ, true, List, Option, refl, sym, subst}
use Rattle.dc_simulate.specs.Told.{Wrote}
use Rattle.dc_simulate.specs.declared.command.Simulated.{Simulated}
use Rattle.dc_simulate.specs.declared.command.Simulated.TheVariants as simulated
use Rattle.dc_status.specs.declared.status.Status.{Status}
use Rattle.dc_status.specs.declared.status.Status.TheVariants.{Done, Spent, Usage, BadVariable, NoRoot, BadZone, BadPermit, FilesFault, SeedShort, ReadFault, WriteFault, BadScript, BadImage, Unequal, WorldFault, NoMemory}
use Rattle.dc_status.specs.Faults.{fault_of, files_well, source_well, world_well}
use Rattle.dc_config.specs.Tree.{Tree}
use Rattle.dc_auditing.specs.Audited.{Audited}
use Rattle.dc_status.specs.Simulated.{status_of}
use Rattle.dc_commands.specs.Replay.{Outcome, Keeps}
use Rattle.dc_commands.specs.Simulating.{Simulates}

-- A simulation

pub simulates : {K : Type 0} (gained : K → List ℕ → K → Type 0) (r : Simulated) (status : Status) (old new : K) (text : List ℕ) → status ≡ status_of r
    → Wrote gained r old text new → Simulates gained status old text new
simulates gained r status old new text e w = subst (λ s. Simulates gained s old text new) (sym e) (as_status r w) where
  as_status : (r : Simulated) → Wrote gained r old text new → Simulates gained (status_of r) old text new
  as_status simulated.Done w = w
  as_status simulated.WriteFault w = w
  as_status simulated.NoMemory w = w

-- What a replay keeps of files and world.

pub kept_files : (promised : Outcome) (whole text : List ℕ) (status : Status) → Keeps promised whole text status → files_well (fault_of status) ≡ true
kept_files promised whole text Done k = refl
kept_files promised whole text Spent k = refl
kept_files promised whole text (BadScript n) k = refl
kept_files promised whole text ReadFault k = refl
kept_files promised whole text WriteFault k = refl
kept_files promised whole text NoMemory k = refl
kept_files promised whole text Usage k = absurd k
kept_files promised whole text BadImage k = absurd k
kept_files promised whole text Unequal k = absurd k
kept_files promised whole text (BadVariable v) k = absurd k
kept_files promised whole text NoRoot k = absurd k
kept_files promised whole text (BadZone f) k = absurd k
kept_files promised whole text (BadPermit f) k = absurd k
kept_files promised whole text FilesFault k = absurd k
kept_files promised whole text SeedShort k = absurd k
kept_files promised whole text WorldFault k = absurd k

pub kept_world : (promised : Outcome) (whole text : List ℕ) (status : Status) → Keeps promised whole text status → world_well (fault_of status) ≡ true
kept_world promised whole text Done k = refl
kept_world promised whole text Spent k = refl
kept_world promised whole text (BadScript n) k = refl
kept_world promised whole text ReadFault k = refl
kept_world promised whole text WriteFault k = refl
kept_world promised whole text NoMemory k = refl
kept_world promised whole text Usage k = absurd k
kept_world promised whole text BadImage k = absurd k
kept_world promised whole text Unequal k = absurd k
kept_world promised whole text (BadVariable v) k = absurd k
kept_world promised whole text NoRoot k = absurd k
kept_world promised whole text (BadZone f) k = absurd k
kept_world promised whole text (BadPermit f) k = absurd k
kept_world promised whole text FilesFault k = absurd k
kept_world promised whole text SeedShort k = absurd k
kept_world promised whole text WorldFault k = absurd k

-- What an audit keeps of source and world, and that its words aren't unknown.

pub audited_source : {F K : Type 0} (tree : F → Option Tree) (asked : F → List (List ℕ) → F → Type 0) (gained : K → List ℕ → K → Type 0) (names : List (List ℕ)) (files files' : F) (sink sink' : K) (status : Status)
    → Audited tree asked gained names files files' sink sink' status → source_well (fault_of status) ≡ true
audited_source tree asked gained names files files' sink sink' Done a = refl
audited_source tree asked gained names files files' sink sink' Unequal a = refl
audited_source tree asked gained names files files' sink sink' WriteFault a = refl
audited_source tree asked gained names files files' sink sink' FilesFault a = refl
audited_source tree asked gained names files files' sink sink' NoMemory a = refl
audited_source tree asked gained names files files' sink sink' Spent a = absurd a
audited_source tree asked gained names files files' sink sink' Usage a = absurd a
audited_source tree asked gained names files files' sink sink' (BadVariable v) a = absurd a
audited_source tree asked gained names files files' sink sink' NoRoot a = absurd a
audited_source tree asked gained names files files' sink sink' (BadZone f) a = absurd a
audited_source tree asked gained names files files' sink sink' (BadPermit f) a = absurd a
audited_source tree asked gained names files files' sink sink' SeedShort a = absurd a
audited_source tree asked gained names files files' sink sink' ReadFault a = absurd a
audited_source tree asked gained names files files' sink sink' (BadScript k) a = absurd a
audited_source tree asked gained names files files' sink sink' WorldFault a = absurd a
audited_source tree asked gained names files files' sink sink' BadImage a = absurd a

pub audited_world : {F K : Type 0} (tree : F → Option Tree) (asked : F → List (List ℕ) → F → Type 0) (gained : K → List ℕ → K → Type 0) (names : List (List ℕ)) (files files' : F) (sink sink' : K) (status : Status)
    → Audited tree asked gained names files files' sink sink' status → world_well (fault_of status) ≡ true
audited_world tree asked gained names files files' sink sink' Done a = refl
audited_world tree asked gained names files files' sink sink' Unequal a = refl
audited_world tree asked gained names files files' sink sink' WriteFault a = refl
audited_world tree asked gained names files files' sink sink' FilesFault a = refl
audited_world tree asked gained names files files' sink sink' NoMemory a = refl
audited_world tree asked gained names files files' sink sink' Spent a = absurd a
audited_world tree asked gained names files files' sink sink' Usage a = absurd a
audited_world tree asked gained names files files' sink sink' (BadVariable v) a = absurd a
audited_world tree asked gained names files files' sink sink' NoRoot a = absurd a
audited_world tree asked gained names files files' sink sink' (BadZone f) a = absurd a
audited_world tree asked gained names files files' sink sink' (BadPermit f) a = absurd a
audited_world tree asked gained names files files' sink sink' SeedShort a = absurd a
audited_world tree asked gained names files files' sink sink' ReadFault a = absurd a
audited_world tree asked gained names files files' sink sink' (BadScript k) a = absurd a
audited_world tree asked gained names files files' sink sink' WorldFault a = absurd a
audited_world tree asked gained names files files' sink sink' BadImage a = absurd a

pub audited_known : {F K : Type 0} (tree : F → Option Tree) (asked : F → List (List ℕ) → F → Type 0) (gained : K → List ℕ → K → Type 0) (names : List (List ℕ)) (files files' : F) (sink sink' : K) (status : Status)
    → Audited tree asked gained names files files' sink sink' status → status ≡ Usage → ⊥
audited_known tree asked gained names files files' sink sink' Done a e = cc
audited_known tree asked gained names files files' sink sink' Unequal a e = cc
audited_known tree asked gained names files files' sink sink' WriteFault a e = cc
audited_known tree asked gained names files files' sink sink' FilesFault a e = cc
audited_known tree asked gained names files files' sink sink' NoMemory a e = cc
audited_known tree asked gained names files files' sink sink' Spent a e = absurd a
audited_known tree asked gained names files files' sink sink' Usage a e = absurd a
audited_known tree asked gained names files files' sink sink' (BadVariable v) a e = absurd a
audited_known tree asked gained names files files' sink sink' NoRoot a e = absurd a
audited_known tree asked gained names files files' sink sink' (BadZone f) a e = absurd a
audited_known tree asked gained names files files' sink sink' (BadPermit f) a e = absurd a
audited_known tree asked gained names files files' sink sink' SeedShort a e = absurd a
audited_known tree asked gained names files files' sink sink' ReadFault a e = absurd a
audited_known tree asked gained names files files' sink sink' (BadScript k) a e = absurd a
audited_known tree asked gained names files files' sink sink' WorldFault a e = absurd a
audited_known tree asked gained names files files' sink sink' BadImage a e = absurd a
