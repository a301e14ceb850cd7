-- Runs of tools.
use Rattle.std.proofs.Common.{◌≡◌, ◌≢◌, ℕ, List, [], ◌∷◌, length, map, refl, ap, sym, ◌∙◌, subst, Option, Some, None, option_map, option_and_then}
use Rattle.dc_event.specs.declared.answers.Put.{Put}
use Rattle.dc_event.specs.declared.answers.Put.TheVariants.{Taken, Failed}
use Rattle.dc_lookup.specs.Words.{Job, Tool, dnsqr, jobs_of, typed_job}
use Rattle.dc_event.specs.Causes.{Fares}
use Rattle.dc_event.specs.History.{Exchange}
use Rattle.dc_lookup.specs.Lookup.{Lookup, lookup_after}
use Rattle.dc_writer.specs.Written.{PutWhole}
use Rattle.dc_stub.specs.Faults.{files_well}
use Rattle.dc_stub.specs.Look.{Closes, Looked}
use Rattle.dc_stub.specs.declared.status.ToolStatus.{ToolStatus}
use Rattle.dc_stub.specs.declared.status.ToolStatus.TheVariants.{Done, Usage, NoAnswer, NoPort, Malformed, Ended, Spent, FilesFault, WriteFault, WorldFault, BadScript, NoMemory, ReadFault, LongLine}
use Rattle.dc_stub.specs.Word.{IsShown}

pub shown_from : {K : Type 0} (gained : K → List ℕ → K → Type 0) (result : Put) (old : K) (text : List ℕ) (new : K) → PutWhole gained result old text new → IsShown gained result old text new
shown_from gained (Taken n) old text new h = h.0
shown_from gained Failed old text new h = h

-- A type and a name.

pub typed_is : (ws : List (List ℕ)) (o : Option Job) → option_map (λ j. j ∷ []) o ≡ typed_job ws → jobs_of dnsqr ws ≡ option_map (λ j. j ∷ []) o
unfolding jobs_of
typed_is ws o h = sym h

-- The files went well where words were gone over.
module _ {S : Type 0} (asked : S → List (List ℕ) → S → Type 0) (refused : S → S → Type 0) (faults : S → ℕ) where
  files_by : (status : ToolStatus) (l : Lookup) (text : List ℕ) (count limit : ℕ) (used_up : Type 0) (broken : ℕ → Type 0) (old new : S)
      → Closes status l text count limit used_up broken → faults new ≡ faults old → Fares asked refused faults (files_well status) old new
  files_by Done l text count limit used_up broken old new k h = h
  files_by Usage l text count limit used_up broken old new k h = h
  files_by NoAnswer l text count limit used_up broken old new k h = h
  files_by NoPort l text count limit used_up broken old new k h = h
  files_by Malformed l text count limit used_up broken old new k h = h
  files_by Ended l text count limit used_up broken old new k h = h
  files_by Spent l text count limit used_up broken old new k h = h
  files_by FilesFault l text count limit used_up broken old new k h = absurd k
  files_by WriteFault l text count limit used_up broken old new k h = h
  files_by WorldFault l text count limit used_up broken old new k h = h
  files_by (BadScript n) l text count limit used_up broken old new k h = h
  files_by NoMemory l text count limit used_up broken old new k h = h
  files_by ReadFault l text count limit used_up broken old new k h = h
  files_by (LongLine n) l text count limit used_up broken old new k h = h

  pub files_fare : {W K : Type 0} (history : W → List Exchange → W → Type 0) (used_up : W → Type 0) (broken : W → ℕ → Type 0) (gained : K → List ℕ → K → Type 0) (world world' : W) (sink sink' : K)
      (tool : Tool) (start : Lookup) (words : ℕ → List ℕ) (limit : ℕ) (status : ToolStatus) (old new : S)
      → Looked history used_up broken gained world world' sink sink' tool start words limit status → faults new ≡ faults old → Fares asked refused faults (files_well status) old new
  files_fare history used_up broken gained world world' sink sink' tool start words limit status old new k h =
      files_by status (lookup_after tool words 0 start k.events) k.text (length k.events) limit (used_up world') (broken world') old new k.closes h
