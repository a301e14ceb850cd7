-- Runs of the filter.
use Rattle.std.proofs.Common.{◌≡◌, ◌≢◌, ℕ, ◌≤◌, ◌^◌, ◌&&◌, min, Bool, true, false, List, [], ◌∷◌, ◌++◌, length, refl, sym, ap, ◌∙◌, subst, inr, arith, Option, Some, None}
use Rattle.std.specs.Prelude.{nat_le, bytes_eq, codes, if◌then◌else◌}
use Rattle.std.specs.Io.KnownBytes.{IsAtEnd}
use Rattle.dc_model.specs.Draws.{draws_of}
use Rattle.dc_model.specs.Name.{is_number, number_value}
use Rattle.dc_model.specs.Rules.{lines_of}
use Rattle.dc_model.proofs.MessageLemmas.{some_of}
use Rattle.dc_model.proofs.PartLemmas.{leb_least}
use Rattle.dc_draws.specs.Drawn.{Drawn}
use Rattle.dc_event.specs.Causes.{Fares}
use Rattle.dc_event.specs.History.{Exchange}
use Rattle.dc_lookup.specs.Filter.{Filter, filter_after}
use Rattle.dc_filter.specs.Sifter.{Sifter}
use Rattle.dc_sieve.specs.Sifted.{Closes, Sifted, fresh_sifter, start_of}
use Rattle.dc_stub.specs.Faults.{files_well}
use Rattle.dc_stub.specs.declared.status.ToolStatus.{ToolStatus}
use Rattle.dc_stub.specs.declared.status.ToolStatus.TheVariants.{Done, Usage, NoAnswer, NoPort, Malformed, Ended, Spent, FilesFault, WriteFault, WorldFault, BadScript, NoMemory, ReadFault, LongLine}
use Rattle.dc_filtering.specs.Words.{slots_in, slots_of}

-- The number of slots is one that an engine takes.

slots_by : (a b c : Bool) (v n : ℕ) → (b ≡ true → 1 ≤ v) → (c ≡ true → v ≤ 16) → (if a && (b && c) then Some v else None) ≡ Some n → (1 ≤ n) × (n ≤ 16)
slots_by true true true v n least most h =
    let is : v ≡ n = some_of v n h in (subst (λ (k : ℕ). 1 ≤ k) is (least refl), subst (λ (k : ℕ). k ≤ 16) is (most refl))
slots_by true true false v n least most h = cc
slots_by true false c v n least most h = cc
slots_by false b c v n least most h = cc

in_fit : (word : List ℕ) (n : ℕ) → slots_in word ≡ Some n → (1 ≤ n) × (n ≤ 16)
in_fit word n h =
    let v = number_value word in
    slots_by (is_number word) (nat_le 1 v) (nat_le v 16) v n (leb_least 1 v) (leb_least v 16) h

behind_fit : (b : Bool) (word : List ℕ) (n : ℕ) → (if b then slots_in word else None) ≡ Some n → (1 ≤ n) × (n ≤ 16)
behind_fit true word n h = in_fit word n h
behind_fit false word n h = cc

pub slots_fit : (words : List (List ℕ)) (n : ℕ) → slots_of words ≡ Some n → (1 ≤ n) × (n ≤ 16)
slots_fit [] n h = let is : 10 ≡ n = some_of 10 n h in (omega (arith, is), omega (arith, is))
slots_fit (w ∷ []) n h = cc
slots_fit (w ∷ m ∷ []) n h = behind_fit (bytes_eq w (codes "-c")) m n h
slots_fit (w ∷ m ∷ v ∷ vs) n h = cc

-- A new engine

pub fresh_is : (s : Sifter) (room : ℕ) (servers : List (List ℕ)) → s ≡ fresh_sifter room servers → s ≡ fresh_sifter s.room s.servers
fresh_is s room servers e = e ∙ sym (ap (λ (x : Sifter). fresh_sifter x.room x.servers) e)

pub fresh_room : (s : Sifter) (room : ℕ) (servers : List (List ℕ)) → s ≡ fresh_sifter room servers → 1 ≤ room → 1 ≤ s.room
fresh_room s room servers e least = subst (λ (n : ℕ). 1 ≤ n) (sym (ap (λ (x : Sifter). x.room) e)) least

pub fresh_draws : (d : Drawn) (seed : List ℕ) → d ≡ record { seed = seed; given = 0 } → d.given ≡ 0
fresh_draws d seed e = ap (λ (x : Drawn). x.given) e

-- How filtering never ends

module _ {S K W : Type 0} (took : S → List ℕ → S → Type 0) (left : S → Option (List ℕ)) (gained : K → List ℕ → K → Type 0) (history : W → List Exchange → W → Type 0) (used_up : W → Type 0) (broken : W → ℕ → Type 0)
    (source source' : S) (sink sink' : K) (old new : W) (limit : ℕ) where
  abbrev pub Sifted_so : (room : ℕ) (servers : List (List ℕ)) (words : ℕ → List ℕ) → ToolStatus → Type 0
  Sifted_so room servers words status = Sifted took left gained history used_up broken source source' sink sink' old new room servers words limit status

  closed : (room : ℕ) (servers : List (List ℕ)) (words : ℕ → List ℕ) (status : ToolStatus) → (s : Sifted_so room servers words status)
      → Closes status (lines_of (s.bytes ++ [])) (filter_after words 0 (start_of room servers (s.bytes ++ [])) s.events) s.text (length s.events) limit (used_up new) (broken new) (IsAtEnd (left source'))
  closed room servers words status s = (s.keeps [] (inr refl)).closes

  pub not_usage : (room : ℕ) (servers : List (List ℕ)) (words : ℕ → List ℕ) (status : ToolStatus) → Sifted_so room servers words status → status ≢ Usage
  not_usage room servers words status s e = closed room servers words Usage (subst (λ (x : ToolStatus). Sifted_so room servers words x) e s)

  pub not_files : (room : ℕ) (servers : List (List ℕ)) (words : ℕ → List ℕ) (status : ToolStatus) → Sifted_so room servers words status → status ≢ FilesFault
  not_files room servers words status s e = closed room servers words FilesFault (subst (λ (x : ToolStatus). Sifted_so room servers words x) e s)

  pub not_memory : (room : ℕ) (servers : List (List ℕ)) (words : ℕ → List ℕ) (status : ToolStatus) → Sifted_so room servers words status → status ≢ NoMemory
  not_memory room servers words status s e = closed room servers words NoMemory (subst (λ (x : ToolStatus). Sifted_so room servers words x) e s)

  -- With the servers and the seed that the sieve was made with.
  pub sifted_with : (s : Sifter) (d : Drawn) (room : ℕ) (servers : List (List ℕ)) (seed : List ℕ) (status : ToolStatus) → s ≡ fresh_sifter room servers → d ≡ record { seed = seed; given = 0 }
      → Sifted_so s.room s.servers (draws_of d.seed) status → Sifted_so room servers (draws_of seed) status
  sifted_with s d room servers seed status e f k =
      subst (λ (x : Drawn). Sifted_so room servers (draws_of x.seed) status) f (subst (λ (x : Sifter). Sifted_so x.room x.servers (draws_of d.seed) status) e k)

  -- The words said so many slots.
  pub sifted_by : (words : List (List ℕ)) (n room : ℕ) (servers : List (List ℕ)) (draws : ℕ → List ℕ) (status : ToolStatus) → slots_of words ≡ Some n → slots_of words ≡ Some room
      → Sifted_so n servers draws status → Sifted_so room servers draws status
  sifted_by words n room servers draws status e f k = subst (λ (x : ℕ). Sifted_so x servers draws status) (some_of n room (sym e ∙ f)) k

-- The files went well where an input was filtered.
module _ {F : Type 0} (asked : F → List (List ℕ) → F → Type 0) (refused : F → F → Type 0) (faults : F → ℕ) where
  pub files_fare : (status : ToolStatus) (old new : F) → status ≢ FilesFault → faults new ≡ faults old → Fares asked refused faults (files_well status) old new
  files_fare Done old new other h = h
  files_fare Usage old new other h = h
  files_fare NoAnswer old new other h = h
  files_fare NoPort old new other h = h
  files_fare Malformed old new other h = h
  files_fare Ended old new other h = h
  files_fare Spent old new other h = h
  files_fare FilesFault old new other h = absurd (other refl)
  files_fare WriteFault old new other h = h
  files_fare WorldFault old new other h = h
  files_fare (BadScript n) old new other h = h
  files_fare NoMemory old new other h = h
  files_fare ReadFault old new other h = h
  files_fare (LongLine n) old new other h = h
