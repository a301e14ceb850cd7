-- What is known of each bucket while a block is gone over, from the oldest entry to the newest.
use Rattle.std.specs.Prelude.{◌≡◌, ℕ, ◌*◌, ◌/◌, ◌<◌, List, [], ◌∷◌, ◌++◌, length, get_or, bit_xor, Bool, true, false}
use Rattle.std.specs.declared.option.Option.{Option}
use Rattle.std.specs.declared.option.Option.TheVariants.{None, Some}
use Rattle.dc_model.specs.Cache.{Entry, hsize}
use Rattle.dc_model.specs.Block.{get4}
use Rattle.dc_model.specs.Chain.{first}
use Rattle.dc_model.specs.Layout.{Place, IsHead, chain, end_to_end, entry_read, next_place}
use Rattle.dc_image.specs.Gathered.{Lies, GoesOn, BehindNewest, IsNewest}
use Rattle.dc_image.specs.declared.fronts.Front.{Front}
use Rattle.dc_image.specs.declared.fronts.Fronts.{Fronts}

-- Of a bucket with these places, newest first: the newest, and the place that its link asks for in front of it. 0 stands for none.
abbrev pub IsFront : (block : List ℕ) → List ℕ → Front → Type 0
IsFront block [] f = f.newest ≡ 0
IsFront block (p ∷ ps) f = (f.newest ≡ p) × (0 < p) × (f.awaited ≡ bit_xor (get4 block p) (first ps))

-- A bucket that has no entry yet.
abbrev pub no_front : Front
no_front = record { newest = 0; awaited = 0 }

-- This place may stand in front of the newest.
abbrev pub Fits : Front → ℕ → Type 0
Fits f at = 0 < f.newest → f.awaited ≡ at

-- All links behind the newest entry of each bucket are right.
abbrev pub AreBehind : (block : List ℕ) → List Place → Type 0
AreBehind block ps = (head : ℕ) → IsHead (length block) head → BehindNewest block (chain (length block) head ps)

-- The link of each head and that of each newest entry are right.
abbrev pub AreNewest : (block : List ℕ) → List Place → Type 0
AreNewest block ps = (head : ℕ) → IsHead (length block) head
    → (get4 block head ≡ first (chain (length block) head ps)) × IsNewest block head (chain (length block) head ps)

-- These places were gone over, newest first, and all links between them are right.
pub record AreNoted (block : List ℕ) (ps : List Place) (fs : Fronts) : Type 0 where
  pub heads : fs.heads ≡ hsize (length block)
  pub count : 4 * length fs.fronts.items ≡ hsize (length block)
  pub fronts : (head : ℕ) → IsHead (length block) head → IsFront block (chain (length block) head ps) (get_or fs.fronts.items (head / 4) no_front)
  pub behind : AreBehind block ps

-- The place behind an entry, exactly where a layout can have one here that ends at most there.
abbrev pub Ends : (block : List ℕ) → (at up : ℕ) → Option ℕ → Type 0
Ends block at up None = GoesOn block at up → ⊥
Ends block at up (Some next) = (next ≡ next_place block at) × GoesOn block at up

-- The entry at a place.
abbrev pub place_read : (block : List ℕ) → (at : ℕ) → Place
place_read block at = record { at = at; entry = entry_read block at }

-- One entry more was gone over; or a layout has none here, or no such links.
abbrev pub Notes : (block : List ℕ) → (at up : ℕ) → List Place → Fronts → Option ℕ → Type 0
Notes block at up ps fs None = GoesOn block at up → AreBehind block (place_read block at ∷ ps) → ⊥
Notes block at up ps fs (Some next) = (next ≡ next_place block at) × GoesOn block at up × AreNoted block (place_read block at ∷ ps) fs

-- All entries from a place up to another one were gone over; or a layout has no such entries, or no such links.
abbrev pub Passes : (block : List ℕ) → (base up : ℕ) → List Place → Fronts → Bool → Type 0
Passes block base up ps fs true = (es : List Entry) × Lies block base up es × AreNoted block (end_to_end base es ++ ps) fs
Passes block base up ps fs false = (es : List Entry) → Lies block base up es → AreBehind block (end_to_end base es ++ ps) → ⊥
