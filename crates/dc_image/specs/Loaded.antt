-- What loading and saving images come to.
use Rattle.std.specs.Prelude.{◌≡◌, ◌≢◌, ◌⊎◌, ℕ, ◌<◌, ◌≤◌, List, [], ◌++◌, length, take, Bool, true, false, Result, Ok, Err}
use Rattle.std.specs.declared.option.Option.{Option}
use Rattle.std.specs.declared.option.Option.TheVariants.{None, Some}
use Rattle.std.specs.Io.KnownBytes.{IsAtEnd}
use Rattle.std.specs.Prelude.{Vec}
use Rattle.std.specs.declared.alloc.Global.{Global}
use Rattle.dc_model.specs.Cache.{Cache}
use Rattle.dc_event.specs.Told.{GainedFront}
use Rattle.dc_event.specs.declared.answers.Taken.{Taken}
use Rattle.dc_event.specs.declared.answers.Taken.TheVariants as taken
use Rattle.dc_chain.specs.declared.Marks.{Marks}
use Rattle.dc_image.specs.Image.{Marked, IsLaid, IsImage, signature, word_at, marks_in}
use Rattle.dc_image.specs.Gathered.{HasLayout}
use Rattle.dc_image.specs.declared.load.Parts.{Parts}
use Rattle.dc_image.specs.declared.load.ImageError.{ImageError}
use Rattle.dc_image.specs.declared.load.ImageError.TheVariants.{Empty, Bad, ReadFault, NoMemory}
use Rattle.dc_image.specs.declared.save.Saved.{Saved}
use Rattle.dc_image.specs.declared.save.Saved.TheVariants.{Whole, Failed}

-- The marks that the code has.
abbrev pub marked : Marks → Marked
marked m = record { writer = m.writer; oldest = m.oldest; unused = m.unused }

-- Loading

-- What may follow the bytes that were taken of a source: what it has left, where that is told; or nothing.
abbrev pub MayFollow : Option (List ℕ) → List ℕ → Type 0
MayFollow left tail = (left ≡ Some tail) ⊎ (tail ≡ [])

-- These bytes, with whatever may follow, are no image of this size.
abbrev pub IsNoImage : (size : ℕ) → (bytes : List ℕ) → (left : Option (List ℕ)) → Type 0
IsNoImage size bytes left = (tail : List ℕ) (c : Cache) → MayFollow left tail → IsImage size (bytes ++ tail) c → ⊥

-- Why nothing was loaded: the source had no byte at all; or what it had is no image of this size with nothing behind it.
abbrev pub Refuses : (size : ℕ) → (bytes : List ℕ) → (left : Option (List ℕ)) → ImageError → Type 0
Refuses size bytes left Empty = (bytes ≡ []) × IsAtEnd left
Refuses size bytes left Bad = (bytes ≢ []) × IsNoImage size bytes left
Refuses size bytes left ReadFault = Unit {0}
Refuses size bytes left NoMemory = Unit {0}

-- What an answer says of the bytes that were taken. A cache that was loaded is that of the image which was all that the source had, and nothing
-- was written to it yet.
abbrev pub Loads : (size : ℕ) → (bytes : List ℕ) → (left : Option (List ℕ)) → Result Cache ImageError → Type 0
Loads size bytes left (Ok c) = IsImage size bytes c × (c.motion ≡ 0) × IsAtEnd left
Loads size bytes left (Err e) = Refuses size bytes left e

-- Whether the source went well.
abbrev pub well_loaded : {T : Type 0} → Result T ImageError → Bool
well_loaded (Ok value) = true
well_loaded (Err Empty) = true
well_loaded (Err Bad) = true
well_loaded (Err ReadFault) = false
well_loaded (Err NoMemory) = true

-- What was taken to fill a buffer: less than the whole only where the source has no more.
abbrev pub Fills : Taken → (bytes buffer : List ℕ) → (left : Option (List ℕ)) → Type 0
Fills (taken.Bytes n) bytes buffer left = (n ≤ length buffer) × (bytes ≡ take n buffer) × (n < length buffer → IsAtEnd left)
Fills taken.Failed bytes buffer left = length bytes ≤ length buffer

-- The head of an image of this size, with these marks.
pub record IsHeadOf (size : ℕ) (head : List ℕ) (m : Marked) : Type 0 where
  pub long : length head ≡ 24
  pub signed : take 8 head ≡ signature
  pub sized : word_at head 8 ≡ size
  pub marks : marks_in head ≡ m

-- The marks of a head, exactly where it has the signature and the size.
abbrev pub MarksOf : (size : ℕ) → (head : List ℕ) → Option Marks → Type 0
MarksOf size head (Some m) = IsHeadOf size head (marked m)
MarksOf size head None = take 8 head ≡ signature → word_at head 8 ≡ size → ⊥

-- What was taken as a head.
abbrev pub TakesHead : (size : ℕ) → (bytes : List ℕ) → (left : Option (List ℕ)) → Result Marks ImageError → Type 0
TakesHead size bytes left (Ok m) = IsHeadOf size bytes (marked m)
TakesHead size bytes left (Err e) = (length bytes ≤ 24) × Refuses size bytes left e

-- What was taken as a block: less than the whole only where the source has no more.
abbrev pub TakesBlock : (size : ℕ) → (bytes : List ℕ) → (left : Option (List ℕ)) → Result (Vec ℕ Global) ImageError → Type 0
TakesBlock size bytes left (Ok block) = (bytes ≡ block.items) × (length bytes ≡ size)
TakesBlock size bytes left (Err Empty) = ⊥
TakesBlock size bytes left (Err Bad) = (length bytes < size) × IsAtEnd left
TakesBlock size bytes left (Err ReadFault) = length bytes ≤ size
TakesBlock size bytes left (Err NoMemory) = bytes ≡ []

-- What was taken where nothing may be left.
abbrev pub TakesEnd : (bytes : List ℕ) → (left : Option (List ℕ)) → Result (Unit {0}) ImageError → Type 0
TakesEnd bytes left (Ok value) = (bytes ≡ []) × IsAtEnd left
TakesEnd bytes left (Err Empty) = ⊥
TakesEnd bytes left (Err Bad) = length bytes ≡ 1
TakesEnd bytes left (Err ReadFault) = bytes ≡ []
TakesEnd bytes left (Err NoMemory) = ⊥

-- What was taken as an image: a head, a block, and nothing that may follow.
abbrev pub TakesParts : (size : ℕ) → (bytes : List ℕ) → (left : Option (List ℕ)) → Result Parts ImageError → Type 0
TakesParts size bytes left (Ok parts) = (head : List ℕ) × IsHeadOf size head (marked parts.marks) × (bytes ≡ head ++ parts.block.items) × (length parts.block.items ≡ size) × IsAtEnd left
TakesParts size bytes left (Err e) = Refuses size bytes left e

-- The cache at rest of which a block and marks are a layout; or they are of none.
abbrev pub Adopts : (block : List ℕ) → Marked → Result Cache ImageError → Type 0
Adopts block m (Ok c) = IsLaid block m c × (c.motion ≡ 0)
Adopts block m (Err Empty) = ⊥
Adopts block m (Err Bad) = HasLayout block m → ⊥
Adopts block m (Err ReadFault) = ⊥
Adopts block m (Err NoMemory) = Unit {0}

-- Saving

-- What saving puts: an image of the cache, or a front of one where the sink failed.
abbrev pub Saves : {O : Type 0} → (O → List ℕ → O → Type 0) → Cache → (old new : O) → Saved → Type 0
Saves gained c old new Whole = (image : List ℕ) × IsImage c.size image c × gained old image new
Saves gained c old new Failed = (image : List ℕ) × IsImage c.size image c × GainedFront gained old image new

-- Whether the sink went well.
abbrev pub well_saved : Saved → Bool
well_saved Whole = true
well_saved Failed = false
