-- The first cache of a service that keeps its cache.
use Rattle.std.specs.Prelude.{◌≡◌, ◌⊎◌, ℕ, Bool, true, false, List, [], Result, Ok, Err}
use Rattle.std.specs.declared.option.Option.{Option}
use Rattle.std.specs.Io.KnownBytes.{IsAtEnd}
use Rattle.dc_model.specs.Cache.{Cache, empty}
use Rattle.dc_image.specs.Image.{IsImage}
use Rattle.dc_image.specs.Loaded.{Refuses}
use Rattle.dc_image.specs.declared.load.ImageError.{ImageError}
use Rattle.dc_image.specs.declared.load.ImageError.TheVariants as error

-- The cache with which a service of this size begins, by all the bytes that the source had: that of the image which they are, with nothing
-- written to it yet; or the empty one, where there was no byte.
abbrev pub IsFirst : (size : ℕ) → (bytes : List ℕ) → (left : Option (List ℕ)) → Cache → Type 0
IsFirst size bytes left c = (IsImage size bytes c × (c.motion ≡ 0) × IsAtEnd left) ⊎ ((bytes ≡ []) × IsAtEnd left × (c ≡ empty size))

-- What an answer says of the bytes that were taken.
abbrev pub Begins : (size : ℕ) → (bytes : List ℕ) → (left : Option (List ℕ)) → Result Cache ImageError → Type 0
Begins size bytes left (Ok c) = IsFirst size bytes left c
Begins size bytes left (Err error.Empty) = ⊥
Begins size bytes left (Err error.Bad) = Refuses size bytes left error.Bad
Begins size bytes left (Err error.ReadFault) = Refuses size bytes left error.ReadFault
Begins size bytes left (Err error.NoMemory) = Refuses size bytes left error.NoMemory

-- Whether the source went well.
abbrev pub well_begun : Result Cache ImageError → Bool
well_begun (Ok c) = true
well_begun (Err error.Empty) = true
well_begun (Err error.Bad) = true
well_begun (Err error.ReadFault) = false
well_begun (Err error.NoMemory) = true
