-- When nothing but a fault or want of memory keeps a service from being served.
use Rattle.std.specs.Prelude.{◌≡◌, ◌⊎◌, ℕ, List, [], ◌++◌}
use Rattle.std.specs.declared.option.Option.{Option}
use Rattle.dc_model.specs.Cache.{Cache}
use Rattle.dc_image.specs.Image.{IsImage}
use Rattle.dc_image.specs.Loaded.{MayFollow}

-- The bytes that were taken, with what may follow, are none, or an image of this size.
abbrev pub IsGood : (size : ℕ) → (image : List ℕ) → (image_left : Option (List ℕ)) → Type 0
IsGood size image image_left = (image ≡ []) ⊎ ((tail : List ℕ) × (c : Cache) × MayFollow image_left tail × IsImage size (image ++ tail) c)
