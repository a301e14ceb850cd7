-- Names in the bytes of a key.
use Rattle.std.specs.Prelude.{ℕ, ◌+◌, ◌≤◌, ◌≡◌, List, length, drop}
use Rattle.dc_model.specs.Name.{Name, parent}
use Rattle.dc_name.specs.Wire.{IsWire, name_of}

-- The name of the key that begins at a place: it stands behind the two bytes of a type.
abbrev pub name_at : List ℕ → ℕ → Name
name_at bytes start = name_of (drop (2 + start) bytes)

-- Such a key begins there, and there are no more bytes than a key has at most.
pub record IsKey (bytes : List ℕ) (start : ℕ) : Type 0 where
  pub name : IsWire (drop (2 + start) bytes)
  pub most : length bytes ≤ 257

-- Behind so many bytes of a name's wire form stands that of the name above.
pub record IsAbove (bs : List ℕ) (n : ℕ) : Type 0 where
  pub short : n ≤ length bs
  pub name : IsWire (drop n bs)
  pub labels : name_of (drop n bs) ≡ parent (name_of bs)
