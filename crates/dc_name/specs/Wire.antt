-- The bytes of a name, and the name that they are of.
use Rattle.std.specs.Prelude.{◌≡◌, ℕ, true, List, [], ◌∷◌, ◌++◌}
use Rattle.std.specs.Option.{option_map_or}
use Rattle.dc_model.specs.Name.{Name, IsName, NameRead, root, wire, can_push, name_at}

-- The labels of a name that was read.
abbrev pub labels_of : NameRead → Name
labels_of r = r.name

-- The name that the bytes say at their front; where they say none, the root.
unfoldable pub name_of : List ℕ → Name
name_of bs = option_map_or labels_of (name_at bs 0) root

-- The bytes are those of a name, and of nothing more.
pub record IsWire (bs : List ℕ) : Type 0 where
  pub name : IsName (name_of bs)
  pub bytes : bs ≡ wire (name_of bs)

-- New bytes are those of the name with a further label.
pub record IsPushed (bs l new : List ℕ) : Type 0 where
  pub can : can_push (name_of bs) l ≡ true
  pub name : IsWire new
  pub labels : name_of new ≡ name_of bs ++ (l ∷ [])
