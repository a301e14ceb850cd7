-- Names in text, label by label.
use Rattle.std.specs.Prelude.{ℕ, List, ◌∷◌, flat_map}
use Rattle.dc_model.specs.Name.{Name, lower}
use Rattle.dc_lookup.specs.Text.{dot_byte}

-- A label in text, with a dot before it.
abbrev pub dotted_label : List ℕ → List ℕ
dotted_label l = 46 ∷ flat_map dot_byte l

-- The labels behind the first one.
abbrev pub dotted : Name → List ℕ
dotted n = flat_map dotted_label (lower n)
