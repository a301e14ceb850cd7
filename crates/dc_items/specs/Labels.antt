-- The labels of names without pointers.
use Rattle.std.specs.Prelude.{ℕ, List, [], Option, Some, None}
use Rattle.dc_model.specs.Name.{NamePart, name_end, label, pointer, no_part}

-- The label that a part is, where the empty one ends a name. A pointer is none.
abbrev pub label_of : NamePart → Option (List ℕ)
label_of name_end = Some []
label_of (label l) = Some l
label_of (pointer at) = None
label_of no_part = None
