-- The part of a name that `part_at` answers.
use Rattle.std.specs.Prelude.{ℕ, ◌+◌, length, Option, Some, None}
use Rattle.dc_model.specs.Name.{NamePart, name_end, label, pointer, no_part}
use Rattle.dc_packet.specs.declared.part.Part.{Part}
use Rattle.dc_packet.specs.declared.part.Part.TheVariants.{End, Label, Pointer}

-- The part that an answer says.
abbrev pub named_part : Option Part → NamePart
named_part None = no_part
named_part (Some End) = name_end
named_part (Some (Label bytes)) = label bytes.now
named_part (Some (Pointer at)) = pointer at

-- The place behind a part, which stands at a place.
abbrev pub behind_part : ℕ → Option Part → ℕ
behind_part at None = 0
behind_part at (Some End) = at + 1
behind_part at (Some (Label bytes)) = at + (1 + length bytes.now)
behind_part at (Some (Pointer to)) = at + 2
