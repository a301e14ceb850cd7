use Rattle.std.proofs.Common.{◌≡◌, ◌+◌, ◌*◌, ◌≤◌, ◌++◌, take, flat_map}
use Rattle.std.specs.Str.{str_to_ascii_lowercase}
use Rattle.arrayvec.specs.ArrayVec.{array_vec_len}
use Rattle.dc_lookup.specs.Text.{dot_byte}
use Rattle.dc_show.proofs.names.push_label.Given as goal

abbrev pub invariant-loop-byte : goal.invariant-loop-byte
invariant-loop-byte l =
    (l.out.items ≡ l.initial.out.items ++ flat_map dot_byte (str_to_ascii_lowercase (take l.byte-index l.label)))
    × (array_vec_len l.out ≤ array_vec_len l.initial.out + 4 * l.byte-index)
