-- What each record adds to a text.
use Rattle.std.specs.Prelude.{ℕ, Bool, ◌&&◌, ◌==◌, List, map, Option, None, if◌then◌else◌}
use Rattle.dc_model.specs.Message.{kind_a, kind_mx, kind_ptr, kind_txt, Section, Record, class_in}
use Rattle.dc_model.specs.Marks.{is_answer}
use Rattle.dc_model.specs.Name.{Name}
use Rattle.dc_lookup.specs.Text.{text_if, address_datum, host_in, strings_in, printed, mx_in}

-- Whether a record of this section, type and class is an IN record of a wanted type among the answers.
abbrev pub is_wanted_by : ℕ → Section → (kind class : ℕ) → Bool
is_wanted_by wanted section kind class = class == class_in && (is_answer section && kind == wanted)

abbrev pub is_wanted : ℕ → Record → Bool
is_wanted wanted r = is_wanted_by wanted r.section r.kind r.class

-- The text of a record where it is wanted.
abbrev pub part_of : ℕ → (Record → List ℕ) → Record → List ℕ
part_of wanted text r = text_if (is_wanted wanted r) (text r)

abbrev pub ip_part : Record → List ℕ
ip_part r = part_of kind_a (λ s. address_datum s.body) r

abbrev pub txt_part : Record → List ℕ
txt_part r = part_of kind_txt (λ s. map printed (strings_in s.body)) r

abbrev pub mx_part : Record → List ℕ
mx_part r = part_of kind_mx (λ s. mx_in s.body) r

-- The name of a record that is a wanted PTR.
abbrev pub host_part : Record → Option Name
host_part r = if is_wanted kind_ptr r then host_in r.body else None
