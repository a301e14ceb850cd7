-- What a message says, by the numbers of its records.
use Rattle.std.specs.Prelude.{◌<◌, ℕ, length, option_map, IfSome}
use Rattle.dc_model.specs.Message.{Message, HasNames}
use Rattle.dc_model.specs.Marks as marks
use Rattle.dc_model.specs.Marks.{Marks}
use Rattle.dc_marks.specs.Places.{record_in}
use Rattle.dc_marks.specs.declared.mark.Found.{Found}
use Rattle.dc_heard.specs.declared.says.Says.{Says}
use Rattle.dc_heard.specs.declared.says.Says.TheVariants.{Lame, Alias, NxDomain, Answer, Referral}

-- The class of a message that says this.
abbrev pub class_said : Message → Says → marks.Class
class_said m (Lame i) = marks.lame (record_in m i).owner
class_said m (Alias i) = marks.renames (record_in m i)
class_said m NxDomain = marks.no_name
class_said m Answer = marks.answers
class_said m (Referral i) = marks.refers (record_in m i).owner

-- The record that says so is there.
abbrev pub IsWithin : Message → Says → Type 0
IsWithin m (Lame i) = i < length m.records
IsWithin m (Alias i) = i < length m.records
IsWithin m NxDomain = Unit {0}
IsWithin m Answer = Unit {0}
IsWithin m (Referral i) = i < length m.records

-- The marks that these numbers stand for.
abbrev pub marks_found : Message → Found → Marks
marks_found m f = record {
  out = f.out;
  alias = option_map (record_in m) f.alias;
  soa = option_map (record_in m) f.soa;
  referral = option_map (record_in m) f.referral;
}

-- The record of this number is there, and the names in its data are names.
pub record IsThere (m : Message) (i : ℕ) : Type 0 where
  pub within : i < length m.records
  pub names : HasNames (record_in m i).body

-- So is the SOA, where one was found.
abbrev pub HasSoa : Message → Found → Type 0
HasSoa m f = IfSome f.soa (IsThere m)
