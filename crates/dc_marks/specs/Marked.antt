-- The marks of a message, by the numbers of its records.
use Rattle.std.specs.Prelude.{◌≡◌, ℕ, Bool, not, ◌&&◌, ◌||◌, if◌then◌else◌, ◌==◌, Some}
use Rattle.dc_model.specs.Name.{Name, same}
use Rattle.dc_model.specs.Message.{kind_ns, kind_cname, kind_soa, Record, Message, is_in}
use Rattle.dc_model.specs.Marks.{Marks, is_wanted, is_answer, is_authority}
use Rattle.dc_marks.specs.Places.{IsNumberOf}
use Rattle.dc_marks.specs.declared.mark.Found.{Found}

-- What was found are these marks of a message.
pub record AreMarks (m : Message) (f : Found) (k : Marks) : Type 0 where
  pub out : f.out ≡ k.out
  pub alias : IsNumberOf m.records f.alias k.alias
  pub soa : IsNumberOf m.records f.soa k.soa
  pub referral : IsNumberOf m.records f.referral k.referral

-- Whether a record answers for a name.
abbrev pub answers : Name → Record → Bool
answers name r = is_in r && (is_answer r.section && same r.owner name)

-- Whether a record stands in the authority section.
abbrev pub has_authority : Record → Bool
has_authority r = is_in r && is_authority r.section

-- What was found, with one record more, which has this number.
abbrev pub found_more : Name → ℕ → ℕ → Record → Found → Found
found_more name wanted i r f = record {
  out = f.out || (answers name r && is_wanted wanted r.kind);
  alias = if answers name r && (r.kind == kind_cname && not (is_wanted wanted kind_cname)) then Some i else f.alias;
  soa = if has_authority r && r.kind == kind_soa then Some i else f.soa;
  referral = if has_authority r && r.kind == kind_ns then Some i else f.referral;
}
