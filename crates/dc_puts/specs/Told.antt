-- What is told and kept of the records of one pair.
use Rattle.std.specs.List.{AllByRecursion}
use Rattle.dc_marks.specs.Places.{record_in}
use Rattle.std.specs.Prelude.{◌<◌, length, ℕ, Bool, false, true, ◌||◌, if◌then◌else◌, ◌==◌, List, [], ◌∷◌, map, filter, flat_map}
use Rattle.dc_model.specs.Name.{Name}
use Rattle.dc_model.specs.Message.{kind_a, kind_cname, kind_soa, kind_axfr, kind_any, Record, Message, HasNames}
use Rattle.dc_model.specs.Rules.{Zones, Rule, one, two, in_zone}
use Rattle.dc_model.specs.Event.{Action, line}
use Rattle.dc_model.specs.Marks.{is_answer}
use Rattle.dc_model.specs.Bodies.{item_of}
use Rattle.dc_model.specs.Puts.{Pair, Given, given_by, lines_given, rr_line, last_alone}

-- Whether a record of a type counts.
unfoldable pub counts_for : ℕ → Record → Bool
counts_for kind r =
    if kind == kind_any || kind == kind_axfr then false else
    (if kind == kind_soa then is_answer r.section else
    (if kind == kind_a then r.len == 4 else true))

-- Of records of CNAME only the last is looked at.
abbrev pub looked_at : ℕ → List Record → List Record
looked_at kind rs = if kind == kind_cname then last_alone rs else rs

-- The lines of those that count.
unfoldable pub lines_for : List ℕ → ℕ → ℕ → Name → List Record → List Action
lines_for server ttl kind owner rs = map (λ r. line (rr_line server ttl kind owner r.body)) (filter (counts_for kind) rs)

-- Their items, one after another.
unfoldable pub items_for : ℕ → List Record → List ℕ
items_for kind rs = flat_map (λ r. item_of kind r.body) (filter (counts_for kind) rs)

-- Whether records of a type are kept, by whether any counts.
abbrev pub keeps_kind : Rule → ℕ → Bool → Bool
keeps_kind one kind some = if kind == kind_any || kind == kind_axfr then false else (if kind == kind_soa then false else true)
keeps_kind two kind some = if kind == kind_any || kind == kind_axfr then false else (if kind == kind_soa then some else true)

-- What the records of one pair give: nothing where a server of the control zone isn't believed for the owner.
unfoldable pub given_in : Zones → Name → List ℕ → Pair → List Record → List Given
given_in zones control server p rs = if in_zone zones control p.owner then given_by zones.rule server p rs ∷ [] else []

-- The lines as actions.
unfoldable pub told : List Given → List Action
told gs = map line (lines_given gs)

-- The records of these numbers are there, and the names in their data are names.
abbrev pub AreSound : Message → List ℕ → Type 0
AreSound m is = AllByRecursion (λ i. (i < length m.records) × HasNames (record_in m i).body) is
