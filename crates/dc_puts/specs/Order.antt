-- The order in which the records of a message are taken.
use Rattle.std.specs.Prelude.{ℕ, ◌+◌, Bool, if◌then◌else◌, List, [], ◌∷◌, ◌++◌, map, filter}
use Rattle.std.specs.Cmp.Lexicographic.{slice_cmp}
use Rattle.std.specs.Ordering.{nat_cmp, is_lt}
use Rattle.dc_model.specs.Name.{Name, lower, wire, wire_length}
use Rattle.dc_model.specs.Message.{Record, Message, is_in}
use Rattle.dc_model.specs.Rules.{Zones, in_zone}
use Rattle.dc_model.specs.Puts.{pairs_of, group_of, Given, given_by}
use Rattle.dc_marks.specs.Places.{record_in}

-- By its type, by the length and the bytes of its owner's name in lower case, and by its number.
abbrev pub owner_key : Name → ℕ → List ℕ
owner_key owner i = wire_length owner ∷ (wire owner ++ (i ∷ []))

-- What a record is sorted by.
unfoldable pub place_key : Message → ℕ → List ℕ
place_key m i = (record_in m i).kind ∷ owner_key (lower (record_in m i).owner) i

-- Whether a record comes before another.
abbrev pub comes_before : Message → ℕ → ℕ → Bool
comes_before m i j = is_lt (slice_cmp nat_cmp (place_key m i) (place_key m j))

-- The numbers of the records of class IN, the first of these records having number i.
unfoldable pub places_from : ℕ → List Record → List ℕ
places_from i [] = []
places_from i (r ∷ rs) = if is_in r then i ∷ places_from (i + 1) rs else places_from (i + 1) rs

-- The records of these numbers.
abbrev pub records_in : Message → List ℕ → List Record
records_in m is = map (record_in m) is

-- What these records give, group by group.
unfoldable pub given_from : Zones → Name → List ℕ → List Record → List Given
given_from zones control server rs =
    map (λ p. given_by zones.rule server p (group_of rs p)) (filter (λ p. in_zone zones control p.owner) (pairs_of rs))
