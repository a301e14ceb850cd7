-- What a caller that finds a query and takes it out knows in the machine's words.
use Rattle.std.proofs.Common.{◌≡◌, ℕ, Bool, List, map, Option, Some, None, ap, sym, ◌∙◌}
use Rattle.std.specs.Prelude.{◌==◌}
use Rattle.std.specs.List.{slice_get, remove, position}
use Rattle.dc_machine.specs.Kept.{IsRising}
use Rattle.dc_machine.specs.Machine.{Active, Picked, pick, of_query, earliest}
use Rattle.dc_active.specs.Places.{IsLeast, IsEarliestOf}
use Rattle.dc_active.specs.Roll.{Roll}
use Rattle.dc_active.proofs.PickLemmas.{pick_at, pick_none, pick_serial}
use Rattle.dc_active.proofs.EarliestLemmas.{least_of, none_of}

with_others : (o : Option (Picked Active)) (a : Active) (i : ℕ) (old new : Roll) → o ≡ Some (record { it = a; others = remove old.queries i }) → new ≡ record old { queries = remove old.queries i } →
    o ≡ Some (record { it = a; others = new.queries })
with_others o a i old new h e = h ∙ ap (λ (r : Roll). Some (record { it = a; others = r.queries })) (sym e)

-- The query that was found by a test and taken out is what the machine picks.
pub taken_picked : (test : Active → Bool) (old new : Roll) (i : ℕ) (a : Active) → Some i ≡ position test old.queries → slice_get old.queries i ≡ Some a → new ≡ record old { queries = remove old.queries i } →
    pick test old.queries ≡ Some (record { it = a; others = new.queries })
taken_picked test old new i a h k e = with_others (pick test old.queries) a i old new (pick_at test old.queries i a (sym h) k) e

-- Where none was found, the machine picks none.
pub not_picked : (test : Active → Bool) (queries : List Active) → None ≡ position test queries → pick test queries ≡ None
not_picked test queries h = pick_none test queries (sym h)

-- A query that was taken out at any place is what the machine picks by its serial number.
pub taken_by_serial : (n : ℕ) (old new : Roll) (i : ℕ) (a : Active) → IsRising n old.queries → slice_get old.queries i ≡ Some a → new ≡ record old { queries = remove old.queries i } →
    pick (λ b. b.serial == a.serial) old.queries ≡ Some (record { it = a; others = new.queries })
taken_by_serial n old new i a h k e = with_others (pick (λ b. b.serial == a.serial) old.queries) a i old new (pick_serial n old.queries i a h k) e

same_there : (queries : List Active) (i : ℕ) (a b : Active) → slice_get queries i ≡ Some a → slice_get queries i ≡ Some b → a ≡ b
same_there queries i a b h k = cc

-- The query at the place that was told is the machine's earliest.
pub earliest_there : (queries : List Active) (o : Option ℕ) (i : ℕ) (a : Active) → IsEarliestOf queries queries o → o ≡ Some i → slice_get queries i ≡ Some a → earliest (map of_query queries) ≡ Some (of_query a)
earliest_there queries o i a h e k =
    let least : IsLeast queries queries i = least_of queries queries o i e h in
    least.least ∙ ap (λ b. Some (of_query b)) (same_there queries i least.it a least.here k)

-- Where no place was told, there is none.
pub none_earliest : (queries : List Active) (o : Option ℕ) → IsEarliestOf queries queries o → o ≡ None → earliest (map of_query queries) ≡ None
unfolding earliest
none_earliest queries o h e = ap (λ qs. earliest (map of_query qs)) (none_of queries queries o e h)
