-- The place of the earliest query.
use Rattle.std.specs.Prelude.{◌≡◌, ℕ, List, [], map, Option, Some, None, slice_get}
use Rattle.dc_machine.specs.Machine.{Active, of_query, earliest}

-- At this place of all stands the earliest of some.
pub record IsLeast (some all : List Active) (place : ℕ) : Type 0 where
  pub it : Active
  pub here : slice_get all place ≡ Some it
  pub least : earliest (map of_query some) ≡ Some (of_query it)

-- The same, or there are none.
unfoldable pub IsEarliestOf : List Active → List Active → Option ℕ → Type 0
IsEarliestOf some all None = some ≡ []
IsEarliestOf some all (Some place) = IsLeast some all place
