-- Numbers of records, sorted and in runs.
use Rattle.std.specs.Prelude.{◌≡◌, ◌<◌, ℕ, List, [], ◌∷◌, length, take, slice_index, false}
use Rattle.std.specs.List.{AllByRecursion}
use Rattle.std.specs.Ordering.{is_lt}
use Rattle.dc_model.specs.Name.{IsName}
use Rattle.dc_model.specs.Message.{Record, Message}
use Rattle.dc_model.specs.Puts.{pair_of, pair_cmp}
use Rattle.dc_marks.specs.Places.{record_in}
use Rattle.dc_puts.specs.Order.{records_in}
use Rattle.dc_puts.specs.Group.{first_pair}
use Rattle.dc_puts.specs.Told.{AreSound}

-- The first n records have the pair of the first, and the one behind them hasn't.
pub record AreRun (m : Message) (is : List ℕ) (n : ℕ) : Type 0 where
  pub own : AllByRecursion (λ r. pair_of r ≡ first_pair m is) (records_in m (take n is))
  pub next : n < length is → pair_of (record_in m (slice_index is n)) ≡ first_pair m is → ⊥

-- No record's pair comes before an earlier one's.
abbrev pub AreUp : List Record → Type 0
AreUp [] = Unit {0}
AreUp (r ∷ rs) = AllByRecursion (λ s. is_lt (pair_cmp (pair_of s) (pair_of r)) ≡ false) rs × AreUp rs

-- The records of these numbers are sorted, and their names are names.
pub record AreSorted (m : Message) (is : List ℕ) : Type 0 where
  pub sound : AreSound m is
  pub owned : AllByRecursion (λ r. IsName r.owner) (records_in m is)
  pub up : AreUp (records_in m is)
