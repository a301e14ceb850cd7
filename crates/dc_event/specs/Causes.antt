-- Counts of faults and of calls, which never fall, and calls that failed.
use Rattle.std.specs.Prelude.{◌≡◌, ℕ, ◌+◌, ◌-◌, ◌^◌, min, List, [], ◌++◌, Bool, true, false, refl}
use Rattle.std.proofs.Common.{◌∙◌, ap}
use Rattle.std.specs.declared.result.Result.{Result}
use Rattle.std.specs.declared.result.Result.TheVariants.{Ok, Err}

-- The count after one more. It stands still at the end of its type.
abbrev pub counted : ℕ → ℕ
counted n = min (n + 1) (2 ^ 64 - 1)

-- The count of faults behind a call, by its answer: one more where it failed.
abbrev pub count_by : {T E : Type 0} → Result T E → ℕ → ℕ
count_by (Ok value) before = before
count_by (Err error) before = counted before

-- The same, by whether it went well.
abbrev pub count_where : Bool → ℕ → ℕ
count_where true before = before
count_where false before = counted before

-- Between two states calls went well and gained a list, and then one call failed, which was the last: the count of faults is one higher.
pub record FailedLast {S A : Type 0} (gained : S → List A → S → Type 0) (refused : S → S → Type 0) (faults : S → ℕ) (old new : S) : Type 0 where
  pub list : List A
  pub before : S
  pub gains : gained old list before
  pub well : faults before ≡ faults old
  pub last : refused before new
  pub count : faults new ≡ counted (faults old)

-- A call that failed is the last of itself.
pub failed_now : {S A : Type 0} (gained : S → List A → S → Type 0) (none : (a : S) → gained a [] a) (refused : S → S → Type 0) (faults : S → ℕ) (old new : S)
    → refused old new → faults new ≡ counted (faults old) → FailedLast gained refused faults old new
failed_now gained none refused faults old new last count = record { list = []; before = old; gains = none old; well = refl; last = last; count = count }

-- Calls that went well stand before.
pub failed_behind : {S A : Type 0} (gained : S → List A → S → Type 0) (both : (a b c : S) (xs ys : List A) → gained a xs b → gained b ys c → gained a (xs ++ ys) c)
    (refused : S → S → Type 0) (faults : S → ℕ) (old mid new : S) (xs : List A)
    → gained old xs mid → faults mid ≡ faults old → FailedLast gained refused faults mid new → FailedLast gained refused faults old new
failed_behind gained both refused faults old mid new xs gains well f = record {
  list = xs ++ f.list;
  before = f.before;
  gains = both old mid f.before xs f.list gains f.gains;
  well = f.well ∙ well;
  last = f.last;
  count = f.count ∙ ap counted well;
}

-- How a stretch of calls fared: none failed, and the count of faults is what it was; or one did, as the last.
abbrev pub Fares : {S A : Type 0} (gained : S → List A → S → Type 0) (refused : S → S → Type 0) (faults : S → ℕ) → Bool → (old new : S) → Type 0
Fares gained refused faults true old new = faults new ≡ faults old
Fares gained refused faults false old new = FailedLast gained refused faults old new

-- Calls that went well stand before.
pub fares_behind : {S A : Type 0} (gained : S → List A → S → Type 0) (both : (a b c : S) (xs ys : List A) → gained a xs b → gained b ys c → gained a (xs ++ ys) c)
    (refused : S → S → Type 0) (faults : S → ℕ) (well : Bool) (old mid new : S) (xs : List A)
    → gained old xs mid → faults mid ≡ faults old → Fares gained refused faults well mid new → Fares gained refused faults well old new
fares_behind gained both refused faults true old mid new xs gains well f = f ∙ well
fares_behind gained both refused faults false old mid new xs gains well f = failed_behind gained both refused faults old mid new xs gains well f
