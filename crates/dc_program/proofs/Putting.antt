-- Texts that are put one after another.
use Rattle.std.proofs.Common.{◌≡◌, ℕ, Bool, true, false, List, ◌++◌, sym, ap, ◌∙◌, append_assoc}
use Rattle.dc_event.specs.Causes.{Fares, FailedLast, fares_behind}
use Rattle.dc_program.specs.Texts.{Puts}

-- a text was put, and how its calls fared
pub record Went {K : Type 0} (gained : K → List ℕ → K → Type 0) (refused : K → K → Type 0) (faults : K → ℕ) (r : Bool) (old : K) (text : List ℕ) (new : K) : Type 0 where
  pub puts : Puts gained r old text new
  pub fares : Fares gained refused faults r old new

-- a text that was put stands before
puts_behind : {K : Type 0} (gained : K → List ℕ → K → Type 0) (both : (a b c : K) (xs ys : List ℕ) → gained a xs b → gained b ys c → gained a (xs ++ ys) c)
    (r : Bool) (old mid new : K) (xs ys : List ℕ) → gained old xs mid → Puts gained r mid ys new → Puts gained r old (xs ++ ys) new
puts_behind gained both true old mid new xs ys g p = both old mid new xs ys g p
puts_behind gained both false old mid new xs ys g p =
    (xs ++ p.0, (p.1.0, ap (λ l. xs ++ l) p.1.1 ∙ sym (append_assoc xs p.0 p.1.0)), both old mid new xs p.0 g p.2)

pub went_then : {K : Type 0} (gained : K → List ℕ → K → Type 0) (both : (a b c : K) (xs ys : List ℕ) → gained a xs b → gained b ys c → gained a (xs ++ ys) c)
    (refused : K → K → Type 0) (faults : K → ℕ) (r : Bool) (old mid new : K) (xs ys : List ℕ) → gained old xs mid → faults mid ≡ faults old
    → Went gained refused faults r mid ys new → Went gained refused faults r old (xs ++ ys) new
went_then gained both refused faults r old mid new xs ys put stays w = record {
  puts = puts_behind gained both r old mid new xs ys put w.puts;
  fares = fares_behind gained both refused faults r old mid new xs put stays w.fares;
}

-- where a front failed, so did the whole
pub went_not : {K : Type 0} (gained : K → List ℕ → K → Type 0) (refused : K → K → Type 0) (faults : K → ℕ) (old new : K) (xs ys : List ℕ)
    → Puts gained false old xs new → FailedLast gained refused faults old new → Went gained refused faults false old (xs ++ ys) new
went_not gained refused faults old new xs ys p f = record {
  puts = (p.0, (p.1.0 ++ ys, ap (λ l. l ++ ys) p.1.1 ∙ append_assoc p.0 p.1.0 ys), p.2);
  fares = f;
}
