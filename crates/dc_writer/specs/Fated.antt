-- How a source or a sink fared between two states, by whether a call had failed before them and behind them.
use Rattle.std.specs.Prelude.{◌≡◌, ℕ, Bool, true, false, not, List, ◌++◌, refl}
use Rattle.std.proofs.Common.{sym, ◌∙◌, subst}
use Rattle.dc_event.specs.Causes.{FailedLast, Fares, failed_behind}

-- No call failed; or one did, as the last; or nothing more was done behind it.
abbrev pub Fated : {S A : Type 0} (gained : S → List A → S → Type 0) (refused : S → S → Type 0) (faults : S → ℕ) → (before after : Bool) → (old new : S) → Type 0
Fated gained refused faults false false old new = faults new ≡ faults old
Fated gained refused faults false true old new = FailedLast gained refused faults old new
Fated gained refused faults true true old new = new ≡ old
Fated gained refused faults true false old new = ⊥

module _ {S A : Type 0} (gained : S → List A → S → Type 0) (refused : S → S → Type 0) (faults : S → ℕ) where
  pub Fated-none : (failed : Bool) (a : S) → Fated gained refused faults failed failed a a
  Fated-none false a = refl
  Fated-none true a = refl

  -- Nothing had failed before.
  pub Fated-by : (well : Bool) (old new : S) → Fares gained refused faults well old new → Fated gained refused faults false (not well) old new
  Fated-by true old new f = f
  Fated-by false old new f = f

  pub Fated-both : ((a b c : S) (xs ys : List A) → gained a xs b → gained b ys c → gained a (xs ++ ys) c) → (f g h : Bool) (a b c : S) (xs : List A) → (f ≡ false → g ≡ false → gained a xs b)
      → Fated gained refused faults f g a b → Fated gained refused faults g h b c → Fated gained refused faults f h a c
  Fated-both both false false false a b c xs went p q = q ∙ p
  Fated-both both false false true a b c xs went p q = failed_behind gained both refused faults a b c xs (went refl refl) p q
  Fated-both both false true true a b c xs went p q = subst (λ s. FailedLast gained refused faults a s) (sym q) p
  Fated-both both false true false a b c xs went p q = absurd q
  Fated-both both true true true a b c xs went p q = q ∙ p
  Fated-both both true true false a b c xs went p q = absurd q
  Fated-both both true false false a b c xs went p q = absurd p
  Fated-both both true false true a b c xs went p q = absurd p
