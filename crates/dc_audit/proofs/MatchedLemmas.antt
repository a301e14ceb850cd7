-- What stands behind a front, and that there is none.
use Rattle.std.proofs.Common.{◌≡◌, ◌≢◌, ℕ, eqb, cond, Bool, true, false, List, [], ◌∷◌, ◌++◌, length, take, Option, Some, None, refl, ap, sym, ◌∙◌}
use Rattle.std.proofs.lemmas.Bool.{eq-eqb, eqb-true}
use Rattle.std.proofs.Math.Seq.{take-length}
use Rattle.dc_audit.specs.Matched.{behind_front, matched}

behind_own : (p rest : List ℕ) → behind_front p (p ++ rest) ≡ Some rest
unfolding behind_front
behind_own [] rest = refl
behind_own (b ∷ bs) rest = rw (eq-eqb b b refl) (behind_own bs rest)

pub front_behind : (p rest s : List ℕ) → s ≡ p ++ rest → behind_front p s ≡ Some rest
front_behind p rest s e = ap (behind_front p) e ∙ behind_own p rest

no_step : (same : Bool) (b c : ℕ) (bs cs : List ℕ) → eqb b c ≡ same → (((rest : List ℕ) → cs ≢ bs ++ rest) → behind_front bs cs ≡ None)
    → ((rest : List ℕ) → c ∷ cs ≢ b ∷ (bs ++ rest)) → (cond same (behind_front bs cs) None) ≡ None
no_step false b c bs cs e more h = refl
no_step true b c bs cs e more h = more (λ rest f. h rest (ap (λ x. x ∷ cs) (sym (eqb-true b c e)) ∙ ap (λ l. b ∷ l) f))

pub front_none : (p s : List ℕ) → ((rest : List ℕ) → s ≢ p ++ rest) → behind_front p s ≡ None
unfolding behind_front
front_none [] s h = absurd (h s refl)
front_none (b ∷ bs) [] h = refl
front_none (b ∷ bs) (c ∷ cs) h = no_step (eqb b c) b c bs cs refl (front_none bs cs) h

-- Bytes are put to a text, where it went on so far.

pub put_some : (differs : Bool) (s bytes rest : List ℕ) (old : Option (List ℕ)) → cond differs None (Some s) ≡ old → differs ≡ false → s ≡ bytes ++ rest
    → cond differs None (Some rest) ≡ matched (take (length bytes) bytes) old
put_some true s bytes rest old view on e = cc
put_some false s bytes rest old view on e = sym (ap (λ t. matched t old) (take-length bytes) ∙ ap (matched bytes) (sym view) ∙ front_behind bytes rest s e)

pub put_none : (differs : Bool) (s bytes : List ℕ) (old : Option (List ℕ)) → cond differs None (Some s) ≡ old → differs ≡ false → ((rest : List ℕ) → s ≢ bytes ++ rest)
    → None ≡ matched (take (length bytes) bytes) old
put_none true s bytes old view on h = cc
put_none false s bytes old view on h = sym (ap (λ t. matched t old) (take-length bytes) ∙ ap (matched bytes) (sym view) ∙ front_none bytes s h)
