-- A recorded text, and what it goes on with.
use Rattle.std.specs.Prelude.{◌≡◌, ℕ, ◌==◌, if◌then◌else◌, Bool, true, false, List, [], ◌∷◌, ◌++◌, Option, Some, None, refl}
use Rattle.std.proofs.Common.{◌∙◌, ap, sym}
use Rattle.dc_model.specs.Event.{Action}
use Rattle.dc_script.specs.Text.{text_of}
use Rattle.dc_script.specs.Written.{text_of-append}

-- What stands behind a front of a text, where it begins so.
unfoldable pub behind_front : List ℕ → List ℕ → Option (List ℕ)
behind_front [] text = Some text
behind_front (b ∷ bs) [] = None
behind_front (b ∷ bs) (c ∷ cs) = if b == c then behind_front bs cs else None

-- What is left of a text behind another, as long as it went on with all texts so far.
abbrev pub matched : List ℕ → Option (List ℕ) → Option (List ℕ)
matched text None = None
matched text (Some rest) = behind_front text rest

-- Laws

pub matched_none : (a : Option (List ℕ)) → a ≡ matched [] a
unfolding behind_front
matched_none None = refl
matched_none (Some rest) = refl

if_step : (b : Bool) (ys : List ℕ) (o : Option (List ℕ)) → (if b then matched ys o else None) ≡ matched ys (if b then o else None)
if_step true ys o = refl
if_step false ys o = refl

behind_both : (xs ys rest : List ℕ) → behind_front (xs ++ ys) rest ≡ matched ys (behind_front xs rest)
unfolding behind_front
behind_both [] ys rest = refl
behind_both (x ∷ xs) ys [] = refl
behind_both (x ∷ xs) ys (c ∷ cs) = ap (λ o. if x == c then o else None) (behind_both xs ys cs) ∙ if_step (x == c) ys (behind_front xs cs)

-- A text, and then another.
pub matched_more : (xs ys : List ℕ) (a : Option (List ℕ)) → matched ys (matched xs a) ≡ matched (xs ++ ys) a
matched_more xs ys None = refl
matched_more xs ys (Some rest) = sym (behind_both xs ys rest)

pub matched_both : (a b c : Option (List ℕ)) (xs ys : List ℕ) → b ≡ matched xs a → c ≡ matched ys b → c ≡ matched (xs ++ ys) a
matched_both a b c xs ys p q = q ∙ ap (matched ys) p ∙ matched_more xs ys a

pub acted_none : (a : Option (List ℕ)) → a ≡ matched (text_of []) a
unfolding text_of
acted_none a = matched_none a

pub acted_both : (a b c : Option (List ℕ)) (xs ys : List Action) → b ≡ matched (text_of xs) a → c ≡ matched (text_of ys) b → c ≡ matched (text_of (xs ++ ys)) a
acted_both a b c xs ys p q = matched_both a b c (text_of xs) (text_of ys) p q ∙ ap (λ t. matched t a) (sym (text_of-append xs ys))
