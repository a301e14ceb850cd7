-- Items at the places that have one.
use Rattle.std.proofs.Common.{◌≡◌, ℕ, ◌+◌, Bool, true, false, List, [], ◌∷◌, ◌++◌, length, cond, map, refl, ap, sym, ◌∙◌, arith, append_assoc, length-append, Option, Some, None}
use Rattle.std.specs.Prelude.{option_map, is_some}
use Rattle.std.specs.List.{count_by}
use Rattle.std.proofs.lemmas.List.Sums.{sum_by-cons}
use Rattle.std.proofs.lemmas.List.{map-append, length-map}
use Rattle.dc_audit.specs.declared.judge.Pair.{Pair}
use Rattle.dc_auditing.specs.Findings.{Recorded}
use Rattle.dc_auditing.specs.Runs.{spread, IsWhole, held_in, recorded_of}

with_one : (bs : List Bool) → count_by (λ b. b) (true ∷ bs) ≡ 1 + count_by (λ b. b) bs
with_one bs = sum_by-cons (λ b. cond b 1 0) true bs

pub whole_none : {A : Type 0} (bs : List Bool) (xs : List A) → bs ≡ [] → xs ≡ [] → IsWhole bs xs
whole_none bs xs p q = rw (p, q) refl

pub spread_false : {A : Type 0} (bs : List Bool) (xs : List A) → spread (bs ++ false ∷ []) xs ≡ spread bs xs ++ None ∷ []
unfolding spread
spread_false [] xs = refl
spread_false (false ∷ bs) xs = ap (λ l. None ∷ l) (spread_false bs xs)
spread_false (true ∷ bs) [] = ap (λ l. None ∷ l) (spread_false bs [])
spread_false (true ∷ bs) (x ∷ xs) = ap (λ l. Some x ∷ l) (spread_false bs xs)

pub spread_true : {A : Type 0} (bs : List Bool) (xs : List A) (x : A) → IsWhole bs xs → spread (bs ++ true ∷ []) (xs ++ x ∷ []) ≡ spread bs xs ++ Some x ∷ []
unfolding spread
spread_true [] [] x w = refl
spread_true [] (y ∷ xs) x w = absurd (omega (arith, w))
spread_true (false ∷ bs) xs x w = ap (λ l. None ∷ l) (spread_true bs xs x w)
spread_true (true ∷ bs) [] x w = let one = with_one bs in absurd (omega (arith, w, one))
spread_true (true ∷ bs) (y ∷ xs) x w = let one = with_one bs in ap (λ l. Some y ∷ l) (spread_true bs xs x (omega (arith, w, one)))

pub spread_length : {A : Type 0} (bs : List Bool) (xs : List A) → length (spread bs xs) ≡ length bs
unfolding spread
spread_length [] xs = refl
spread_length (false ∷ bs) xs = let e = spread_length bs xs in omega (arith, e)
spread_length {A} (true ∷ bs) [] = let e = spread_length {A = A} bs [] in omega (arith, e)
spread_length (true ∷ bs) (x ∷ xs) = let e = spread_length bs xs in omega (arith, e)

-- What is held

pub held_none : (bs : List Bool) (ps : List Pair) → bs ≡ [] → ps ≡ [] → held_in bs ps ≡ []
unfolding spread
held_none bs ps p q = let none : held_in [] [] ≡ [] = refl in (λ i. held_in (p i) (q i)) ∙ none

pub held_absent : (bs bs' : List Bool) (ps : List Pair) (b : Bool) (run : Option Pair) → run ≡ None → b ≡ is_some run → bs' ≡ bs ++ b ∷ [] → held_in bs' ps ≡ held_in bs ps ++ option_map recorded_of run ∷ []
held_absent bs bs' ps b run e s more =
    let f = option_map recorded_of in
    let more_is : bs' ≡ bs ++ false ∷ [] = more ∙ ap (λ c. bs ++ c ∷ []) (s ∙ ap is_some e) in
    ap (λ l. held_in l ps) more_is ∙ ap (map f) (spread_false bs ps) ∙ map-append f (spread bs ps) (None ∷ []) ∙ ap (λ o. held_in bs ps ++ f o ∷ []) (sym e)

pub held_there : (bs bs' : List Bool) (ps ps' : List Pair) (b : Bool) (run : Option Pair) (p : Pair) → run ≡ Some p → b ≡ is_some run → bs' ≡ bs ++ b ∷ [] → ps' ≡ ps ++ p ∷ [] → IsWhole bs ps
    → held_in bs' ps' ≡ held_in bs ps ++ option_map recorded_of run ∷ []
held_there bs bs' ps ps' b run p e s more pairs w =
    let f = option_map recorded_of in
    let more_is : bs' ≡ bs ++ true ∷ [] = more ∙ ap (λ c. bs ++ c ∷ []) (s ∙ ap is_some e) in
    ap (λ l. held_in l ps') more_is ∙ ap (held_in (bs ++ true ∷ [])) pairs ∙ ap (map f) (spread_true bs ps p w) ∙ map-append f (spread bs ps) (Some p ∷ []) ∙ ap (λ o. held_in bs ps ++ f o ∷ []) (sym e)

pub held_length : (bs : List Bool) (ps : List Pair) → length (held_in bs ps) ≡ length bs
held_length bs ps = length-map (spread bs ps) (option_map recorded_of) ∙ spread_length bs ps

pub each_more : (bs bs' : List Bool) (ps ps' : List Pair) (o : Option Recorded) (n : ℕ) → held_in bs' ps' ≡ held_in bs ps ++ o ∷ [] → length bs ≡ n → length bs' ≡ n + 1
each_more bs bs' ps ps' o n h e =
    let long = ap length h in
    omega (arith, long, held_length bs ps, held_length bs' ps', length-append (held_in bs ps) (o ∷ []), e)
