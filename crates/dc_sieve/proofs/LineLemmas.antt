-- The first line of a text.
use Rattle.std.proofs.Common.{◌≡◌, ◌≢◌, ℕ, zero, suc, ◌+◌, ◌<◌, ◌≤◌, Bool, true, false, cond, eqb, List, [], ◌∷◌, ◌++◌, length, take, refl, ap, sym, ◌∙◌, subst, arith, append_assoc}
use Rattle.std.specs.List.{slice_split, onto_first, slice_index}
use Rattle.std.proofs.lemmas.Bool.Decides.{nat_tests}
use Rattle.std.proofs.lemmas.List.{append-nil}
use Rattle.dc_model.specs.Rules.{lines_from, lines_of}
use Rattle.dc_script.specs.Lines.{IsOneLine}

abbrev pub split : List ℕ → List (List ℕ)
split text = slice_split (λ c. eqb c 10) text

pub head_off : (c : ℕ) (cs : List ℕ) → IsOneLine (c ∷ cs) → c ≢ 10
head_off c cs h e = h 0 (omega arith) e

pub tail_off : (c : ℕ) (cs : List ℕ) → IsOneLine (c ∷ cs) → IsOneLine cs
tail_off c cs h k l e = h (suc k) (omega (arith, l)) e

not_feed : (c : ℕ) → c ≢ 10 → eqb c 10 ≡ false
not_feed c h = grind (arith, nat_tests)

split_one : (c : ℕ) (cs : List ℕ) → c ≢ 10 → split (c ∷ cs) ≡ onto_first c (split cs)
split_one c cs h = ap (λ b. cond b ([] ∷ split cs) (onto_first c (split cs))) (not_feed c h)

split_line : (l r : List ℕ) → IsOneLine l → split (l ++ (10 ∷ r)) ≡ l ∷ split r
split_line [] r h = refl
split_line (c ∷ cs) r h = split_one c (cs ++ (10 ∷ r)) (head_off c cs h) ∙ ap (λ x. onto_first c x) (split_line cs r (tail_off c cs h))

split_last : (l : List ℕ) → IsOneLine l → split l ≡ l ∷ []
split_last [] h = refl
split_last (c ∷ cs) h = split_one c cs (head_off c cs h) ∙ ap (λ x. onto_first c x) (split_last cs (tail_off c cs h))

record Cons (n : ℕ) (parts : List (List ℕ)) : Type 0 where
  pub first : List ℕ
  pub others : List (List ℕ)
  pub are : parts ≡ first ∷ others
  pub long : n ≤ length first

onto_cons : (n c : ℕ) (parts : List (List ℕ)) → Cons n parts → Cons (suc n) (onto_first c parts)
onto_cons n c parts h = record { first = c ∷ h.first; others = h.others; are = ap (λ x. onto_first c x) h.are; long = omega (arith, h.long) }

split_by : (b : Bool) (c : ℕ) (parts : List (List ℕ)) → Cons 0 parts → Cons 0 (cond b ([] ∷ parts) (onto_first c parts))
split_by true c parts h = record { first = []; others = parts; are = refl; long = omega arith }
split_by false c parts h = let k = onto_cons 0 c parts h in record { first = k.first; others = k.others; are = k.are; long = omega arith }

split_some : (text : List ℕ) → Cons 0 (split text)
split_some [] = record { first = []; others = []; are = refl; long = omega arith }
split_some (c ∷ cs) = split_by (eqb c 10) c (split cs) (split_some cs)

split_long : (n : ℕ) (bytes tail : List ℕ) → n ≤ length bytes → IsOneLine (take n bytes) → Cons n (split (bytes ++ tail))
split_long zero bytes tail l h = split_some (bytes ++ tail)
split_long (suc n) [] tail l h = absurd (omega (arith, l))
split_long (suc n) (c ∷ cs) tail l h =
    subst (λ x. Cons (suc n) x) (sym (split_one c (cs ++ tail) (head_off c (take n cs) h)))
    (onto_cons n c (split (cs ++ tail)) (split_long n cs tail (omega (arith, l)) (tail_off c (take n cs) h)))

two_lines : (l x : List ℕ) (xs : List (List ℕ)) → lines_from (l ∷ x ∷ xs) ≡ l ∷ lines_from (x ∷ xs)
two_lines [] x xs = refl
two_lines (c ∷ cs) x xs = refl

-- A whole line, with all behind it.
pub lines_off : (l r tail : List ℕ) → IsOneLine l → lines_of ((l ++ (10 ∷ r)) ++ tail) ≡ l ∷ lines_of (r ++ tail)
lines_off l r tail h =
    let some = split_some (r ++ tail) in
    ap (λ x. lines_of x) (append_assoc l (10 ∷ r) tail)
    ∙ ap (λ x. lines_from x) (split_line l (r ++ tail) h ∙ ap (λ x. l ∷ x) some.are)
    ∙ two_lines l some.first some.others ∙ ap (λ x. l ∷ lines_from x) (sym some.are)

some_line : (l : List ℕ) → 0 < length l → lines_from (l ∷ []) ≡ l ∷ []
some_line [] h = absurd (omega (arith, h))
some_line (c ∷ cs) h = refl

-- A last line.
pub lines_last : (l : List ℕ) → 0 < length l → IsOneLine l → lines_of (l ++ []) ≡ l ∷ []
lines_last l n h = ap (λ x. lines_of x) (append-nil l) ∙ ap (λ x. lines_from x) (split_last l h) ∙ some_line l n

first_line : (l : List ℕ) (ls : List (List ℕ)) → 0 < length l → lines_from (l ∷ ls) ≡ l ∷ lines_from ls
first_line [] ls h = absurd (omega (arith, h))
first_line (c ∷ cs) ls h = refl

-- A line that is so long at least.
pub record Begins (n : ℕ) (text : List ℕ) : Type 0 where
  pub line : List ℕ
  pub behind : List (List ℕ)
  pub lines : lines_of text ≡ line ∷ behind
  pub long : n ≤ length line

pub lines_long : (n : ℕ) (bytes tail : List ℕ) → 0 < n → n ≤ length bytes → IsOneLine (take n bytes) → Begins n (bytes ++ tail)
lines_long n bytes tail p l h =
    let k = split_long n bytes tail l h in
    record { line = k.first; behind = lines_from k.others; lines = ap (λ x. lines_from x) k.are ∙ first_line k.first k.others (omega (arith, p, k.long)); long = k.long }
