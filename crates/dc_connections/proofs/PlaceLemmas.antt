-- Connections at their places, where no two have the same number.
use Rattle.std.proofs.Common.{◌≡◌, ◌≢◌, ◌<◌, ◌+◌, ℕ, zero, suc, Bool, true, false, cond, not, eqb, List, [], ◌∷◌, ◌++◌, length, map, drop, Option, Some, None, refl, sym, ap, subst, ◌∙◌, arith}
use Rattle.std.specs.Prelude.{◌==◌, find, set}
use Rattle.std.specs.List.{remove}
use Rattle.std.proofs.lemmas.List.{length-map}
use Rattle.std.proofs.lemmas.List.Edits.{length-remove}
use Rattle.std.proofs.lemmas.Bool.{ne_eqb}
use Rattle.std.proofs.lemmas.Bool.Decides.{nat_tests}
use Rattle.dc_machine.specs.Machine.{Connection, with_connection, without_connection, renewed}
use Rattle.dc_machine.specs.Kept.{AllOf, Pairwise}
use Rattle.dc_machine.proofs.Opens.{IfFound, find_is, found_passes, none_found, numbers_are, numbers_map}
use Rattle.dc_machine.proofs.Lists.{all_filter, pairs_filter, pairs_append}
use Rattle.dc_connections.specs.Places.{connection_at, has_number, AreApart}

same_number : (n : ℕ) → eqb n n ≡ true
same_number n = grind (arith, nat_tests)

-- The connection at a place is one of them.
pub all_at : (P : Connection → Type 0) (cs : List Connection) (i : ℕ) → i < length cs → AllOf P cs → P (connection_at cs i)
unfolding AllOf connection_at
all_at P [] i h a = absurd (omega (arith, h))
all_at P (c ∷ cs) zero h a = a.0
all_at P (c ∷ cs) (suc i) h a = all_at P cs i (omega (arith, h)) a.1

-- A change of connections of one number alone

-- Where none of them has it, none changes.
unchanged : (f : Connection → Connection) (c : Connection) (cs : List Connection) → ((d : Connection) → eqb d.number c.number ≡ false → f d ≡ d)
    → AllOf (λ (d : Connection). c.number ≢ d.number) cs → map f cs ≡ cs
unfolding AllOf
unchanged f c [] k a = refl
unchanged f c (d ∷ cs) k a =
    let here : f d ≡ d = k d (ne_eqb d.number c.number (λ e. a.0 (sym e))) in
    let rest : map f cs ≡ cs = unchanged f c cs k a.1 in
    ap (λ x. x ∷ map f cs) here ∙ ap (λ xs. d ∷ xs) rest

-- It changes the one at its place.
pub one_changes : (f : Connection → Connection) (cs : List Connection) (i : ℕ) → i < length cs → AreApart cs
    → ((d : Connection) → eqb d.number (connection_at cs i).number ≡ false → f d ≡ d) → map f cs ≡ set cs i (f (connection_at cs i))
unfolding Pairwise connection_at
one_changes f [] i h a k = absurd (omega (arith, h))
one_changes f (c ∷ cs) zero h a k = ap (λ xs. f c ∷ xs) (unchanged f c cs k a.0)
one_changes f (c ∷ cs) (suc i) h a k =
    let other : c.number ≢ (connection_at cs i).number = all_at (λ (d : Connection). c.number ≢ d.number) cs i (omega (arith, h)) a.0 in
    let here : f c ≡ c = k c (ne_eqb c.number (connection_at cs i).number other) in
    ap (λ x. x ∷ map f cs) here ∙ ap (λ xs. c ∷ xs) (one_changes f cs i (omega (arith, h)) a.1 k)

put_other : (c d : Connection) → eqb d.number c.number ≡ false → cond (eqb d.number c.number) c d ≡ d
put_other c d h = rw h refl

put_same : (c d : Connection) → eqb d.number c.number ≡ true → cond (eqb d.number c.number) c d ≡ c
put_same c d h = rw h refl

-- A connection in place of the one with its number.
pub with_is : (cs : List Connection) (i : ℕ) (c : Connection) → i < length cs → AreApart cs → c.number ≡ (connection_at cs i).number
    → with_connection c cs ≡ set cs i c
with_is cs i c h a e =
    let same : eqb (connection_at cs i).number c.number ≡ true = rw e (same_number (connection_at cs i).number) in
    one_changes (λ d. cond (eqb d.number c.number) c d) cs i h a
    (λ d k. put_other c d (ap (λ n. eqb d.number n) e ∙ k))
    ∙ ap (λ x. set cs i x) (put_same c (connection_at cs i) same)

renew_other : (n t : ℕ) (c : Connection) → eqb c.number n ≡ false → renewed n t c ≡ c
renew_other n t c h = rw h refl

renew_same : (n t : ℕ) (c : Connection) → c.number ≡ n → renewed n t c ≡ record c { deadline = t }
renew_same n t c h = rw h (rw (same_number n) refl)

-- A new deadline of the one with the number.
pub renewed_is : (cs : List Connection) (i n t : ℕ) → i < length cs → AreApart cs → (connection_at cs i).number ≡ n
    → map (renewed n t) cs ≡ set cs i (record (connection_at cs i) { deadline = t })
renewed_is cs i n t h a e =
    one_changes (renewed n t) cs i h a (λ d k. renew_other n t d (ap (λ m. eqb d.number m) (sym e) ∙ k))
    ∙ ap (λ x. set cs i x) (renew_same n t (connection_at cs i) e)

-- Without the one at a place

all_kept : (c : Connection) (cs : List Connection) → AllOf (λ (d : Connection). c.number ≢ d.number) cs → without_connection c.number cs ≡ cs
unfolding AllOf
all_kept c [] a = refl
all_kept c (d ∷ cs) a =
    let other : eqb d.number c.number ≡ false = ne_eqb d.number c.number (λ e. a.0 (sym e)) in
    rw other (ap (λ xs. d ∷ xs) (all_kept c cs a.1))

pub without_is : (cs : List Connection) (i : ℕ) → i < length cs → AreApart cs → without_connection (connection_at cs i).number cs ≡ remove cs i
unfolding Pairwise connection_at
without_is [] i h a = absurd (omega (arith, h))
without_is (c ∷ cs) zero h a = rw (same_number c.number) (all_kept c cs a.0)
without_is (c ∷ cs) (suc i) h a =
    let differ : c.number ≢ (connection_at cs i).number = all_at (λ (d : Connection). c.number ≢ d.number) cs i (omega (arith, h)) a.0 in
    let other : eqb c.number (connection_at cs i).number ≡ false = ne_eqb c.number (connection_at cs i).number differ in
    rw other (ap (λ xs. c ∷ xs) (without_is cs i (omega (arith, h)) a.1))

-- What stays apart

put_number : (c d : Connection) → (cond (eqb d.number c.number) c d).number ≡ d.number
put_number c d = by_test (eqb d.number c.number) refl where
  by_test : (v : Bool) → eqb d.number c.number ≡ v → (cond v c d).number ≡ d.number
  by_test true e = sym (numbers_are d.number c.number e)
  by_test false e = refl

pub with_apart : (c : Connection) (cs : List Connection) → AreApart cs → AreApart (with_connection c cs)
with_apart c cs a = numbers_map (λ d. cond (eqb d.number c.number) c d) cs (put_number c) a

renewed_number : (n t : ℕ) (c : Connection) → (renewed n t c).number ≡ c.number
renewed_number n t c = elim (eqb c.number n) as (λ v. (cond v (record c { deadline = t }) c).number ≡ c.number) [ true ↦ refl | false ↦ refl ]

pub renewed_apart : (n t : ℕ) (cs : List Connection) → AreApart cs → AreApart (map (renewed n t) cs)
renewed_apart n t cs a = numbers_map (renewed n t) cs (renewed_number n t) a

pub without_apart : (n : ℕ) (cs : List Connection) → AreApart cs → AreApart (without_connection n cs)
without_apart n cs a = pairs_filter (λ (c : Connection) (d : Connection). c.number ≢ d.number) (λ d. not (d.number == n)) cs a

pub opened_apart : (c : Connection) (cs : List Connection) → find (has_number c.number) cs ≡ None → AreApart cs → AreApart (cs ++ c ∷ [])
opened_apart c cs e a =
    let found : IfFound (has_number c.number) cs (find (has_number c.number) cs) = find_is (has_number c.number) cs in
    let none : IfFound (has_number c.number) cs None = subst (λ (o : Option Connection). IfFound (has_number c.number) cs o) e found in
    pairs_append (λ (d : Connection) (k : Connection). d.number ≢ k.number) c cs (none_found c.number cs none) a

-- The first of a number

pub rest_at : (cs : List Connection) (i : ℕ) → i < length cs → drop i cs ≡ connection_at cs i ∷ drop (i + 1) cs
unfolding connection_at
rest_at [] i h = absurd (omega (arith, h))
rest_at (c ∷ cs) zero h = refl
rest_at (c ∷ cs) (suc i) h = let e : suc i + 1 ≡ suc (i + 1) = omega arith in rw e (rest_at cs i (omega (arith, h)))

-- A list is looked through place by place, for the first that passes a test.
pub found_by : (test : Connection → Bool) (cs : List Connection) (i : ℕ) → i < length cs → test (connection_at cs i) ≡ true → find test cs ≡ find test (drop i cs)
    → Some (connection_at cs i) ≡ find test cs
found_by test cs i h e k =
    let here : find test (connection_at cs i ∷ drop (i + 1) cs) ≡ Some (connection_at cs i) = rw e refl in
    sym (k ∙ (ap (find test) (rest_at cs i h) ∙ here))

pub passed_by : (test : Connection → Bool) (cs : List Connection) (i : ℕ) → i < length cs → test (connection_at cs i) ≡ false → find test cs ≡ find test (drop i cs)
    → find test cs ≡ find test (drop (i + 1) cs)
passed_by test cs i h e k =
    let here : find test (connection_at cs i ∷ drop (i + 1) cs) ≡ find test (drop (i + 1) cs) = rw e refl in
    k ∙ (ap (find test) (rest_at cs i h) ∙ here)

pub found_at : (cs : List Connection) (i n : ℕ) → i < length cs → (connection_at cs i).number ≡ n → find (has_number n) cs ≡ find (has_number n) (drop i cs)
    → Some (connection_at cs i) ≡ find (has_number n) cs
found_at cs i n h e k = let same : eqb (connection_at cs i).number n ≡ true = rw e (same_number n) in found_by (has_number n) cs i h same k

pub passed_at : (cs : List Connection) (i n : ℕ) → i < length cs → (connection_at cs i).number ≢ n → find (has_number n) cs ≡ find (has_number n) (drop i cs)
    → find (has_number n) cs ≡ find (has_number n) (drop (i + 1) cs)
passed_at cs i n h d k = passed_by (has_number n) cs i h (ne_eqb (connection_at cs i).number n d) k

-- What callers ask of a changed list

set_at : (cs : List Connection) (i : ℕ) (c : Connection) → i < length cs → connection_at (set cs i c) i ≡ c
unfolding connection_at
set_at [] i c h = absurd (omega (arith, h))
set_at (d ∷ cs) zero c h = refl
set_at (d ∷ cs) (suc i) c h = set_at cs i c (omega (arith, h))

-- The one that was put stands at its place.
pub with_at : (cs : List Connection) (i : ℕ) (c : Connection) → i < length cs → AreApart cs → c.number ≡ (connection_at cs i).number
    → connection_at (with_connection c cs) i ≡ c
with_at cs i c h a e = ap (λ ds. connection_at ds i) (with_is cs i c h a e) ∙ set_at cs i c h

pub with_length : (c : Connection) (cs : List Connection) → length (with_connection c cs) ≡ length cs
with_length c cs = length-map cs (λ d. cond (eqb d.number c.number) c d)

pub renewed_length : (n t : ℕ) (cs : List Connection) → length (map (renewed n t) cs) ≡ length cs
renewed_length n t cs = length-map cs (renewed n t)

pub without_length : (cs : List Connection) (i : ℕ) → i < length cs → AreApart cs → length (without_connection (connection_at cs i).number cs) + 1 ≡ length cs
without_length cs i h a = ap (λ ds. length ds + 1) (without_is cs i h a) ∙ length-remove cs i h

-- The one that is found has the number.
pub found_number : (cs : List Connection) (i n : ℕ) → Some (connection_at cs i) ≡ find (has_number n) cs → (connection_at cs i).number ≡ n
found_number cs i n e =
    let found : IfFound (has_number n) cs (find (has_number n) cs) = find_is (has_number n) cs in
    let some : IfFound (has_number n) cs (Some (connection_at cs i)) = subst (λ (o : Option Connection). IfFound (has_number n) cs o) (sym e) found in
    numbers_are (connection_at cs i).number n (found_passes (has_number n) cs (connection_at cs i) some)

none_renewed : (cs : List Connection) (n t : ℕ) → AllOf (λ (c : Connection). c.number ≢ n) cs → map (renewed n t) cs ≡ cs
unfolding AllOf
none_renewed [] n t a = refl
none_renewed (c ∷ cs) n t a =
    let here : renewed n t c ≡ c = renew_other n t c (ne_eqb c.number n a.0) in
    ap (λ x. x ∷ map (renewed n t) cs) here ∙ ap (λ xs. c ∷ xs) (none_renewed cs n t a.1)

pub renewed_none : (cs : List Connection) (n t : ℕ) → None ≡ find (has_number n) cs → cs ≡ map (renewed n t) cs
renewed_none cs n t e =
    let found : IfFound (has_number n) cs (find (has_number n) cs) = find_is (has_number n) cs in
    let none : IfFound (has_number n) cs None = subst (λ (o : Option Connection). IfFound (has_number n) cs o) (sym e) found in
    sym (none_renewed cs n t (none_found n cs none))

-- A number that isn't in use isn't in use after one is closed.

none_by_all : (test : Connection → Bool) (cs : List Connection) → AllOf (λ (c : Connection). test c ≡ false) cs → find test cs ≡ None
unfolding AllOf
none_by_all test [] a = refl
none_by_all test (c ∷ cs) a = rw a.0 (none_by_all test cs a.1)

all_by_none : (test : Connection → Bool) (cs : List Connection) → IfFound test cs None → AllOf (λ (c : Connection). test c ≡ false) cs
unfolding IfFound
all_by_none test cs k = k

pub still_none : (n k : ℕ) (cs : List Connection) → find (has_number n) cs ≡ None → find (has_number n) (without_connection k cs) ≡ None
still_none n k cs e =
    let found : IfFound (has_number n) cs (find (has_number n) cs) = find_is (has_number n) cs in
    let none : IfFound (has_number n) cs None = subst (λ (o : Option Connection). IfFound (has_number n) cs o) e found in
    none_by_all (has_number n) (without_connection k cs)
    (all_filter (λ (c : Connection). has_number n c ≡ false) (λ d. not (d.number == k)) cs (all_by_none (has_number n) cs none))
