-- The root's zone before all others.
use Rattle.std.proofs.Common.{◌≡◌, ℕ, zero, suc, ◌+◌, ◌<◌, Bool, true, false, cond, map, List, [], ◌∷◌, ◌++◌, length, take, drop, get_or, remove, find, refl, sym, ap, subst, ◌∙◌, append_assoc, arith, drop-cons, Option, Some, None, option_map}
use Rattle.std.specs.List.{AllByRecursion, insert}
use Rattle.std.specs.Option.{option_or}
use Rattle.std.specs.Result.{IsOk, is_ok}
use Rattle.std.specs.declared.result.Result.{Result}
use Rattle.std.specs.declared.result.Result.TheVariants.{Ok, Err}
use Rattle.std.proofs.lemmas.List.{append-nil, get_or-map, length-map, take-map, drop-map, map-append}
use Rattle.std.proofs.lemmas.List.Folds.{find-append}
use Rattle.dc_model.specs.Name.{Name, root, lower, name_eq}
use Rattle.dc_model.specs.Rules.{Zone, Zones, is_named, servers}
use Rattle.dc_model.proofs.ReadLemmas.{name_eq-same}
use Rattle.dc_rules.specs.Leading.{led, root_first, LedBy}

-- one step of a walk over the zones
pub led_here : (before : List Zone) (z : Zone) (zs : List Zone) → is_named root z ≡ true → led before (z ∷ zs) ≡ z ∷ (before ++ zs)
led_here before z zs e = ap (λ b. cond b (z ∷ (before ++ zs)) (led (before ++ (z ∷ [])) zs)) e

pub led_past : (before : List Zone) (z : Zone) (zs : List Zone) → is_named root z ≡ false → led before (z ∷ zs) ≡ led (before ++ (z ∷ [])) zs
led_past before z zs e = ap (λ b. cond b (z ∷ (before ++ zs)) (led (before ++ (z ∷ [])) zs)) e

-- a zone of a name that is the root's makes the name the root
root_named : (n : Name) (z : Zone) → is_named n z ≡ true → is_named root z ≡ true → lower n ≡ root
root_named n z p q = sym (name_eq-same z.name (lower n) p) ∙ name_eq-same z.name root q

found_past : (p : Zone → Bool) (before : List Zone) (z : Zone) (zs : List Zone) → find p before ≡ None → find p (before ++ (z ∷ [])) ≡ cond (p z) (Some z) None
found_past p before z zs e = find-append p before (z ∷ []) ∙ ap (λ o. option_or o (cond (p z) (Some z) None)) e

-- the first that is the root is found before and behind
found_root : (n : Name) (before : List Zone) (z : Zone) (zs : List Zone) → find (is_named root) before ≡ None → is_named root z ≡ true → (t : Bool) → is_named n z ≡ t
    → cond t (Some z) (find (is_named n) (before ++ zs)) ≡ option_or (find (is_named n) before) (cond t (Some z) (find (is_named n) zs))
found_root n before z zs none r true e =
    let same : find (is_named n) before ≡ None = ap (λ m. find (λ (y : Zone). name_eq y.name m) before) (root_named n z e r) ∙ none in
    sym (ap (λ o. option_or o (Some z)) same)
found_root n before z zs none r false e = find-append (is_named n) before zs

same_by : (n : Name) (before : List Zone) (z : Zone) (zs : List Zone) → find (is_named root) before ≡ None → (t : Bool) → is_named root z ≡ t
    → ((b : List Zone) → find (is_named root) b ≡ None → find (is_named n) (led b zs) ≡ find (is_named n) (b ++ zs)) → find (is_named n) (led before (z ∷ zs)) ≡ find (is_named n) (before ++ (z ∷ zs))
same_by n before z zs none true e again =
    ap (find (is_named n)) (led_here before z zs e) ∙ found_root n before z zs none e (is_named n z) refl ∙ sym (find-append (is_named n) before (z ∷ zs))
same_by n before z zs none false e again =
    ap (find (is_named n)) (led_past before z zs e) ∙ again (before ++ (z ∷ [])) (found_past (is_named root) before z zs none ∙ ap (λ b. cond b (Some z) None) e)
    ∙ ap (find (is_named n)) (append_assoc before (z ∷ []) zs)

same_found : (n : Name) (zs : List Zone) (before : List Zone) → find (is_named root) before ≡ None → find (is_named n) (led before zs) ≡ find (is_named n) (before ++ zs)
same_found n [] before none = ap (find (is_named n)) (sym (append-nil before))
same_found n (z ∷ zs) before none = same_by n before z zs none (is_named root z) refl (λ b none'. same_found n zs b none')

-- each name has the servers that it had
pub same_servers : (zs : Zones) (n : Name) → servers (root_first zs) n ≡ servers zs n
same_servers zs n = ap (option_map (λ (z : Zone). z.places)) (same_found n zs.configured [] refl)

-- what holds of each zone
both_each : (P : Zone → Type 0) (xs ys : List Zone) → AllByRecursion P xs → AllByRecursion P ys → AllByRecursion P (xs ++ ys)
both_each P [] ys p q = q
both_each P (x ∷ xs) ys p q = (p.0, both_each P xs ys p.1 q)

each_by : (P : Zone → Type 0) (before : List Zone) (z : Zone) (zs : List Zone) (t : Bool) → AllByRecursion P before → P z → AllByRecursion P zs
    → AllByRecursion P (led (before ++ (z ∷ [])) zs) → AllByRecursion P (cond t (z ∷ (before ++ zs)) (led (before ++ (z ∷ [])) zs))
each_by P before z zs true b p q again = (p, both_each P before zs b q)
each_by P before z zs false b p q again = again

each_led : (P : Zone → Type 0) (zs before : List Zone) → AllByRecursion P before → AllByRecursion P zs → AllByRecursion P (led before zs)
each_led P [] before b q = b
each_led P (z ∷ zs) before b q = each_by P before z zs (is_named root z) b q.0 q.1 (each_led P zs (before ++ (z ∷ [])) (both_each P before (z ∷ []) b (q.0, tt)) q.1)

pub each_first : (P : Zone → Type 0) (zs : List Zone) → AllByRecursion P zs → AllByRecursion P (led [] zs)
each_first P zs q = each_led P zs [] tt q

-- the rows of a table, of which this is the first that is the root
pub led_at : {X : Type 0} (f : X → Zone) (rows : List X) (at : ℕ) (d : X) → at < length rows → led [] (map f rows) ≡ led (map f (take at rows)) (map f (drop at rows))
    → (f (get_or rows at d)).name ≡ [] → LedBy at (map f rows)
led_at f rows at d lt so_far root_is =
    let z = f (get_or rows at d) in
    let count = length-map rows f in
    let named : is_named root z ≡ true = ap (λ n. name_eq n root) root_is in
    let whole : led [] (map f rows) ≡ z ∷ (map f (take at rows) ++ map f (drop (suc at) rows)) =
    so_far ∙ ap (λ l. led (map f (take at rows)) (map f l)) (drop-cons rows at d lt) ∙ led_here (map f (take at rows)) z (map f (drop (suc at) rows)) named in
    (omega (arith, lt, count), λ d'. whole ∙ (λ i. sym (get_or-map f rows at d d' lt) i ∷ (sym (take-map f at rows) i ++ sym (drop-map f (suc at) rows) i)))

-- the rows with that one before all others
ok_items : {X T E : Type 0} (r : Result T E) (xs ys new : List X) → IsOk r → new ≡ cond (is_ok r) xs ys → new ≡ xs
ok_items (Ok v) xs ys new h e = e
ok_items (Err v) xs ys new h e = absurd cc

pub ok_len : {T E : Type 0} (r : Result T E) (m n new : ℕ) → IsOk r → new ≡ cond (is_ok r) m n → new ≡ m
ok_len (Ok v) m n new h e = e
ok_len (Err v) m n new h e = absurd cc

pub first_items : {X T E : Type 0} (f : X → Zone) (rows seen left new : List X) (at : ℕ) (row : X) (r : Result T E) → seen ≡ rows → LedBy at (map f seen) → row ≡ get_or rows at row → left ≡ remove rows at → IsOk r
    → new ≡ cond (is_ok r) (insert left 0 row) left → map f new ≡ led [] (map f rows)
first_items f rows seen left new at row r same by row_is left_is ok new_is =
    let led_by : LedBy at (map f rows) = subst (λ l. LedBy at (map f l)) same by in
    let lt : at < length rows = let h = led_by.0 in let count = length-map rows f in omega (arith, h, count) in
    ap (map f) (ok_items r (row ∷ left) left new ok new_is) ∙ ap (λ l. f row ∷ map f l) left_is ∙ ap (λ l. f row ∷ l) (map-append f (take at rows) (drop (suc at) rows))
    ∙ sym (led_by.1 (f row) ∙ (λ i. (get_or-map f rows at row (f row) lt ∙ ap f (sym row_is)) i ∷ (take-map f at rows i ++ drop-map f (suc at) rows i)))
