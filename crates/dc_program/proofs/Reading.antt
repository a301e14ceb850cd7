-- Variables that are read one after another.
use Rattle.std.proofs.Common.{◌≡◌, ℕ, ◌+◌, ◌<◌, Bool, true, false, cond, List, [], ◌∷◌, ◌++◌, length, take, get_or, map, find, bytes_eq, refl, sym, ap, ◌∙◌, Option, Some, None, option_map, add-one}
use Rattle.std.proofs.Math.Seq.{take-suc}
use Rattle.std.proofs.Math.ListN.{get_or-map}
use Rattle.std.proofs.lemmas.Slice.Eq.{bytes_eq-Decides}
use Rattle.dc_config.specs.Environment.{Environment, Setting, value_of, is_called}
use Rattle.dc_program.specs.Invoked.{with_value, value_among}

-- two tests with one answer may stand in either order
swapped : {A : Type 0} (a b : Bool) (x y : A) → cond a x (cond b x y) ≡ cond b x (cond a x y)
swapped true true x y = refl
swapped true false x y = refl
swapped false true x y = refl
swapped false false x y = refl

-- one more name
among_more : (value : List ℕ → Option (List ℕ)) (done : List (List ℕ)) (n name : List ℕ)
    → value_among value (done ++ n ∷ []) name ≡ cond (bytes_eq n name) (value name) (value_among value done name)
among_more value [] n name = refl
among_more value (d ∷ done) n name =
    ap (λ o. cond (bytes_eq d name) (value name) o) (among_more value done n name) ∙ swapped (bytes_eq d name) (bytes_eq n name) (value name) (value_among value done name)

-- a variable without a value has none among others
same : {A : Type 0} (b : Bool) (x : A) → cond b x x ≡ x
same true x = refl
same false x = refl

none_among : (value : List ℕ → Option (List ℕ)) (names : List (List ℕ)) (name : List ℕ) → value name ≡ None → value_among value names name ≡ None
none_among value [] name e = refl
none_among value (n ∷ ns) name e =
    ap (λ o. cond (bytes_eq n name) o (value_among value ns name)) e ∙ ap (λ o. cond (bytes_eq n name) None o) (none_among value ns name e) ∙ same (bytes_eq n name) None

-- the environment behind one more variable
behind : (value : List ℕ → Option (List ℕ)) (done : List (List ℕ)) (n name : List ℕ) (env : Environment) (b : Bool) (o : Option (List ℕ)) → bytes_eq n name ≡ b → value n ≡ o
    → value_of name env ≡ value_among value done name → value_of name (with_value n o env) ≡ cond b (value name) (value_among value done name)
behind value done n name env true None f e h =
    let n-is : n ≡ name = (bytes_eq-Decides n name).0 f in
    let none : value name ≡ None = ap value (sym n-is) ∙ e in
    h ∙ none_among value done name none ∙ sym none
behind value done n name env true (Some v) f e h =
    let n-is : n ≡ name = (bytes_eq-Decides n name).0 f in
    ap (λ b. option_map (λ (s : Setting). s.value) (cond b (Some (record { name = n; value = v })) (find (is_called name) env))) f ∙ sym e ∙ ap value n-is
behind value done n name env false None f e h = h
behind value done n name env false (Some v) f e h =
    ap (λ b. option_map (λ (s : Setting). s.value) (cond b (Some (record { name = n; value = v })) (find (is_called name) env))) f ∙ h

pub one_more : (value : List ℕ → Option (List ℕ)) (done : List (List ℕ)) (n name : List ℕ) (old new : Environment) → new ≡ with_value n (value n) old
    → value_of name old ≡ value_among value done name → value_of name new ≡ value_among value (done ++ n ∷ []) name
one_more value done n name old new e h =
    ap (value_of name) e ∙ behind value done n name old (bytes_eq n name) (value n) refl refl h ∙ sym (among_more value done n name)

-- one more of a list of lent names
pub next_name : {X : Type 0} (now : X → List ℕ) (items : List X) (names : List (List ℕ)) (i : ℕ) (d : X) → map now items ≡ names → i < length names
    → take (i + 1) names ≡ take i names ++ now (get_or items i d) ∷ []
next_name now items names i d e h =
    let at : get_or names i (now d) ≡ now (get_or items i d) = ap (λ (l : List (List ℕ)). get_or l i (now d)) (sym e) ∙ get_or-map now items i d in
    rw add-one (take-suc names i (now d) h ∙ ap (λ n. take i names ++ n ∷ []) at)
