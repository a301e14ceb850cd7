-- The addresses of a body, as its items.
use Rattle.std.proofs.Common.{◌≡◌, ℕ, ◌+◌, ◌<◌, ◌≤◌, zero, suc, List, [], ◌∷◌, length, take, drop, map, refl, sym, ◌∙◌, ap, arith, Some, None, false}
use Rattle.std.proofs.lemmas.Grind.{common_steps}
use Rattle.std.proofs.lemmas.List.{length-drop}
use Rattle.dc_model.specs.Message.{kind_a, has_bytes, bytes}
use Rattle.dc_model.specs.Rules.{Rule}
use Rattle.dc_model.specs.Bodies.{item_at, items_by, items_from, items_of}
use Rattle.dc_model.proofs.NameLemmas.{leb_yes}
use Rattle.dc_model.proofs.ReadLemmas.{drop-behind}
use Rattle.dc_items.specs.Left.{addresses_in}

-- the first address

pub first_address : (b : List ℕ) → 4 ≤ length b → addresses_in b ≡ take 4 b ∷ addresses_in (drop 4 b)
unfolding addresses_in
first_address [] h = absurd (omega (arith, h))
first_address (a ∷ []) h = absurd (omega (arith, h))
first_address (a ∷ b ∷ []) h = absurd (omega (arith, h))
first_address (a ∷ b ∷ c ∷ []) h = absurd (omega (arith, h))
first_address (a ∷ b ∷ c ∷ d ∷ rest) h = refl

pub no_address : (b : List ℕ) → length b < 4 → addresses_in b ≡ []
unfolding addresses_in
no_address [] h = refl
no_address (a ∷ []) h = refl
no_address (a ∷ b ∷ []) h = refl
no_address (a ∷ b ∷ c ∷ []) h = refl
no_address (a ∷ b ∷ c ∷ d ∷ rest) h = absurd (omega (arith, h))

-- an address as an item

address_here : (rule : Rule) (b : List ℕ) (i : ℕ) → i + 4 ≤ length b → item_at rule kind_a b i ≡ Some (record { item = bytes (take 4 (drop i b)); after = i + 4 })
unfolding item_at
address_here rule b i h = rw (leb_yes (i + 4) (length b) h) refl

none_here : (rule : Rule) (b : List ℕ) (i : ℕ) → length b < i + 4 → item_at rule kind_a b i ≡ None
unfolding item_at
none_here rule b i h =
    let no : has_bytes b i 4 ≡ false = grind (arith, common_steps) in
    rw no refl

none_from : (n : ℕ) (rule : Rule) (b : List ℕ) (i : ℕ) → length b < i + 4 → items_from n rule kind_a b i ≡ []
unfolding items_from
none_from zero rule b i h = refl
none_from (suc n) rule b i h = ap (λ o. items_by o (λ at. items_from n rule kind_a b at)) (none_here rule b i h)

some_from : (n : ℕ) (rule : Rule) (b : List ℕ) (i : ℕ) → i + 4 ≤ length b → items_from (suc n) rule kind_a b i ≡ bytes (take 4 (drop i b)) ∷ items_from n rule kind_a b (i + 4)
unfolding items_from
some_from n rule b i h = ap (λ o. items_by o (λ at. items_from n rule kind_a b at)) (address_here rule b i h)

addresses_from : (n : ℕ) (rule : Rule) (b : List ℕ) (i : ℕ) (xs : List ℕ) → drop i b ≡ xs → i ≤ length b → length xs ≤ n → map bytes (addresses_in xs) ≡ items_from n rule kind_a b i
unfolding addresses_in
addresses_from n rule b i [] e h s = sym (none_from n rule b i (omega (arith, h, length-drop i b, ap (λ l. length l) e)))
addresses_from n rule b i (x ∷ []) e h s = sym (none_from n rule b i (omega (arith, h, length-drop i b, ap (λ l. length l) e)))
addresses_from n rule b i (x ∷ y ∷ []) e h s = sym (none_from n rule b i (omega (arith, h, length-drop i b, ap (λ l. length l) e)))
addresses_from n rule b i (x ∷ y ∷ z ∷ []) e h s = sym (none_from n rule b i (omega (arith, h, length-drop i b, ap (λ l. length l) e)))
addresses_from zero rule b i (x ∷ y ∷ z ∷ w ∷ rest) e h s = absurd (omega (arith, s))
addresses_from (suc n) rule b i (x ∷ y ∷ z ∷ w ∷ rest) e h s =
    let room : i + 4 ≤ length b = omega (arith, h, length-drop i b, ap (λ l. length l) e) in
    let behind : drop (i + 4) b ≡ rest = drop-behind i b (x ∷ y ∷ z ∷ w ∷ []) rest e in
    let others = addresses_from n rule b (i + 4) rest behind room (omega (arith, s)) in
    ap (λ ys. bytes (x ∷ y ∷ z ∷ w ∷ []) ∷ ys) others
    ∙ ap (λ l. bytes (take 4 l) ∷ items_from n rule kind_a b (i + 4)) (sym e)
    ∙ sym (some_from n rule b i room)

pub addresses_are : (rule : Rule) (b : List ℕ) → map bytes (addresses_in b) ≡ items_of rule kind_a b
unfolding items_of
addresses_are rule b = addresses_from (length b) rule b 0 b refl (omega arith) (omega arith)
