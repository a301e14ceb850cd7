-- What is left of a body behind an item, and that more turns change nothing.
use Rattle.std.proofs.Common.{◌≡◌, ℕ, ◌+◌, ◌-◌, ◌<◌, ◌≤◌, zero, suc, Bool, true, false, if◌then◌else◌, ◌&&◌, ◌||◌, List, [], ◌∷◌, length, refl, sym, ◌∙◌, ap, arith, Option, Some, None, option_map, option_and_then}
use Rattle.std.specs.Prelude.{◌==◌}
use Rattle.dc_model.specs.Name.{NameRead}
use Rattle.dc_model.specs.Message.{kind_a, kind_ns, kind_soa, kind_ptr, kind_mx, u16_at, has_bytes, Body}
use Rattle.dc_model.specs.Rules.{Rule}
use Rattle.dc_model.specs.Bodies.{ItemRead, host_item, mx_item, soa_item, bytes_item, keeps_soa, plain_name_at, item_at, items_by, items_from, items_of}
use Rattle.dc_model.proofs.PartLemmas.{leb_least, mapped}
use Rattle.dc_model.proofs.MessageLemmas.{bound, guarded, some_of}
use Rattle.dc_items.specs.Left.{items_left}
use Rattle.dc_items.proofs.PlainLemmas.{IsLater, plain_later}

-- an item ends behind its place, in the body
abbrev Ends : List ℕ → ℕ → Option ItemRead → Type 0
Ends b i o = (x : ItemRead) → o ≡ Some x → IsLater b i x.after

either : (c : Bool) (b : List ℕ) (i : ℕ) (x y : Option ItemRead) → Ends b i x → Ends b i y → Ends b i (if c then x else y)
either true b i x y f g = f
either false b i x y f g = g

host_ends : (b : List ℕ) (i : ℕ) → Ends b i (option_map host_item (plain_name_at b i))
host_ends b i x e =
    let r = mapped host_item (plain_name_at b i) x e in
    let h = plain_later b i r.0 r.1 in
    let after : r.0.after ≡ x.after = ap (λ (y : ItemRead). y.after) r.2 in
    record { later = omega (arith, h.later, after); within = omega (arith, h.within, after) }

mx_ends : (b : List ℕ) (i : ℕ) → Ends b i (if has_bytes b i 2 then option_map (mx_item (u16_at b i)) (plain_name_at b (i + 2)) else None)
mx_ends b i x e =
    let g = guarded (has_bytes b i 2) _ x e in
    let r = mapped (mx_item (u16_at b i)) (plain_name_at b (i + 2)) x g.1 in
    let h = plain_later b (i + 2) r.0 r.1 in
    let after : r.0.after ≡ x.after = ap (λ (y : ItemRead). y.after) r.2 in
    record { later = omega (arith, h.later, after); within = omega (arith, h.within, after) }

soa_ends : (b : List ℕ) (i : ℕ) → Ends b i (option_and_then (λ r. option_and_then (soa_item b r.name) (plain_name_at b r.after)) (plain_name_at b i))
soa_ends b i x e =
    let r = bound (λ (r : NameRead). option_and_then (soa_item b r.name) (plain_name_at b r.after)) (plain_name_at b i) x e in
    let s = bound (soa_item b r.0.name) (plain_name_at b r.0.after) x r.2 in
    let g = guarded (has_bytes b s.0.after 20) _ x s.2 in
    let h = plain_later b i r.0 r.1 in
    let k = plain_later b r.0.after s.0 s.1 in
    let room = leb_least (s.0.after + 20) (length b) g.0 in
    let after : s.0.after + 20 ≡ x.after = ap (λ (y : ItemRead). y.after) (some_of _ x g.1) in
    record { later = omega (arith, h.later, k.later, after); within = omega (arith, room, after) }

bytes_end : (b : List ℕ) (i j n : ℕ) → i < j + n → Ends b i (bytes_item b j n)
bytes_end b i j n s x e =
    let g = guarded (has_bytes b j n) _ x e in
    let room = leb_least (j + n) (length b) g.0 in
    let after : j + n ≡ x.after = ap (λ (y : ItemRead). y.after) (some_of _ x g.1) in
    record { later = omega (arith, s, after); within = omega (arith, room, after) }

framed_ends : (b : List ℕ) (i : ℕ) → Ends b i (if has_bytes b i 2 then bytes_item b (i + 2) (u16_at b i) else None)
framed_ends b i x e =
    let g = guarded (has_bytes b i 2) _ x e in
    bytes_end b i (i + 2) (u16_at b i) (omega arith) x g.1

pub item_ends : (rule : Rule) (kind : ℕ) (b : List ℕ) (i : ℕ) → Ends b i (item_at rule kind b i)
unfolding item_at
item_ends rule kind b i =
    either (kind == kind_ns || kind == kind_ptr) b i _ _ (host_ends b i)
    (either (kind == kind_mx) b i _ _ (mx_ends b i)
    (either (kind == kind_a) b i _ _ (bytes_end b i i 4 (omega arith))
    (either (kind == kind_soa && keeps_soa rule) b i _ _ (soa_ends b i) (framed_ends b i))))

-- more turns than bytes are left change nothing

none_left : (b : List ℕ) (i : ℕ) (o : Option ItemRead) (f : ℕ → List Body) → length b ≤ i → Ends b i o → items_by o f ≡ []
none_left b i None f s h = refl
none_left b i (Some x) f s h = let k = h x refl in absurd (omega (arith, s, k.later, k.within))

by_item : (b : List ℕ) (i : ℕ) (o : Option ItemRead) (f g : ℕ → List Body) → Ends b i o → ((j : ℕ) → i < j → j ≤ length b → f j ≡ g j) → items_by o f ≡ items_by o g
by_item b i None f g h e = refl
by_item b i (Some x) f g h e = let k = h x refl in ap (λ ys. x.item ∷ ys) (e x.after k.later k.within)

turns_enough : (n m : ℕ) (rule : Rule) (kind : ℕ) (b : List ℕ) (i : ℕ) → length b ≤ i + n → length b ≤ i + m → items_from n rule kind b i ≡ items_from m rule kind b i
unfolding items_from
turns_enough zero zero rule kind b i h k = refl
turns_enough zero (suc m) rule kind b i h k = sym (none_left b i (item_at rule kind b i) _ (omega (arith, h)) (item_ends rule kind b i))
turns_enough (suc n) zero rule kind b i h k = none_left b i (item_at rule kind b i) _ (omega (arith, k)) (item_ends rule kind b i)
turns_enough (suc n) (suc m) rule kind b i h k =
    by_item b i (item_at rule kind b i) _ _ (item_ends rule kind b i) (λ j s t. turns_enough n m rule kind b j (omega (arith, h, s)) (omega (arith, k, s)))

-- what is left of a body, item by item

one_turn : (n : ℕ) (rule : Rule) (kind : ℕ) (b : List ℕ) (i : ℕ) → items_from (suc n) rule kind b i ≡ items_by (item_at rule kind b i) (λ at. items_from n rule kind b at)
unfolding items_from
one_turn n rule kind b i = refl

pub left_turn : (rule : Rule) (kind : ℕ) (b : List ℕ) (i : ℕ) → items_left rule kind b i ≡ items_by (item_at rule kind b i) (λ at. items_left rule kind b at)
unfolding items_left
left_turn rule kind b i =
    turns_enough (length b - i) (suc (length b)) rule kind b i (omega arith) (omega arith)
    ∙ one_turn (length b) rule kind b i
    ∙ by_item b i (item_at rule kind b i) _ _ (item_ends rule kind b i) (λ j s t. turns_enough (length b) (length b - j) rule kind b j (omega arith) (omega arith))

pub left_some : (rule : Rule) (kind : ℕ) (b : List ℕ) (i : ℕ) (x : ItemRead) → Some x ≡ item_at rule kind b i → items_left rule kind b i ≡ x.item ∷ items_left rule kind b x.after
left_some rule kind b i x e = left_turn rule kind b i ∙ ap (λ o. items_by o (λ at. items_left rule kind b at)) (sym e)

pub left_none : (rule : Rule) (kind : ℕ) (b : List ℕ) (i : ℕ) → None ≡ item_at rule kind b i → items_left rule kind b i ≡ []
left_none rule kind b i e = left_turn rule kind b i ∙ ap (λ o. items_by o (λ at. items_left rule kind b at)) (sym e)

pub left_end : (rule : Rule) (kind : ℕ) (b : List ℕ) → items_left rule kind b (length b) ≡ []
left_end rule kind b = left_turn rule kind b (length b) ∙ none_left b (length b) (item_at rule kind b (length b)) _ (omega arith) (item_ends rule kind b (length b))

pub left_all : (rule : Rule) (kind : ℕ) (b : List ℕ) → items_left rule kind b 0 ≡ items_of rule kind b
unfolding items_left items_of
left_all rule kind b = turns_enough (length b - 0) (length b) rule kind b 0 (omega arith) (omega arith)
