-- Which line an event is for, by the slots of the code.
use Rattle.std.proofs.Common.{◌≡◌, ℕ, suc, ◌-◌, ◌<◌, ◌≤◌, ◌⊎◌, inl, inr, true, false, cond, leb, List, ◌∷◌, length, map, drop, get_or, Box, Option, Some, None, ap, sym, ◌∙◌, arith, drop-cons}
use Rattle.std.specs.declared.alloc.Global.{Global}
use Rattle.std.specs.List.{position}
use Rattle.std.proofs.lemmas.Bool.Decides.{nat_tests}
use Rattle.dc_model.specs.Event.{Event}
use Rattle.dc_engine.specs.View.{kind_of, event_of}
use Rattle.dc_engine.specs.declared.events.Event.{Event as CodeEvent}
use Rattle.dc_engine.specs.declared.events.Kind.{Kind as CodeKind}
use Rattle.dc_engine.specs.declared.events.Kind.TheVariants.{Tick, Request, Datagram, LinkUp, LinkBytes, LinkDown, BindRefused, ConnUp, ConnBytes, ConnDown}
use Rattle.dc_lookup.specs.Filter as model
use Rattle.dc_filter.specs.declared.slot.Slot.{Slot}
use Rattle.dc_filter.specs.View.{slot_of}
use Rattle.dc_filter.specs.Queue.{slots_of}
use Rattle.dc_filter.specs.Places.{due_place, or_else, tick_place, link_place, event_place}
use Rattle.dc_filter.proofs.PlaceLemmas.{position_map}

-- One more line in front.
pub soonest_step : (q : List (Box Slot Global)) (n : ℕ) (b : Box Slot Global) (s : Slot) (found d r : Option ℕ) → 0 < n → n ≤ length q → b ≡ get_or q (n - 1) b → s ≡ b.value → d ≡ model.due_at (slot_of s).at
    → found ≡ model.soonest (map (λ x. model.due_at x.at) (slots_of (drop n q))) → r ≡ model.sooner d found → r ≡ model.soonest (map (λ x. model.due_at x.at) (slots_of (drop (n - 1) q)))
soonest_step q n b s found d r p l is same due so h =
    let behind : suc (n - 1) ≡ n = omega (arith, p) in
    let there : n - 1 < length q = omega (arith, p, l) in
    let whole : drop (n - 1) q ≡ b ∷ drop n q = drop-cons q (n - 1) b there ∙ ap (λ x. x ∷ drop (suc (n - 1)) q) (sym is) ∙ ap (λ m. b ∷ drop m q) behind in
    h ∙ ap (λ x. model.sooner x found) (due ∙ ap (λ (x : Slot). model.due_at (slot_of x).at) same) ∙ ap (λ x. model.sooner (model.due_at (slot_of b.value).at) x) so
    ∙ sym (ap (λ x. model.soonest (map (λ y. model.due_at y.at) (slots_of x))) whole)

pub due_is : (o : Option ℕ) (m now : ℕ) (q : List (Box Slot Global)) (r : Option ℕ) → o ≡ Some m → m ≤ now → r ≡ position (λ s. model.has_deadline m (slot_of s.value).at) q
    → r ≡ due_place o now (slots_of q)
due_is o m now q r h l e =
    let yes : leb m now ≡ true = grind (arith, nat_tests) in
    e ∙ sym (position_map (λ (s : Box Slot Global). slot_of s.value) (λ s. model.has_deadline m s.at) q)
    ∙ sym (ap (λ x. cond x (position (λ s. model.has_deadline m s.at) (slots_of q)) None) yes)
    ∙ ap (λ x. due_place x now (slots_of q)) (sym h)

pub not_due : (o : Option ℕ) (m now : ℕ) (q : List (Box Slot Global)) → o ≡ Some m → now < m → None ≡ due_place o now (slots_of q)
not_due o m now q h l =
    let no : leb m now ≡ false = grind (arith, nat_tests) in
    sym (ap (λ x. cond x (position (λ s. model.has_deadline m s.at) (slots_of q)) None) no) ∙ ap (λ x. due_place x now (slots_of q)) (sym h)

pub fresh_is : (q : List (Box Slot Global)) (now i : ℕ) (o : Option ℕ) → o ≡ position (λ s. model.is_fresh_at (slot_of s.value).at) q → o ≡ Some i → Some i ≡ tick_place now (slots_of q)
fresh_is q now i o h e =
    ap (λ x. or_else x (due_place (model.soonest (map (λ s. model.due_at s.at) (slots_of q))) now (slots_of q)))
    (sym e ∙ h ∙ sym (position_map (λ (s : Box Slot Global). slot_of s.value) (λ s. model.is_fresh_at s.at) q))

pub none_fresh : (q : List (Box Slot Global)) (now : ℕ) (o r : Option ℕ) → o ≡ position (λ s. model.is_fresh_at (slot_of s.value).at) q → o ≡ None
    → r ≡ due_place (model.soonest (map (λ s. model.due_at s.at) (slots_of q))) now (slots_of q) → r ≡ tick_place now (slots_of q)
none_fresh q now o r h e d =
    d ∙ ap (λ x. or_else x (due_place (model.soonest (map (λ s. model.due_at s.at) (slots_of q))) now (slots_of q)))
    (sym e ∙ h ∙ sym (position_map (λ (s : Box Slot Global). slot_of s.value) (λ s. model.is_fresh_at s.at) q))

-- By the kind of the event.
pub ticked : (v : CodeEvent) (e : Event) (q : List model.Slot) → event_of v e.bytes ≡ e → v.kind ≡ Tick → tick_place v.now q ≡ event_place e.kind e q
unfolding event_place
ticked v e q h k =
    sym (ap (λ x. event_place (kind_of x) (event_of v e.bytes) q) k) ∙ ap (λ (x : Event). event_place x.kind x q) h

abbrev pub IsOfLink : CodeKind → Type 0
IsOfLink k = (k ≡ Datagram) ⊎ ((k ≡ LinkUp) ⊎ ((k ≡ LinkBytes) ⊎ ((k ≡ LinkDown) ⊎ (k ≡ BindRefused))))

abbrev pub IsOfClient : CodeKind → Type 0
IsOfClient k = (k ≡ Request) ⊎ ((k ≡ ConnUp) ⊎ ((k ≡ ConnBytes) ⊎ (k ≡ ConnDown)))

link_by : (k : CodeKind) (e : Event) (q : List model.Slot) → IsOfLink k → event_place (kind_of k) e q ≡ link_place e.id q
unfolding event_place
link_by k e q (inl h) = ap (λ x. event_place (kind_of x) e q) h
link_by k e q (inr (inl h)) = ap (λ x. event_place (kind_of x) e q) h
link_by k e q (inr (inr (inl h))) = ap (λ x. event_place (kind_of x) e q) h
link_by k e q (inr (inr (inr (inl h)))) = ap (λ x. event_place (kind_of x) e q) h
link_by k e q (inr (inr (inr (inr h)))) = ap (λ x. event_place (kind_of x) e q) h

pub linked : (v : CodeEvent) (e : Event) (q : List (Box Slot Global)) (r : Option ℕ) → r ≡ position (λ s. model.has_link v.id (slot_of s.value).at) q → event_of v e.bytes ≡ e → IsOfLink v.kind
    → r ≡ event_place e.kind e (slots_of q)
linked v e q r is h k =
    is ∙ sym (position_map (λ (s : Box Slot Global). slot_of s.value) (λ s. model.has_link v.id s.at) q)
    ∙ sym (link_by v.kind (event_of v e.bytes) (slots_of q) k) ∙ ap (λ (x : Event). event_place x.kind x (slots_of q)) h

client_by : (k : CodeKind) (e : Event) (q : List model.Slot) → IsOfClient k → event_place (kind_of k) e q ≡ None
unfolding event_place
client_by k e q (inl h) = ap (λ x. event_place (kind_of x) e q) h
client_by k e q (inr (inl h)) = ap (λ x. event_place (kind_of x) e q) h
client_by k e q (inr (inr (inl h))) = ap (λ x. event_place (kind_of x) e q) h
client_by k e q (inr (inr (inr h))) = ap (λ x. event_place (kind_of x) e q) h

pub passed : (v : CodeEvent) (e : Event) (q : List model.Slot) → event_of v e.bytes ≡ e → IsOfClient v.kind → None ≡ event_place e.kind e q
passed v e q h k = sym (client_by v.kind (event_of v e.bytes) q k) ∙ ap (λ (x : Event). event_place x.kind x q) h
