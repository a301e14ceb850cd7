-- The line that an event is for, by its place.
use Rattle.std.proofs.Common.{◌≡◌, ℕ, zero, suc, ◌+◌, ◌<◌, ◌⊎◌, inl, inr, Bool, true, false, not, cond, ltb, List, [], ◌∷◌, ◌++◌, length, map, refl, ap, sym, ◌∙◌, subst, arith, Option, Some, None}
use Rattle.std.specs.List.{position, position_or_len, slice_get}
use Rattle.std.proofs.Math.ListN.{set, length-set}
use Rattle.std.proofs.lemmas.Bool.Decides.{nat_tests}
use Rattle.std.proofs.lemmas.List.{length-map}
use Rattle.dc_model.specs.Event.{Event, Kind, tick, request, datagram, link_up, link_bytes, link_down, bind_refused, conn_up, conn_bytes, conn_down}
use Rattle.dc_lookup.specs.Filter.{Slot, Filter, Filtered, unchanged, Progressed, fresh, asked, done, Placed, one_further, place_of, is_fresh_at, has_deadline, has_link, first_due, filter_wake, tick_place as tick_line, place_for, place_hears, slot_hears, host_begins, hear_step}
use Rattle.dc_filter.specs.Sifter.{Sifter, filter_with, alone, has_heard}
use Rattle.dc_filter.specs.Lines.{Gone, line_step}
use Rattle.dc_filter.specs.Places.{due_place, or_else, event_place}

-- What stands at a place.
abbrev placed_at : ℕ → List Slot → Option Placed
placed_at i [] = None
placed_at zero (s ∷ ss) = Some (record { before = []; slot = s; behind = ss })
placed_at (suc i) (s ∷ ss) = one_further s (placed_at i ss)

abbrev IsNowhere : (Slot → Bool) → List Slot → Type 0
IsNowhere test q = (position test q ≡ None) × (place_of test q ≡ None)

record IsAt (test : Slot → Bool) (q : List Slot) : Type 0 where
  pub i : ℕ
  pub p : Placed
  pub position_is : position test q ≡ Some i
  pub place_is : place_of test q ≡ Some p
  pub placed : placed_at i q ≡ Some p

abbrev Where : (Slot → Bool) → List Slot → Type 0
Where test q = IsNowhere test q ⊎ IsAt test q

less : (m n : ℕ) (v : Bool) → ltb m n ≡ v → ltb (1 + m) (suc n) ≡ v
less m n true h = grind (arith, nat_tests)
less m n false h = grind (arith, nat_tests)

first : (n : ℕ) → ltb 0 (suc n) ≡ true
first n = grind (arith, nat_tests)

onward : (m i : ℕ) → m ≡ i → 1 + m ≡ suc i
onward m i h = omega (arith, h)

some_by : (v : Bool) (m i : ℕ) → cond v (Some m) None ≡ Some i → (v ≡ true) × (m ≡ i)
some_by true m i h = (refl, cc)
some_by false m i h = cc

none_by : (v : Bool) (m : ℕ) → cond v (Some m) None ≡ None → v ≡ false
none_by true m h = cc
none_by false m h = refl

where_by : (b : Bool) (test : Slot → Bool) (s : Slot) (ss : List Slot) → b ≡ test s → Where test ss → Where test (s ∷ ss)
unfolding place_of
where_by true test s ss h w = inr (record {
  i = 0;
  p = record { before = []; slot = s; behind = ss };
  position_is = subst (λ (b : Bool). cond (ltb (cond (not b) (1 + position_or_len test ss) 0) (suc (length ss))) (Some (cond (not b) (1 + position_or_len test ss) 0)) None ≡ Some 0) h (ap (λ (v : Bool). cond v (Some 0) None) (first (length ss)));
  place_is = subst (λ (b : Bool). cond b (Some (record { before = []; slot = s; behind = ss })) (one_further s (place_of test ss)) ≡ Some (record { before = []; slot = s; behind = ss })) h refl;
  placed = refl;
})
where_by false test s ss h (inl w) =
    let m = position_or_len test ss in
    let no = none_by (ltb m (length ss)) m w.0 in
    inl (
      subst (λ (b : Bool). cond (ltb (cond (not b) (1 + m) 0) (suc (length ss))) (Some (cond (not b) (1 + m) 0)) None ≡ None) h (ap (λ (v : Bool). cond v (Some (1 + m)) None) (less m (length ss) false no)),
      subst (λ (b : Bool). cond b (Some (record { before = []; slot = s; behind = ss })) (one_further s (place_of test ss)) ≡ None) h (ap (λ (o : Option Placed). one_further s o) w.1),
    )
where_by false test s ss h (inr w) =
    let m = position_or_len test ss in
    let yes = some_by (ltb m (length ss)) m w.i w.position_is in
    inr (record {
      i = suc w.i;
      p = record w.p { before = s ∷ w.p.before };
      position_is = subst (λ (b : Bool). cond (ltb (cond (not b) (1 + m) 0) (suc (length ss))) (Some (cond (not b) (1 + m) 0)) None ≡ Some (suc w.i)) h
          (ap (λ (v : Bool). cond v (Some (1 + m)) None) (less m (length ss) true yes.0) ∙ ap Some (onward m w.i yes.1));
      place_is = subst (λ (b : Bool). cond b (Some (record { before = []; slot = s; behind = ss })) (one_further s (place_of test ss)) ≡ Some (record w.p { before = s ∷ w.p.before })) h
          (ap (λ (o : Option Placed). one_further s o) w.place_is);
      placed = ap (λ (o : Option Placed). one_further s o) w.placed;
    })

where_is : (test : Slot → Bool) (q : List Slot) → Where test q
unfolding place_of
where_is test [] = inl (refl, refl)
where_is test (s ∷ ss) = where_by (test s) test s ss refl (where_is test ss)

-- A place and the line there agree.
abbrev Agree : Option ℕ → Option Placed → List Slot → Type 0
Agree None o q = o ≡ None
Agree (Some i) o q = (p : Placed) × (o ≡ Some p) × (placed_at i q ≡ Some p)

agree_by : (test : Slot → Bool) (q : List Slot) → Where test q → Agree (position test q) (place_of test q) q
agree_by test q (inl w) = subst (λ (x : Option ℕ). Agree x (place_of test q) q) (sym w.0) w.1
agree_by test q (inr w) = subst (λ (x : Option ℕ). Agree x (place_of test q) q) (sym w.position_is) (w.p, w.place_is, w.placed)

agree : (test : Slot → Bool) (q : List Slot) → Agree (position test q) (place_of test q) q
agree test q = agree_by test q (where_is test q)

agree_if : (b : Bool) (i : Option ℕ) (o : Option Placed) (q : List Slot) → Agree i o q → Agree (cond b i None) (cond b o None) q
agree_if true i o q h = h
agree_if false i o q h = refl

agree_due : (moment : Option ℕ) (now : ℕ) (q : List Slot) → Agree (due_place moment now q) (first_due moment now q) q
agree_due None now q = refl
agree_due (Some m) now q = agree_if _ _ _ q (agree (λ s. has_deadline m s.at) q)

agree_or : (i j : Option ℕ) (o : Option Placed) (f : Filter) (e : Event) → Agree i o f.queue → Agree j (first_due (filter_wake f) e.now f.queue) f.queue → Agree (or_else i j) (tick_line o f e) f.queue
agree_or None j o f e h k = subst (λ (x : Option Placed). Agree j (tick_line x f e) f.queue) (sym h) k
agree_or (Some i) j o f e h k = (h.0, ap (λ (x : Option Placed). tick_line x f e) h.1, h.2)

agree_for : (k : Kind) (f : Filter) (e : Event) → Agree (event_place k e f.queue) (place_for k f e) f.queue
unfolding event_place place_for filter_wake
agree_for tick f e = agree_or _ _ _ f e (agree (λ s. is_fresh_at s.at) f.queue) (agree_due (filter_wake f) e.now f.queue)
agree_for request f e = refl
agree_for datagram f e = agree (λ s. has_link e.id s.at) f.queue
agree_for link_up f e = agree (λ s. has_link e.id s.at) f.queue
agree_for link_bytes f e = agree (λ s. has_link e.id s.at) f.queue
agree_for link_down f e = agree (λ s. has_link e.id s.at) f.queue
agree_for bind_refused f e = agree (λ s. has_link e.id s.at) f.queue
agree_for conn_up f e = refl
agree_for conn_bytes f e = refl
agree_for conn_down f e = refl

-- An event without a line.
pub nothing_heard : (f : Filter) (e : Event) (draws : List ℕ) (i : Option ℕ) → i ≡ event_place e.kind e f.queue → i ≡ None → hear_step f e draws ≡ unchanged f
unfolding hear_step place_hears
nothing_heard f e draws i h n =
    let o : place_for e.kind f e ≡ None = subst (λ (x : Option ℕ). Agree x (place_for e.kind f e) f.queue) (sym h ∙ n) (agree_for e.kind f e) in
    ap (λ (o : Option Placed). place_hears o f e draws) o

pub nowhere : (s : Sifter) (e : Event) (draws : List ℕ) (i : Option ℕ) → i ≡ event_place e.kind e s.queue → i ≡ None → hear_step (alone s) e draws ≡ unchanged (alone s)
nowhere s e draws i h n = nothing_heard (alone s) e draws i h n

-- What a place has, and what a change there leaves.
record Stands (q : List Slot) (i : ℕ) (p : Placed) : Type 0 where
  pub slot : slice_get q i ≡ Some p.slot
  pub whole : q ≡ p.before ++ (p.slot ∷ p.behind)
  pub change : (s : Slot) → p.before ++ (s ∷ p.behind) ≡ set q i s

none_some : (p : Placed) → None ≡ Some p → ⊥
none_some p h = cc

stands_further : (s : Slot) (ss : List Slot) (i : ℕ) (o : Option Placed) (p : Placed) → o ≡ placed_at i ss → ((r : Placed) → placed_at i ss ≡ Some r → Stands ss i r) → one_further s o ≡ Some p → Stands (s ∷ ss) (suc i) p
stands_further s ss i None p h more e = absurd (none_some p e)
stands_further s ss i (Some r) p h more e =
    let t = more r (sym h) in
    let is : record r { before = s ∷ r.before } ≡ p = cc in
    subst (λ (x : Placed). Stands (s ∷ ss) (suc i) x) is (record {
      slot = t.slot;
      whole = ap (λ (l : List Slot). s ∷ l) t.whole;
      change = λ y. ap (λ (l : List Slot). s ∷ l) (t.change y);
    })

stands : (q : List Slot) (i : ℕ) (p : Placed) → placed_at i q ≡ Some p → Stands q i p
stands [] zero p h = absurd (none_some p h)
stands [] (suc i) p h = absurd (none_some p h)
stands (s ∷ ss) zero p h =
    let is : (let r : Placed = record { before = []; slot = s; behind = ss } in r) ≡ p = cc in
    subst (λ (x : Placed). Stands (s ∷ ss) 0 x) is (record { slot = refl; whole = refl; change = λ y. refl })
stands (s ∷ ss) (suc i) p h = stands_further s ss i (placed_at i ss) p refl (λ r e. stands ss i r e) h

-- A line at a place heard.
abbrev pub gone_in : Filter → ℕ → Slot → Gone → Filtered
gone_in f i x g = record { filter = record f { queue = set f.queue i (record x { at = g.at }); links = g.links }; actions = g.actions }

abbrev pub gone_at : Sifter → ℕ → Slot → Gone → Filtered
gone_at s i x g = gone_in (alone s) i x g

led_is : (at : Progressed) (f : Filter) (i : ℕ) (p : Placed) (e : Event) (draws : List ℕ) → Stands f.queue i p → at ≡ p.slot.at
    → slot_hears at p f e draws ≡ gone_in f i p.slot (line_step at p.slot.line f.servers f.links e draws)
unfolding slot_hears host_begins line_step
led_is (fresh n) f i p e draws t h = ap (λ (q : List Slot). let x : Filtered = record { filter = record f { queue = q; links = f.links + 1 }; actions = (line_step (fresh n) p.slot.line f.servers f.links e draws).actions } in x) (t.change _)
led_is (asked a) f i p e draws t h = ap (λ (q : List Slot). let x : Filtered = record { filter = record f { queue = q; links = (line_step (asked a) p.slot.line f.servers f.links e draws).links }; actions = (line_step (asked a) p.slot.line f.servers f.links e draws).actions } in x) (t.change _)
led_is (done text) f i p e draws t h =
    let same : (let y : Slot = record p.slot { at = done text } in y) ≡ p.slot = ap (λ (z : Progressed). let y : Slot = record p.slot { at = z } in y) h in
    ap (λ (q : List Slot). let x : Filtered = record { filter = record f { queue = q }; actions = [] } in x)
    (t.whole ∙ ap (λ (y : Slot). p.before ++ (y ∷ p.behind)) (sym same) ∙ t.change _)

-- An event for a line.
pub heard_in : (f : Filter) (e : Event) (draws : List ℕ) (o : Option ℕ) (i : ℕ) (x : Slot) → o ≡ event_place e.kind e f.queue → o ≡ Some i → slice_get f.queue i ≡ Some x
    → hear_step f e draws ≡ gone_in f i x (line_step x.at x.line f.servers f.links e draws)
unfolding hear_step place_hears
heard_in f e draws o i x h n at =
    let a : Agree (Some i) (place_for e.kind f e) f.queue = subst (λ (x : Option ℕ). Agree x (place_for e.kind f e) f.queue) (sym h ∙ n) (agree_for e.kind f e) in
    let t = stands f.queue i a.0 a.2 in
    let is : a.0.slot ≡ x = cc (t.slot, at) in
    ap (λ (o : Option Placed). place_hears o f e draws) a.1
    ∙ led_is a.0.slot.at f i a.0 e draws t refl
    ∙ ap (λ (y : Slot). gone_in f i y (line_step y.at y.line f.servers f.links e draws)) is

pub heard_at : (s : Sifter) (e : Event) (draws : List ℕ) (o : Option ℕ) (i : ℕ) (x : Slot) → o ≡ event_place e.kind e s.queue → o ≡ Some i → slice_get s.queue i ≡ Some x
    → hear_step (alone s) e draws ≡ gone_at s i x (line_step x.at x.line s.servers s.links e draws)
heard_at s e draws o i x h n at = heard_in (alone s) e draws o i x h n at

-- What was written and what wasn't read isn't heard of.
abbrev pub spread : Sifter → (written : List ℕ) → (unread : List (List ℕ)) → Filtered → Filtered
spread s written unread x = record { filter = filter_with (has_heard x s) written unread; actions = x.actions }

hear_by : (o : Option ℕ) (s : Sifter) (written : List ℕ) (unread : List (List ℕ)) (e : Event) (draws : List ℕ) → o ≡ event_place e.kind e s.queue
    → hear_step (filter_with s written unread) e draws ≡ spread s written unread (hear_step (alone s) e draws)
hear_by None s written unread e draws h =
    nothing_heard (filter_with s written unread) e draws None h refl
    ∙ sym (ap (λ x. spread s written unread x) (nothing_heard (alone s) e draws None h refl))
hear_by (Some i) s written unread e draws h =
    let a : Agree (Some i) (place_for e.kind (alone s) e) s.queue = subst (λ (x : Option ℕ). Agree x (place_for e.kind (alone s) e) s.queue) (sym h) (agree_for e.kind (alone s) e) in
    let t = stands s.queue i a.0 a.2 in
    heard_in (filter_with s written unread) e draws (Some i) i a.0.slot h refl t.slot
    ∙ sym (ap (λ x. spread s written unread x) (heard_in (alone s) e draws (Some i) i a.0.slot h refl t.slot))

pub hear_with : (s : Sifter) (written : List ℕ) (unread : List (List ℕ)) (e : Event) (draws : List ℕ)
    → hear_step (filter_with s written unread) e draws ≡ spread s written unread (hear_step (alone s) e draws)
hear_with s written unread e draws = hear_by (event_place e.kind e s.queue) s written unread e draws refl

-- No line comes or goes.
length_by : (o : Option ℕ) (s : Sifter) (e : Event) (draws : List ℕ) → o ≡ event_place e.kind e s.queue → length (hear_step (alone s) e draws).filter.queue ≡ length s.queue
length_by None s e draws h = ap (λ (x : Filtered). length x.filter.queue) (nothing_heard (alone s) e draws None h refl)
length_by (Some i) s e draws h =
    let a : Agree (Some i) (place_for e.kind (alone s) e) s.queue = subst (λ (x : Option ℕ). Agree x (place_for e.kind (alone s) e) s.queue) (sym h) (agree_for e.kind (alone s) e) in
    let t = stands s.queue i a.0 a.2 in
    ap (λ (x : Filtered). length x.filter.queue) (heard_in (alone s) e draws (Some i) i a.0.slot h refl t.slot) ∙ length-set s.queue i _

pub length_kept : (s : Sifter) (e : Event) (draws : List ℕ) → length (hear_step (alone s) e draws).filter.queue ≡ length s.queue
length_kept s e draws = length_by (event_place e.kind e s.queue) s e draws refl

-- The place is within.
pub within : (s : Sifter) (e : Event) (o : Option ℕ) (i : ℕ) → o ≡ event_place e.kind e s.queue → o ≡ Some i → i < length s.queue
within s e o i h n =
    let a : Agree (Some i) (place_for e.kind (alone s) e) s.queue = subst (λ (x : Option ℕ). Agree x (place_for e.kind (alone s) e) s.queue) (sym h ∙ n) (agree_for e.kind (alone s) e) in
    let t = stands s.queue i a.0 a.2 in
    get_below s.queue i a.0.slot t.slot
  where
    get_below : (xs : List Slot) (i : ℕ) (a : Slot) → slice_get xs i ≡ Some a → i < length xs
    get_below [] i a h = cc
    get_below (x ∷ xs) zero a h = omega arith
    get_below (x ∷ xs) (suc i) a h = omega (arith, get_below xs i a h)

-- Places in what is seen by f.
prefix_map : {A B : Type 0} (f : A → B) (p : B → Bool) (xs : List A) → position_or_len p (map f xs) ≡ position_or_len (λ x. p (f x)) xs
prefix_map f p [] = refl
prefix_map f p (x ∷ xs) = ap (λ n. cond (not (p (f x))) (1 + n) 0) (prefix_map f p xs)

pub position_map : {A B : Type 0} (f : A → B) (p : B → Bool) (xs : List A) → position p (map f xs) ≡ position (λ x. p (f x)) xs
position_map f p xs =
    ap (λ n. cond (ltb n (length (map f xs))) (Some n) None) (prefix_map f p xs)
    ∙ ap (λ n. cond (ltb (position_or_len (λ x. p (f x)) xs) n) (Some (position_or_len (λ x. p (f x)) xs)) None) (length-map xs f)
