-- What is ready stays in order, and what stands in it goes forward.
use Rattle.std.specs.Prelude.{◌≡◌, ◌⊎◌, ◌≤◌, ◌<◌, ◌+◌, ◌*◌, ◌==◌, ◌&&◌, ◌||◌, not, nat_lt, eqb, ℕ, Bool, true, false, if◌then◌else◌, List, [], ◌∷◌, ◌++◌, length, drop, slice_get, refl}
use Rattle.std.proofs.Common.{inl, inr, sym, subst, ◌∙◌, ap, arith, zero, suc}
use Rattle.std.proofs.lemmas.Bool.Decides.{eqb_tells}
use Rattle.std.proofs.lemmas.List.{length-append}
use Rattle.std.proofs.lemmas.Map.Steps.{length-le_from_distinct_below}
use Rattle.std.proofs.lemmas.Option.{slice_get_within}
use Rattle.std.specs.List.{AllByRecursion, IsDistinct, list_any}
use Rattle.std.specs.declared.option.Option.{Option}
use Rattle.std.specs.declared.option.Option.TheVariants.{None, Some}
use Rattle.dc_sock.specs.Ready.{Watched, marked, marked_if_some, mark_in, hold_in, recalled, turns_left, next_token, without_token}
use Rattle.dc_sock.proofs.Marks.{turn_used}

-- Each token once, and each below 250.
abbrev pub Ordered : List ℕ → Type 0
Ordered tokens = IsDistinct eqb tokens × ((token : ℕ) → list_any (eqb token) tokens ≡ true → token < 250)

abbrev pub AreBelow : List ℕ → Type 0
AreBelow tokens = (token : ℕ) → list_any (eqb token) tokens ≡ true → token < 250

-- What is ready is in order, and what is held back is below 250.
abbrev pub InOrder : Watched → Type 0
InOrder w = Ordered w.ready × AreBelow w.held

or_none : (a b : Bool) → (a || b) ≡ false → (a ≡ false) × (b ≡ false)
or_none true b p = cc
or_none false b p = (refl, p)

or_some : (a b : Bool) → (a || b) ≡ true → (a ≡ true) ⊎ (b ≡ true)
or_some true b p = inl refl
or_some false b p = inr p

or_right : (a b : Bool) → b ≡ true → (a || b) ≡ true
or_right true b p = refl
or_right false b p = p

same_by : (a b : ℕ) → (a == b) ≡ true → a ≡ b
same_by a b p = elim (eqb_tells a b) [
  | inl same ↦ same.1
  | inr other ↦ let wrong = other.0 in (cc)
]

all_more : (P : ℕ → Type 0) (xs : List ℕ) (x : ℕ) → AllByRecursion P xs → P x → AllByRecursion P (xs ++ x ∷ [])
all_more P [] x p q = (q, tt)
all_more P (y ∷ xs) x p q = (p.0, all_more P xs x p.1 q)

distinct_more : (xs : List ℕ) (x : ℕ) → IsDistinct eqb xs → list_any (λ t. t == x) xs ≡ false → IsDistinct eqb (xs ++ x ∷ [])
unfolding IsDistinct
distinct_more [] x d p = (tt, tt)
distinct_more (y ∷ xs) x d p =
    let parts = or_none (y == x) (list_any (λ t. t == x) xs) p in
    (all_more (λ z. eqb y z ≡ false) xs x d.0 parts.0, distinct_more xs x d.1 parts.1)

distinct_less : (xs : List ℕ) → IsDistinct eqb xs → IsDistinct eqb (drop 1 xs)
unfolding IsDistinct
distinct_less [] d = tt
distinct_less (x ∷ xs) d = d.1

any_more : (f : ℕ → Bool) (xs : List ℕ) (x : ℕ) → list_any f (xs ++ x ∷ []) ≡ true → (list_any f xs ≡ true) ⊎ (f x ≡ true)
any_more f [] x p = elim (or_some (f x) false p) [
  | inl it ↦ inr it
  | inr wrong ↦ cc
]
any_more f (y ∷ xs) x p = elim (or_some (f y) (list_any f (xs ++ x ∷ [])) p) [
  | inl it ↦ inl (ap (λ (b : Bool). b || list_any f xs) it)
  | inr rest ↦ elim (any_more f xs x rest) [
    | inl more ↦ inl (or_right (f y) (list_any f xs) more)
    | inr last ↦ inr last
  ]
]

any_less : (f : ℕ → Bool) (xs : List ℕ) → list_any f (drop 1 xs) ≡ true → list_any f xs ≡ true
any_less f [] p = p
any_less f (x ∷ xs) p = or_right (f x) (list_any f xs) p

-- One more token, which isn't among them.
ordered_more : (xs : List ℕ) (x : ℕ) → Ordered xs → x < 250 → list_any (λ t. t == x) xs ≡ false → Ordered (xs ++ x ∷ [])
ordered_more xs x o low none = (
  distinct_more xs x o.0 none,
  λ q p. elim (any_more (eqb q) xs x p) [
    | inl old ↦ o.1 q old
    | inr last ↦ subst (λ n. n < 250) (sym (same_by q x last)) low
  ],
)

ordered_less : (xs : List ℕ) → Ordered xs → Ordered (drop 1 xs)
ordered_less xs o = (distinct_less xs o.0, λ q p. o.1 q (any_less (eqb q) xs p))

-- There is room for it.
room : (xs : List ℕ) (x : ℕ) → Ordered xs → x < 250 → list_any (λ t. t == x) xs ≡ false → length xs < 250
room xs x o low none =
    let more = ordered_more xs x o low none in
    let most : length (xs ++ x ∷ []) ≤ 250 = length-le_from_distinct_below (xs ++ x ∷ []) 250 more.0 more.1 in
    omega (arith, length-append xs (x ∷ []))

-- A token that is among others stands at a place.
found_at : (xs : List ℕ) (x : ℕ) → list_any (λ t. t == x) xs ≡ true → (q : ℕ) × (slice_get xs q ≡ Some x)
found_at [] x p = cc
found_at (y ∷ xs) x p = elim (or_some (y == x) (list_any (λ t. t == x) xs) p) [
  | inl here ↦ (0, ap (λ n. Some n) (same_by y x here))
  | inr rest ↦ let at = found_at xs x rest in (suc at.0, at.1)
]

last_at : (xs : List ℕ) (x : ℕ) → slice_get (xs ++ x ∷ []) (length xs) ≡ Some x
last_at [] x = refl
last_at (y ∷ xs) x = last_at xs x

front_at : (xs : List ℕ) (x q s : ℕ) → slice_get xs q ≡ Some s → slice_get (xs ++ x ∷ []) q ≡ Some s
front_at [] x q s p = cc
front_at (y ∷ xs) x zero s p = p
front_at (y ∷ xs) x (suc q) s p = front_at xs x q s p

-- What marking does, whichever way it goes.
marked_if : (P : List ℕ → Type 0) (fits among : Bool) (xs : List ℕ) (x : ℕ) → P xs → (fits ≡ true → among ≡ false → P (xs ++ x ∷ [])) → P (if fits && not among then xs ++ x ∷ [] else xs)
marked_if P false among xs x old more = old
marked_if P true true xs x old more = old
marked_if P true false xs x old more = more refl refl

pub ordered_marked : (xs : List ℕ) (x : ℕ) → Ordered xs → x < 250 → Ordered (marked xs x)
ordered_marked xs x o low =
    marked_if Ordered (nat_lt (length xs) 250) (list_any (λ t. t == x) xs) xs x o (λ f none. ordered_more xs x o low none)

pub kept_marked : (xs : List ℕ) (x q s : ℕ) → slice_get xs q ≡ Some s → slice_get (marked xs x) q ≡ Some s
kept_marked xs x q s p =
    marked_if (λ (l : List ℕ). slice_get l q ≡ Some s) (nat_lt (length xs) 250) (list_any (λ t. t == x) xs) xs x p (λ f none. front_at xs x q s p)

-- A token that was marked stands at a place below 250.
abbrev AtPlace : ℕ → List ℕ → Type 0
AtPlace x xs = (q : ℕ) × ((slice_get xs q ≡ Some x) × (q < 250))

marked_here : (fits among : Bool) (xs : List ℕ) (x : ℕ) → (among ≡ true → AtPlace x xs) → (among ≡ false → (fits ≡ true) × AtPlace x (xs ++ x ∷ [])) → AtPlace x (if fits && not among then xs ++ x ∷ [] else xs)
marked_here fits true xs x old more = marked_if (AtPlace x) fits true xs x (old refl) (λ f none. cc)
marked_here true false xs x old more = (more refl).1
marked_here false false xs x old more = let wrong = (more refl).0 in (cc)

fits_by : (n : ℕ) → n < 250 → nat_lt n 250 ≡ true
fits_by n p = grind (arith)

pub marked_at : (xs : List ℕ) (x : ℕ) → Ordered xs → x < 250 → AtPlace x (marked xs x)
marked_at xs x o low =
    marked_here (nat_lt (length xs) 250) (list_any (λ t. t == x) xs) xs x
    (λ among.
    let at = found_at xs x among in
    let within : at.0 < length xs = slice_get_within xs at.0 x at.1 in
    let most : length xs ≤ 250 = length-le_from_distinct_below xs 250 o.0 o.1 in
    (at.0, (at.1, omega arith)))
    (λ none. let few = room xs x o low none in (fits_by (length xs) few, (length xs, (last_at xs x, few))))

-- What the first token is, and what is behind it.
first_among : (xs : List ℕ) (x : ℕ) → slice_get xs 0 ≡ Some x → list_any (eqb x) xs ≡ true
first_among [] x p = cc
first_among (y ∷ xs) x p =
    let same : y ≡ x = (cc) in
    elim (eqb_tells x y) [
      | inl here ↦ ap (λ (b : Bool). b || list_any (eqb x) xs) here.0
      | inr away ↦ absurd (away.1 (sym same))
    ]

-- What is held back, and called back.
below_more : (xs : List ℕ) (x : ℕ) → AreBelow xs → x < 250 → AreBelow (xs ++ x ∷ [])
below_more xs x b low = λ q p. elim (any_more (eqb q) xs x p) [
  | inl old ↦ b q old
  | inr last ↦ subst (λ n. n < 250) (sym (same_by q x last)) low
]

below_marked : (xs : List ℕ) (x : ℕ) → AreBelow xs → x < 250 → AreBelow (marked xs x)
below_marked xs x b low =
    marked_if AreBelow (nat_lt (length xs) 250) (list_any (λ t. t == x) xs) xs x b (λ f none. below_more xs x b low)

below_less : (xs : List ℕ) → AreBelow xs → AreBelow (drop 1 xs)
below_less xs b = λ q p. b q (any_less (eqb q) xs p)

pub held_order : (w : Watched) (token : ℕ) → InOrder w → token < 250 → InOrder (hold_in w token)
held_order w token o low = (o.0, below_marked w.held token o.1 low)

ordered_some : (ready held : List ℕ) (first : Option ℕ) → slice_get held 0 ≡ first → Ordered ready → AreBelow held → Ordered (marked_if_some ready first)
ordered_some ready held None e o b = o
ordered_some ready held (Some token) e o b = ordered_marked ready token o (b token (first_among held token e))

pub recalled_order : (w : Watched) → InOrder w → InOrder (recalled w)
recalled_order w o = (ordered_some w.ready w.held (slice_get w.held 0) refl o.0 o.1, below_less w.held o.1)

kept_some : (ready : List ℕ) (first : Option ℕ) (q s : ℕ) → slice_get ready q ≡ Some s → slice_get (marked_if_some ready first) q ≡ Some s
kept_some ready None q s p = p
kept_some ready (Some token) q s p = kept_marked ready token q s p

pub recalled_at : (w : Watched) (q s : ℕ) → slice_get w.ready q ≡ Some s → slice_get (recalled w).ready q ≡ Some s
recalled_at w q s p = kept_some w.ready (slice_get w.held 0) q s p

taken_if : (b : Bool) (w : Watched) (token : ℕ) → (if b then None else slice_get w.ready 0) ≡ Some token → (slice_get w.ready 0 ≡ Some token) × ((if b then w else record w { ready = drop 1 w.ready; turns = turns_left (slice_get w.ready 0) w.turns }).ready ≡ drop 1 w.ready)
taken_if true w token p = cc
taken_if false w token p = (p, refl)

pub taken_ready : (w : Watched) (token : ℕ) → next_token w ≡ Some token → (slice_get w.ready 0 ≡ Some token) × ((without_token w).ready ≡ drop 1 w.ready)
taken_ready w token p = taken_if (w.turns == 0) w token p

pub taken_low : (w : Watched) (token : ℕ) → next_token w ≡ Some token → InOrder w → token < 250
taken_low w token p o = o.0.1 token (first_among w.ready token (taken_ready w token p).0)

taken_held : (b : Bool) (w : Watched) → (if b then w else record w { ready = drop 1 w.ready; turns = turns_left (slice_get w.ready 0) w.turns }).held ≡ w.held
taken_held true w = refl
taken_held false w = refl

pub ordered_taken : (w : Watched) (token : ℕ) → next_token w ≡ Some token → InOrder w → InOrder (without_token w)
ordered_taken w token p o =
    (subst Ordered (sym (taken_ready w token p).1) (ordered_less w.ready o.0), subst AreBelow (sym (taken_held (w.turns == 0) w)) o.1)

pub order_marked : (w : Watched) (token : ℕ) → InOrder w → token < 250 → InOrder (mark_in w token)
order_marked w token o low = (ordered_marked w.ready token o.0 low, o.1)

-- This socket stands at a place of what is ready, so that it is next before so many waits.
abbrev pub Stands : (socket place waits : ℕ) → Watched → Type 0
Stands socket place waits w = (slice_get w.ready place ≡ Some socket) × (place < w.turns + 64 * waits)

behind_at : (xs : List ℕ) (q s : ℕ) → slice_get xs (suc q) ≡ Some s → slice_get (drop 1 xs) q ≡ Some s
behind_at [] q s p = cc
behind_at (x ∷ xs) q s p = p

pub taken_stands : (w : Watched) (token socket place waits : ℕ) → next_token w ≡ Some token → (token ≡ socket → ⊥) → Stands socket place waits w → (q : ℕ) × Stands socket q waits (without_token w)
taken_stands w token socket zero waits p far s =
    let first = (taken_ready w token p).0 in
    let other = s.0 in
    absurd (far (cc))
taken_stands w token socket (suc place) waits p far s =
    let rest = (taken_ready w token p).1 in
    let used = turn_used w token p in
    let soon : suc place < w.turns + 64 * waits = s.1 in
    (place, (ap (λ (l : List ℕ). slice_get l place) rest ∙ behind_at w.ready place socket s.0, omega (arith, used.0, used.1)))

pub marked_stands : (w : Watched) (token socket place waits : ℕ) → Stands socket place waits w → Stands socket place waits (mark_in w token)
marked_stands w token socket place waits s = (kept_marked w.ready token place socket s.0, s.1)

empty_at : (xs : List ℕ) (q s : ℕ) → slice_get xs 0 ≡ None → slice_get xs q ≡ Some s → ⊥
empty_at [] q s p h = cc
empty_at (x ∷ xs) q s p h = cc

-- Where no source is next while one is ready, no turn is left.
none_if : (b : Bool) (w : Watched) (socket place : ℕ) → (w.turns == 0) ≡ b → (if b then None else slice_get w.ready 0) ≡ None → slice_get w.ready place ≡ Some socket → w.turns ≡ 0
none_if true w socket place e p s = same_by w.turns 0 e
none_if false w socket place e p s = absurd (empty_at w.ready place socket p s)

pub all_turns_used : (w : Watched) (socket place : ℕ) → next_token w ≡ None → slice_get w.ready place ≡ Some socket → w.turns ≡ 0
all_turns_used w socket place p s = none_if (w.turns == 0) w socket place refl p s
