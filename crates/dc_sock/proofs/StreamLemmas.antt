-- What the clients' connections got: one connection, followed from call to call.
use Rattle.std.specs.Prelude.{◌≡◌, ◌⊎◌, ◌≤◌, ◌<◌, ◌-◌, ◌^◌, ◌==◌, ℕ, Bool, true, false, if◌then◌else◌, List, [], ◌∷◌, ◌++◌, length, slice_get, slice_set, refl}
use Rattle.std.proofs.Common.{inl, inr, sym, subst, ◌∙◌, ap, append_assoc, arith, zero, suc}
use Rattle.std.proofs.lemmas.List.{append-nil, length-set}
use Rattle.std.proofs.Common.{length-append}
use Rattle.std.proofs.lemmas.Option.{slice_get_within}
use Rattle.std.proofs.lemmas.Bool.Decides.{eqb_tells}
use Rattle.std.specs.List.{AllByRecursion}
use Rattle.std.specs.declared.option.Option.TheVariants.{None, Some}
use Rattle.dc_event.specs.Causes.{counted}
use Rattle.dc_system.specs.Call.{Call}
use Rattle.dc_system.specs.Call as call
use Rattle.dc_sock.specs.declared.seat.Conn.{Conn}
use Rattle.dc_sock.specs.declared.seat.Seat.{Seat}
use Rattle.dc_sock.specs.ClientCalls.{seat_socket}
use Rattle.dc_sock.specs.SeatCalls.{new_seat, free_seat}
use Rattle.dc_sock.specs.Streams.{took, closes, takes, StaysOpen, MayFail, IsNumbered}
use Rattle.dc_sock.proofs.SeatLemmas.{each_append}

-- Numbers that are told apart.
pub differs : (a b : ℕ) → (a ≡ b → ⊥) → (a == b) ≡ false
differs a b n = elim (eqb_tells a b) [
  | inl same ↦ absurd (n same.1)
  | inr other ↦ other.0
]

pub same_self : (a : ℕ) → (a == a) ≡ true
same_self a = elim (eqb_tells a a) [
  | inl same ↦ same.0
  | inr other ↦ absurd (other.1 refl)
]

pub told_same : (a b : ℕ) → (a == b) ≡ true → a ≡ b
told_same a b e = elim (eqb_tells a b) [
  | inl same ↦ same.1
  | inr other ↦ let no : true ≡ false = sym e ∙ other.0 in (cc)
]

pub told_other : (a b : ℕ) → (a == b) ≡ false → a ≡ b → ⊥
told_other a b e s =
    let no : true ≡ false = sym (same_self b) ∙ (ap (λ (x : ℕ). x == b) (sym s) ∙ e) in (cc)

-- Places of a list.
pub get_set : (seats : List Seat) (index : ℕ) (seat new : Seat) → slice_get seats index ≡ Some seat → slice_get (slice_set seats index new) index ≡ Some new
get_set [] index seat new p = cc
get_set (x ∷ xs) zero seat new p = refl
get_set (x ∷ xs) (suc n) seat new p = get_set xs n seat new p

got_set : (seats : List Seat) (index : ℕ) (new other : Seat) → slice_get (slice_set seats index new) index ≡ Some other → other ≡ new
got_set [] index new other p = cc
got_set (x ∷ xs) zero new other p = cc
got_set (x ∷ xs) (suc n) new other p = got_set xs n new other p

pub get_other : (seats : List Seat) (index j : ℕ) (new : Seat) → (index ≡ j → ⊥) → slice_get (slice_set seats index new) j ≡ slice_get seats j
get_other [] index j new n = refl
get_other (x ∷ xs) zero zero new n = absurd (n refl)
get_other (x ∷ xs) zero (suc j) new n = refl
get_other (x ∷ xs) (suc i) zero new n = refl
get_other (x ∷ xs) (suc i) (suc j) new n = get_other xs i j new (λ e. n (ap (λ (k : ℕ). suc k) e))

-- A socket of a place, and two of them.
abbrev pub IsPlace : ℕ → Type 0
IsPlace s = (2 ≤ s) × (s < 26)

place_is : (i : ℕ) → i < 24 → IsPlace (seat_socket i)
place_is i p = (omega arith, omega arith)

places_differ : (i j : ℕ) → i < 24 → j < 24 → (i ≡ j → ⊥) → seat_socket i ≡ seat_socket j → ⊥
places_differ i j p q n e = n (omega arith)

-- Calls by which a socket takes nothing and isn't closed.
abbrev pub IsMissed : ℕ → Call → Type 0
IsMissed s x = (closes s x ≡ false) × (took s x ≡ [])

abbrev pub AreMissed : ℕ → List Call → Type 0
AreMissed s calls = AllByRecursion (IsMissed s) calls

abbrev pub MissesAll : List Call → Type 0
MissesAll calls = (s : ℕ) → IsPlace s → AreMissed s calls

abbrev pub MissesOthers : ℕ → List Call → Type 0
MissesOthers own calls = (s : ℕ) → (s ≡ own → ⊥) → AreMissed s calls

missed_takes : (s : ℕ) (xs : List Call) → AreMissed s xs → takes s xs ≡ []
missed_takes s [] p = refl
missed_takes s (x ∷ xs) p =
    ap (λ (b : Bool). if b then [] else took s x ++ takes s xs) p.0.0 ∙ (ap (λ (l : List ℕ). l ++ takes s xs) p.0.1 ∙ missed_takes s xs p.1)

missed_open : (s : ℕ) (xs : List Call) → AreMissed s xs → StaysOpen s xs
missed_open s [] p = tt
missed_open s (x ∷ xs) p = (p.0.0, missed_open s xs p.1)

-- Calls behind others by which a socket wasn't closed.
takes_one : (s : ℕ) (x : Call) (xs : List Call) → closes s x ≡ false → takes s (x ∷ xs) ≡ took s x ++ takes s xs
takes_one s x xs e = ap (λ (b : Bool). if b then [] else took s x ++ takes s xs) e

pub takes_both : (s : ℕ) (xs ys : List Call) → StaysOpen s xs → takes s (xs ++ ys) ≡ takes s xs ++ takes s ys
takes_both s [] ys p = refl
takes_both s (x ∷ xs) ys p =
    takes_one s x (xs ++ ys) p.0
    ∙ (ap (λ (l : List ℕ). took s x ++ l) (takes_both s xs ys p.1)
    ∙ (sym (append_assoc (took s x) (takes s xs) (takes s ys)) ∙ ap (λ (l : List ℕ). l ++ takes s ys) (sym (takes_one s x xs p.0))))

each_split : (P : Call → Type 0) (xs ys : List Call) → AllByRecursion P (xs ++ ys) → AllByRecursion P xs × AllByRecursion P ys
each_split P [] ys p = (tt, p)
each_split P (x ∷ xs) ys p = let rest = each_split P xs ys p.1 in ((p.0, rest.0), rest.1)

pub open_both : (s : ℕ) (xs ys : List Call) → StaysOpen s xs → StaysOpen s ys → StaysOpen s (xs ++ ys)
open_both s xs ys p q = each_append (λ (x : Call). closes s x ≡ false) xs ys p q

pub open_split : (s : ℕ) (xs ys : List Call) → StaysOpen s (xs ++ ys) → StaysOpen s xs × StaysOpen s ys
open_split s xs ys p = each_split (λ (x : Call). closes s x ≡ false) xs ys p

-- What a connection took so far, with what waits for it, is what it was given; of one that has failed, the rest is lost.
abbrev pub Balance : (t g : List ℕ) → (waiting : List ℕ) (failed : Bool) → Type 0
Balance t g waiting failed = (lost : List ℕ) × ((t ++ (waiting ++ lost) ≡ g) × (failed ≡ false → lost ≡ []))

balance_as : (s t g h w v : List ℕ) (f k : Bool) → s ≡ t → h ≡ g → v ≡ w → k ≡ f → Balance t g w f → Balance s h v k
balance_as s t g h w v f k p q r x b =
    subst (λ (l : List ℕ). Balance l h v k) (sym p)
    (subst (λ (l : List ℕ). Balance t l v k) (sym q) (subst (λ (l : List ℕ). Balance t g l k) (sym r) (subst (λ (z : Bool). Balance t g w z) (sym x) b)))

-- It may have failed behind more calls and bytes, too.
fails_later : (socket : ℕ) (xs ys : List Call) (g more : List ℕ) → MayFail socket xs g → MayFail socket (xs ++ ys) (g ++ more)
fails_later socket xs ys g more f = elim f [
  | inl w ↦ inl (w.0, w.1, w.2 ++ ys, ap (λ (cs : List Call). cs ++ ys) w.3 ∙ append_assoc w.0 (call.write socket w.1 None ∷ w.2) ys)
  | inr over ↦ inr (omega (arith, length-append g more))
]

fails_behind : (socket : ℕ) (xs ys : List Call) (g : List ℕ) → MayFail socket ys g → MayFail socket (xs ++ ys) g
fails_behind socket xs ys g f = elim f [
  | inl w ↦ inl (xs ++ w.0, w.1, w.2, ap (λ (cs : List Call). xs ++ cs) w.3 ∙ sym (append_assoc xs w.0 (call.write socket w.1 None ∷ w.2)))
  | inr over ↦ inr over
]

-- It stands at its place, alone with its number, behind these calls since it came.
pub record Lives (index number : ℕ) (t : List Call) (g : List ℕ) (seats : List Seat) (next : ℕ) : Type 0 where
  pub seat : Seat
  pub conn : Conn
  pub there : slice_get seats index ≡ Some seat
  pub is : seat.conn ≡ Some conn
  pub named : conn.number ≡ number
  pub alone : (j : ℕ) (other : Seat) (its : Conn) → slice_get seats j ≡ Some other → other.conn ≡ Some its → its.number ≡ number → j ≡ index
  pub stays : StaysOpen (seat_socket index) t
  pub balance : Balance (takes (seat_socket index) t) g seat.backlog conn.failed
  pub why : conn.failed ≡ true → MayFail (seat_socket index) t g
  pub below : number < next
  pub limit : next ≤ 2 ^ 64 - 1
  pub places : length seats ≡ 24

pub lives_as : (i n : ℕ) (s t : List Call) (g h : List ℕ) (old new : List Seat) (next after : ℕ) → s ≡ t → h ≡ g → new ≡ old → after ≡ next → Lives i n t g old next → Lives i n s h new after
lives_as i n s t g h old new next after p q r x l =
    subst (λ (k : List Call). Lives i n k h new after) (sym p)
    (subst (λ (k : List ℕ). Lives i n t k new after) (sym q)
    (subst (λ (k : List Seat). Lives i n t g k after) (sym r) (subst (λ (k : ℕ). Lives i n t g old k) (sym x) l)))

-- What one step does at a connection: it is kept, or it is shut.
pub record Keeps (socket : ℕ) (seat : Seat) (conn : Conn) (more : List ℕ) (calls : List Call) (became : Seat) (now : Conn) : Type 0 where
  pub is : became.conn ≡ Some now
  pub named : now.number ≡ conn.number
  pub stays : StaysOpen socket calls
  pub balance : (t g : List ℕ) → Balance t g seat.backlog conn.failed → Balance (t ++ takes socket calls) (g ++ more) became.backlog now.failed
  pub why : (t g : List ℕ) → Balance t g seat.backlog conn.failed → now.failed ≡ true → (conn.failed ≡ true) ⊎ MayFail socket calls (g ++ more)

pub record Shuts (socket : ℕ) (seat : Seat) (calls : List Call) : Type 0 where
  pub cut : (ys : List Call) → takes socket (calls ++ ys) ≡ takes socket calls
  pub shut : StaysOpen socket calls → ⊥
  pub front : (lost : List ℕ) × (takes socket calls ++ lost ≡ seat.backlog)

-- What one step does at the places, where each number is given these bytes.
pub data Moves (old : List Seat) (next : ℕ) (calls : List Call) (given : ℕ → List ℕ) (new : List Seat) (after : ℕ) : Type 0 where
  rests : MissesAll calls → new ≡ old → after ≡ next → ((index : ℕ) (seat : Seat) (conn : Conn) → slice_get old index ≡ Some seat → seat.conn ≡ Some conn → given conn.number ≡ []) → Moves old next calls given new after
  comes : (index : ℕ) (seat : Seat) → slice_get old index ≡ Some seat → seat.conn ≡ None → MissesAll calls → new ≡ slice_set old index (new_seat next) → after ≡ counted next → ((n : ℕ) → given n ≡ []) → Moves old next calls given new after
  idles : (index : ℕ) (seat became : Seat) → slice_get old index ≡ Some seat → seat.conn ≡ None → became.conn ≡ None → MissesOthers (seat_socket index) calls → new ≡ slice_set old index became → after ≡ next → ((n : ℕ) → given n ≡ []) → Moves old next calls given new after
  keeps : (index : ℕ) (seat : Seat) (conn : Conn) (became : Seat) (now : Conn) → slice_get old index ≡ Some seat → seat.conn ≡ Some conn → MissesOthers (seat_socket index) calls → Keeps (seat_socket index) seat conn (given conn.number) calls became now → new ≡ slice_set old index became → after ≡ next → ((n : ℕ) → (n ≡ conn.number → ⊥) → given n ≡ []) → Moves old next calls given new after
  shuts : (index : ℕ) (seat : Seat) (conn : Conn) → slice_get old index ≡ Some seat → seat.conn ≡ Some conn → MissesOthers (seat_socket index) calls → Shuts (seat_socket index) seat calls → new ≡ slice_set old index free_seat → after ≡ next → ((n : ℕ) → given n ≡ []) → Moves old next calls given new after

-- Where one that was followed is then: it still stands, or its socket was closed.
abbrev pub Ends : (socket : ℕ) (t g : List ℕ) → List Call → Type 0
Ends socket t g calls =
    ((ys : List Call) → takes socket (calls ++ ys) ≡ takes socket calls)
    × ((StaysOpen socket calls → ⊥) × ((lost : List ℕ) × ((t ++ takes socket calls) ++ lost ≡ g)))

abbrev pub Reaches : (index number : ℕ) (t : List Call) (g : List ℕ) → List Call → (seats : List Seat) (next : ℕ) → Type 0
Reaches index number t g calls seats next =
    (StaysOpen (seat_socket index) calls × Lives index number (t ++ calls) g seats next) ⊎ Ends (seat_socket index) (takes (seat_socket index) t) g calls

-- Nothing was taken and nothing was given.
took_none : (s : ℕ) (t calls : List Call) → StaysOpen s t → AreMissed s calls → takes s (t ++ calls) ≡ takes s t
took_none s t calls o m = takes_both s t calls o ∙ (ap (λ (l : List ℕ). takes s t ++ l) (missed_takes s calls m) ∙ append-nil (takes s t))

gave_none : (g more : List ℕ) → more ≡ [] → g ++ more ≡ g
gave_none g more e = ap (λ (l : List ℕ). g ++ l) e ∙ append-nil g

-- A step at another place.
other_lives : (i n : ℕ) (t : List Call) (g : List ℕ) (old : List Seat) (next : ℕ) (calls : List Call) (more : List ℕ) (new : List Seat) (after index : ℕ) (became : Seat) → Lives i n t g old next → (index ≡ i → ⊥) → new ≡ slice_set old index became → AreMissed (seat_socket i) calls → more ≡ [] → ((its : Conn) → became.conn ≡ Some its → its.number ≡ n → ⊥) → n < after → after ≤ 2 ^ 64 - 1 → Reaches i n t (g ++ more) calls new after
other_lives i n t g old next calls more new after index became l far e missed none other below limit = inl (
  missed_open (seat_socket i) calls missed,
  record {
    seat = l.seat;
    conn = l.conn;
    there = ap (λ (s : List Seat). slice_get s i) e ∙ (get_other old index i became far ∙ l.there);
    is = l.is;
    named = l.named;
    alone = λ (j : ℕ) (o : Seat) (its : Conn) at is same. elim (eqb_tells index j) [
      | inl here ↦
          let here_is : slice_get (slice_set old index became) index ≡ Some o = ap (λ (k : ℕ). slice_get (slice_set old index became) k) here.1 ∙ (sym (ap (λ (s : List Seat). slice_get s j) e) ∙ at) in
          absurd (other its (sym (ap (λ (x : Seat). x.conn) (got_set old index became o here_is)) ∙ is) same)
      | inr away ↦ l.alone j o its (sym (get_other old index j became away.1) ∙ (sym (ap (λ (s : List Seat). slice_get s j) e) ∙ at)) is same
    ];
    stays = open_both (seat_socket i) t calls l.stays (missed_open (seat_socket i) calls missed);
    balance = balance_as (takes (seat_socket i) (t ++ calls)) (takes (seat_socket i) t) g (g ++ more) l.seat.backlog l.seat.backlog l.conn.failed l.conn.failed (took_none (seat_socket i) t calls l.stays missed) (gave_none g more none) refl refl l.balance;
    why = λ bad. fails_later (seat_socket i) t calls g more (l.why bad);
    below = below;
    limit = limit;
    places = ap (λ (s : List Seat). length s) e ∙ (length-set old index became ∙ l.places);
  },
)

-- A step at its own place.
here_lives : (i n : ℕ) (t : List Call) (g : List ℕ) (old : List Seat) (next : ℕ) (calls : List Call) (more : List ℕ) (new : List Seat) (after : ℕ) (seat : Seat) (conn : Conn) (became : Seat) (now : Conn) → Lives i n t g old next → slice_get old i ≡ Some seat → seat.conn ≡ Some conn → Keeps (seat_socket i) seat conn more calls became now → new ≡ slice_set old i became → after ≡ next → Reaches i n t (g ++ more) calls new after
here_lives i n t g old next calls more new after seat conn became now l there is k e same =
    let seats : seat ≡ l.seat = (let p = l.there in cc) in
    let conns : conn ≡ l.conn = (let p = l.is in cc) in
    let name : now.number ≡ n = k.named ∙ (ap (λ (c : Conn). c.number) conns ∙ l.named) in
    let before : Balance (takes (seat_socket i) t) g seat.backlog conn.failed =
    balance_as (takes (seat_socket i) t) (takes (seat_socket i) t) g g l.seat.backlog seat.backlog l.conn.failed conn.failed refl refl (ap (λ (x : Seat). x.backlog) seats) (ap (λ (c : Conn). c.failed) conns) l.balance in
    inl (
      k.stays,
      record {
        seat = became;
        conn = now;
        there = ap (λ (s : List Seat). slice_get s i) e ∙ get_set old i seat became there;
        is = k.is;
        named = name;
        alone = λ (j : ℕ) (o : Seat) (its : Conn) at has same. elim (eqb_tells i j) [
          | inl here ↦ sym here.1
          | inr away ↦ l.alone j o its (sym (get_other old i j became away.1) ∙ (sym (ap (λ (s : List Seat). slice_get s j) e) ∙ at)) has same
        ];
        stays = open_both (seat_socket i) t calls l.stays k.stays;
        balance = balance_as (takes (seat_socket i) (t ++ calls)) (takes (seat_socket i) t ++ takes (seat_socket i) calls) (g ++ more) (g ++ more) became.backlog became.backlog now.failed now.failed (takes_both (seat_socket i) t calls l.stays) refl refl refl (k.balance (takes (seat_socket i) t) g before);
        why = λ bad. elim (k.why (takes (seat_socket i) t) g before bad) [
          | inl was ↦ fails_later (seat_socket i) t calls g more (l.why (sym (ap (λ (c : Conn). c.failed) conns) ∙ was))
          | inr now_bad ↦ fails_behind (seat_socket i) t calls (g ++ more) now_bad
        ];
        below = subst (λ (x : ℕ). n < x) (sym same) l.below;
        limit = subst (λ (x : ℕ). x ≤ 2 ^ 64 - 1) (sym same) l.limit;
        places = ap (λ (s : List Seat). length s) e ∙ (length-set old i became ∙ l.places);
      },
    )

here_ends : (i n : ℕ) (t : List Call) (g : List ℕ) (old : List Seat) (next : ℕ) (calls : List Call) (more : List ℕ) (seat : Seat) → Lives i n t g old next → slice_get old i ≡ Some seat → Shuts (seat_socket i) seat calls → more ≡ [] → Ends (seat_socket i) (takes (seat_socket i) t) (g ++ more) calls
here_ends i n t g old next calls more seat l there s none =
    let seats : seat ≡ l.seat = (let p = l.there in cc) in
    let b = l.balance in
    let lost = s.front in (
      s.cut,
      (
        s.shut,
        (
          lost.0 ++ b.0,
          append_assoc (takes (seat_socket i) t) (takes (seat_socket i) calls) (lost.0 ++ b.0)
              ∙ (ap (λ (l : List ℕ). takes (seat_socket i) t ++ l) (sym (append_assoc (takes (seat_socket i) calls) lost.0 b.0) ∙ ap (λ (l : List ℕ). l ++ b.0) (lost.1 ∙ ap (λ (x : Seat). x.backlog) seats))
              ∙ (b.1.0 ∙ sym (gave_none g more none))),
        ),
      ),
    )

-- The place of another connection is another place, with another number.
far_from : (i n : ℕ) (t : List Call) (g : List ℕ) (old : List Seat) (next index : ℕ) (seat : Seat) → Lives i n t g old next → slice_get old index ≡ Some seat → seat.conn ≡ None → index ≡ i → ⊥
far_from i n t g old next index seat l there none e =
    let at : slice_get old i ≡ Some seat = ap (λ (k : ℕ). slice_get old k) (sym e) ∙ there in
    let p = l.there in
    let q = l.is in
    let seats : seat ≡ l.seat = (cc) in
    (cc)

missed_at : (i index : ℕ) (calls : List Call) → i < 24 → index < 24 → (index ≡ i → ⊥) → MissesOthers (seat_socket index) calls → AreMissed (seat_socket i) calls
missed_at i index calls p q n m = m (seat_socket i) (places_differ i index p q (λ e. n (sym e)))

inside : (i n : ℕ) (t : List Call) (g : List ℕ) (old : List Seat) (next index : ℕ) (seat : Seat) → Lives i n t g old next → slice_get old index ≡ Some seat → index < 24
inside i n t g old next index seat l there = subst (λ (k : ℕ). index < k) l.places (slice_get_within old index seat there)

lives_more : (i n : ℕ) (t : List Call) (g : List ℕ) (old : List Seat) (next : ℕ) (calls : List Call) → AreMissed (seat_socket i) calls → Lives i n t g old next → Lives i n (t ++ calls) g old next
lives_more i n t g old next calls missed l = record {
  seat = l.seat;
  conn = l.conn;
  there = l.there;
  is = l.is;
  named = l.named;
  alone = l.alone;
  stays = open_both (seat_socket i) t calls l.stays (missed_open (seat_socket i) calls missed);
  balance = balance_as (takes (seat_socket i) (t ++ calls)) (takes (seat_socket i) t) g g l.seat.backlog l.seat.backlog l.conn.failed l.conn.failed (took_none (seat_socket i) t calls l.stays missed) refl refl refl l.balance;
  why = λ bad. subst (λ (h : List ℕ). MayFail (seat_socket i) (t ++ calls) h) (append-nil g) (fails_later (seat_socket i) t calls g [] (l.why bad));
  below = l.below;
  limit = l.limit;
  places = l.places;
}

pub move_lives : (i n : ℕ) (t : List Call) (g : List ℕ) (old : List Seat) (next : ℕ) (calls : List Call) (given : ℕ → List ℕ) (new : List Seat) (after : ℕ) → Moves old next calls given new after → Lives i n t g old next → Reaches i n t (g ++ given n) calls new after
move_lives i n t g old next calls given new after (rests m same still none) l =
    let missed = m (seat_socket i) (place_is i (inside i n t g old next i l.seat l l.there)) in
    let nothing : given n ≡ [] = ap given (sym l.named) ∙ none i l.seat l.conn l.there l.is in
    inl (missed_open (seat_socket i) calls missed, lives_as i n (t ++ calls) (t ++ calls) g (g ++ given n) old new next after refl (gave_none g (given n) nothing) same still (lives_more i n t g old next calls missed l))
move_lives i n t g old next calls given new after (comes index seat there free m e up none) l =
    let missed = m (seat_socket i) (place_is i (inside i n t g old next i l.seat l l.there)) in
    let under = l.below in
    let top = l.limit in
    other_lives i n t g old next calls (given n) new after index (new_seat next) l (far_from i n t g old next index seat l there free) e missed (none n) (λ (its : Conn) is same. let named : its.number ≡ next = (cc) in omega arith) (omega arith) (omega arith)
move_lives i n t g old next calls given new after (idles index seat became there free gone m e still none) l =
    let far = far_from i n t g old next index seat l there free in
    let missed = missed_at i index calls (inside i n t g old next i l.seat l l.there) (inside i n t g old next index seat l there) far m in
    other_lives i n t g old next calls (given n) new after index became l far e missed (none n) (λ (its : Conn) is same. (cc)) (subst (λ (x : ℕ). n < x) (sym still) l.below) (subst (λ (x : ℕ). x ≤ 2 ^ 64 - 1) (sym still) l.limit)
move_lives i n t g old next calls given new after (keeps index seat conn became now there is m k e still none) l = elim (eqb_tells index i) [
  | inl here ↦
      let at : slice_get old i ≡ Some seat = ap (λ (x : ℕ). slice_get old x) (sym here.1) ∙ there in
      let p = l.there in
      let q = l.is in
      let name : conn.number ≡ n = (let z : seat ≡ l.seat = (cc) in let c : conn ≡ l.conn = (cc) in ap (λ (x : Conn). x.number) c ∙ l.named) in
      let k' : Keeps (seat_socket i) seat conn (given n) calls became now = subst (λ (x : ℕ). Keeps (seat_socket i) seat conn (given x) calls became now) name (subst (λ (x : ℕ). Keeps (seat_socket x) seat conn (given conn.number) calls became now) here.1 k) in
      here_lives i n t g old next calls (given n) new after seat conn became now l at is k' (e ∙ ap (λ (x : ℕ). slice_set old x became) here.1) still
  | inr away ↦
      let missed = missed_at i index calls (inside i n t g old next i l.seat l l.there) (inside i n t g old next index seat l there) away.1 m in
      let other : n ≡ conn.number → ⊥ = λ same. away.1 (l.alone index seat conn there is (sym same)) in
      other_lives i n t g old next calls (given n) new after index became l away.1 e missed (none n other)
      (λ (its : Conn) has same. other (sym same ∙ (ap (λ (x : Conn). x.number) (let p = k.is in let z : its ≡ now = (cc) in z) ∙ k.named)))
      (subst (λ (x : ℕ). n < x) (sym still) l.below)
      (subst (λ (x : ℕ). x ≤ 2 ^ 64 - 1) (sym still) l.limit)
]
move_lives i n t g old next calls given new after (shuts index seat conn there is m k e still none) l = elim (eqb_tells index i) [
  | inl here ↦
      let at : slice_get old i ≡ Some seat = ap (λ (x : ℕ). slice_get old x) (sym here.1) ∙ there in
      inr (here_ends i n t g old next calls (given n) seat l at (subst (λ (x : ℕ). Shuts (seat_socket x) seat calls) here.1 k) (none n))
  | inr away ↦
      let missed = missed_at i index calls (inside i n t g old next i l.seat l l.there) (inside i n t g old next index seat l there) away.1 m in
      other_lives i n t g old next calls (given n) new after index free_seat l away.1 e missed (none n) (λ (its : Conn) has same. (cc)) (subst (λ (x : ℕ). n < x) (sym still) l.below) (subst (λ (x : ℕ). x ≤ 2 ^ 64 - 1) (sym still) l.limit)
]

-- Calls behind calls.
pub reach_then : (i n : ℕ) (t : List Call) (g h : List ℕ) (xs ys : List Call) (mid seats : List Seat) (between next : ℕ) → Reaches i n t g xs mid between → ((s : List Call) → Lives i n s g mid between → Reaches i n s (g ++ h) ys seats next) → Reaches i n t (g ++ h) (xs ++ ys) seats next
reach_then i n t g h xs ys mid seats between next r k = elim r [
  | inl up ↦
      let both = takes_both (seat_socket i) xs ys up.0 in
      let before = (open_split (seat_socket i) t xs up.1.stays).0 in
      let all : takes (seat_socket i) t ++ takes (seat_socket i) (xs ++ ys) ≡ takes (seat_socket i) (t ++ xs) ++ takes (seat_socket i) ys =
      ap (λ (l : List ℕ). takes (seat_socket i) t ++ l) both
      ∙ (sym (append_assoc (takes (seat_socket i) t) (takes (seat_socket i) xs) (takes (seat_socket i) ys))
      ∙ ap (λ (l : List ℕ). l ++ takes (seat_socket i) ys) (sym (takes_both (seat_socket i) t xs before))) in
      elim (k (t ++ xs) up.1) [
        | inl on ↦ inl (open_both (seat_socket i) xs ys up.0 on.0, subst (λ (l : List Call). Lives i n l (g ++ h) seats next) (append_assoc t xs ys) on.1)
        | inr end ↦ inr (
          λ zs.
              ap (λ (cs : List Call). takes (seat_socket i) cs) (append_assoc xs ys zs)
              ∙ (takes_both (seat_socket i) xs (ys ++ zs) up.0 ∙ (ap (λ (l : List ℕ). takes (seat_socket i) xs ++ l) (end.0 zs) ∙ sym both)),
          (λ o. end.1.0 (open_split (seat_socket i) xs ys o).1, (end.1.1.0, ap (λ (l : List ℕ). l ++ end.1.1.0) all ∙ end.1.1.1)),
        )
      ]
  | inr end ↦ inr (
    λ zs. ap (λ (cs : List Call). takes (seat_socket i) cs) (append_assoc xs ys zs) ∙ (end.0 (ys ++ zs) ∙ sym (end.0 ys)),
    (
      λ o. end.1.0 (open_split (seat_socket i) xs ys o).0,
      (
        end.1.1.0 ++ h,
        ap (λ (l : List ℕ). (takes (seat_socket i) t ++ l) ++ (end.1.1.0 ++ h)) (end.0 ys)
            ∙ (sym (append_assoc (takes (seat_socket i) t ++ takes (seat_socket i) xs) end.1.1.0 h) ∙ ap (λ (l : List ℕ). l ++ h) end.1.1.1),
      ),
    ),
  )
]

-- The numbers at the places stay in order.
set_numbered : (old : List Seat) (next : ℕ) (new : List Seat) (after index : ℕ) (became : Seat) → IsNumbered old next → new ≡ slice_set old index became → ((its : Conn) → became.conn ≡ Some its → after < 2 ^ 64 - 1 → its.number < after) → (after < 2 ^ 64 - 1 → (next < 2 ^ 64 - 1) × (next ≤ after)) → after ≤ 2 ^ 64 - 1 → IsNumbered new after
set_numbered old next new after index became o e own up top = record {
  places = ap (λ (s : List Seat). length s) e ∙ (length-set old index became ∙ o.places);
  limit = top;
  below = λ room (j : ℕ) (seat : Seat) (conn : Conn) there is. elim (eqb_tells index j) [
    | inl here ↦
        let here_is : slice_get (slice_set old index became) index ≡ Some seat = ap (λ (k : ℕ). slice_get (slice_set old index became) k) here.1 ∙ (sym (ap (λ (s : List Seat). slice_get s j) e) ∙ there) in
        own conn (sym (ap (λ (x : Seat). x.conn) (got_set old index became seat here_is)) ∙ is) room
    | inr away ↦
        let was : slice_get old j ≡ Some seat = sym (get_other old index j became away.1) ∙ (sym (ap (λ (s : List Seat). slice_get s j) e) ∙ there) in
        let more = up room in
        let its : conn.number < next = o.below more.0 j seat conn was is in
        let most : next ≤ after = more.1 in
        omega arith
  ];
}

pub numbered_as : (old new : List Seat) (next after : ℕ) → new ≡ old → after ≡ next → IsNumbered old next → IsNumbered new after
numbered_as old new next after p q o = subst (λ (s : List Seat). IsNumbered s after) (sym p) (subst (λ (n : ℕ). IsNumbered old n) (sym q) o)

same_room : (next after : ℕ) → after ≡ next → after < 2 ^ 64 - 1 → (next < 2 ^ 64 - 1) × (next ≤ after)
same_room next after e p = (omega arith, omega arith)

more_room : (next after : ℕ) → after ≡ counted next → after < 2 ^ 64 - 1 → (next < 2 ^ 64 - 1) × (next ≤ after)
more_room next after e p = (omega arith, omega arith)

pub move_numbered : (old : List Seat) (next : ℕ) (calls : List Call) (given : ℕ → List ℕ) (new : List Seat) (after : ℕ) → Moves old next calls given new after → IsNumbered old next → IsNumbered new after
move_numbered old next calls given new after (rests m same still none) o = numbered_as old new next after same still o
move_numbered old next calls given new after (comes index seat there free m e up none) o =
    let top = o.limit in
    set_numbered old next new after index (new_seat next) o e (λ (its : Conn) is room. let named : its.number ≡ next = (cc) in omega arith) (more_room next after up) (omega arith)
move_numbered old next calls given new after (idles index seat became there free gone m e still none) o =
    let top = o.limit in
    set_numbered old next new after index became o e (λ (its : Conn) is room. (cc)) (same_room next after still) (omega arith)
move_numbered old next calls given new after (keeps index seat conn became now there is m k e still none) o =
    let top = o.limit in
    set_numbered old next new after index became o e
    (λ (its : Conn) has room.
    let p = k.is in
    let same : its ≡ now = (cc) in
    let named : its.number ≡ conn.number = ap (λ (x : Conn). x.number) same ∙ k.named in
    let under : conn.number < next = o.below (same_room next after still room).0 index seat conn there is in
    omega arith)
    (same_room next after still) (omega arith)
move_numbered old next calls given new after (shuts index seat conn there is m k e still none) o =
    let top = o.limit in
    set_numbered old next new after index free_seat o e (λ (its : Conn) has room. (cc)) (same_room next after still) (omega arith)
