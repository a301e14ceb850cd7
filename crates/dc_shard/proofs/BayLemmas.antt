-- Lists of bays.
use Rattle.std.proofs.Common.{◌≡◌, ℕ, zero, suc, ◌+◌, ◌<◌, ◌≤◌, Bool, true, false, List, [], ◌∷◌, length, map, slice_set, slice_index_or, refl, sym, ◌∙◌, ap, subst, arith}
use Rattle.std.specs.Prelude.{All}
use Rattle.std.proofs.lemmas.List.Elements.{All-nil, All-cons}
use Rattle.std.specs.declared.option.Option.{Option}
use Rattle.std.specs.declared.option.Option.TheVariants.{None}
use Rattle.dc_model.specs.Event.{Event, Kind, Action, tick, request, datagram, link_up, link_bytes, link_down, bind_refused, conn_up, conn_bytes, conn_down}
use Rattle.dc_engine.specs.Automaton.{Automaton}
use Rattle.dc_engine.specs.View.{kind_of, event_of}
use Rattle.dc_engine.specs.declared.events.Event.{Event as CodeEvent}
use Rattle.dc_split.specs.Routing.{core_by, inner, number_by}
use Rattle.dc_split.specs.Split.{due_from, due_core, given_at, route}
use Rattle.dc_split.specs.Round.{Given}
use Rattle.dc_shard.specs.Taped.{Taped}
use Rattle.dc_shard.specs.Rounds.{AreBlank, AreWhole, Cleared, held_at}
use Rattle.dc_shard.specs.declared.bay.Bay.{Bay}
use Rattle.dc_shard.specs.Bays.{given_if, given_of, givens_of, states_of, outs_of, MayStep, MayStepEach, Stepped, SteppedEach, AreFree, one_if, count_given}

module _ {E O : Type 0} where
  -- One bay is changed.

  pub set_states : {S : Type 0} (state : E → S) (bs : List (Bay E O)) (i : ℕ) (b d : Bay E O) → i < length bs → state b.core ≡ state (slice_index_or bs i d).core
      → states_of state (slice_set bs i b) ≡ states_of state bs
  set_states state [] i b d l e = absurd (omega (arith, l))
  set_states state (x ∷ xs) zero b d l e = ap (λ s. s ∷ states_of state xs) e
  set_states state (x ∷ xs) (suc i) b d l e = ap (λ ss. state x.core ∷ ss) (set_states state xs i b d (omega (arith, l)) e)

  pub set_outs : (bs : List (Bay E O)) (i : ℕ) (b d : Bay E O) → i < length bs → b.out ≡ (slice_index_or bs i d).out → outs_of (slice_set bs i b) ≡ outs_of bs
  set_outs [] i b d l e = absurd (omega (arith, l))
  set_outs (x ∷ xs) zero b d l e = ap (λ o. o ∷ outs_of xs) e
  set_outs (x ∷ xs) (suc i) b d l e = ap (λ os. x.out ∷ os) (set_outs xs i b d (omega (arith, l)) e)

  pub set_givens : (bs : List (Bay E O)) (i : ℕ) (b : Bay E O) (given : Option Given) → i < length bs → given_of b ≡ given → givens_of (slice_set bs i b) ≡ slice_set (givens_of bs) i given
  set_givens [] i b given l e = absurd (omega (arith, l))
  set_givens (x ∷ xs) zero b given l e = ap (λ g. g ∷ givens_of xs) e
  set_givens (x ∷ xs) (suc i) b given l e = ap (λ gs. given_of x ∷ gs) (set_givens xs i b given (omega (arith, l)) e)

  pub set_count : (bs : List (Bay E O)) (i : ℕ) (b d : Bay E O) → i < length bs → b.given ≡ true → (slice_index_or bs i d).given ≡ false → count_given (slice_set bs i b) ≡ count_given bs + 1
  set_count [] i b d l e f = absurd (omega (arith, l))
  set_count (x ∷ xs) zero b d l e f =
      let one : one_if b.given ≡ 1 = ap one_if e in
      let none : one_if x.given ≡ 0 = ap one_if f in
      omega (arith, one, none)
  set_count (x ∷ xs) (suc i) b d l e f = omega (arith, set_count xs i b d (omega (arith, l)) e f)

  -- A bay that isn't given an event is none of those that are.
  pub room_left : (bs : List (Bay E O)) (i : ℕ) (d : Bay E O) → i < length bs → (slice_index_or bs i d).given ≡ false → count_given bs < length bs
  room_left [] i d l f = absurd (omega (arith, l))
  room_left (x ∷ xs) zero d l f = let none : one_if x.given ≡ 0 = ap one_if f in omega (arith, none, count_most xs)
    where
      one_most : (b : Bool) → one_if b ≤ 1
      one_most true = omega arith
      one_most false = omega arith

      count_most : (bs : List (Bay E O)) → count_given bs ≤ length bs
      count_most [] = omega arith
      count_most (x ∷ xs) = omega (arith, one_most x.given, count_most xs)
  room_left (x ∷ xs) (suc i) d l f = omega (arith, at_most x.given, room_left xs i d (omega (arith, l)) f)
    where
      at_most : (b : Bool) → one_if b ≤ 1
      at_most true = omega arith
      at_most false = omega arith

  -- Bays that are given no event.

  pub free_at : (bs : List (Bay E O)) (i : ℕ) (d : Bay E O) → AreFree bs → i < length bs → (slice_index_or bs i d).given ≡ false
  free_at [] i d h l = absurd (omega (arith, l))
  free_at (x ∷ xs) zero d h l = h.0
  free_at (x ∷ xs) (suc i) d h l = free_at xs i d h.1 (omega (arith, l))

  pub set_free : (bs : List (Bay E O)) (i : ℕ) (b d : Bay E O) → i < length bs → b.given ≡ (slice_index_or bs i d).given → AreFree bs → AreFree (slice_set bs i b)
  set_free [] i b d l e h = absurd (omega (arith, l))
  set_free (x ∷ xs) zero b d l e h = (e ∙ h.0, h.1)
  set_free (x ∷ xs) (suc i) b d l e h = (h.0, set_free xs i b d (omega (arith, l)) e h.1)

  pub free_count : (bs : List (Bay E O)) → AreFree bs → count_given bs ≡ 0
  free_count [] h = refl
  free_count (x ∷ xs) h = let none : one_if x.given ≡ 0 = ap one_if h.0 in omega (arith, none, free_count xs h.1)

  -- What is given to one of them.
  pub given_none : (bs : List (Bay E O)) (i : ℕ) (d : Bay E O) (g : Option Given) → i < length bs → (slice_index_or bs i d).given ≡ false → slice_index_or (givens_of bs) i g ≡ None
  given_none [] i d g l f = absurd (omega (arith, l))
  given_none (x ∷ xs) zero d g l f = ap (λ b. given_if b x.inbox x.draws) f
  given_none (x ∷ xs) (suc i) d g l f = given_none xs i d g (omega (arith, l)) f

  pub given_nothing : (bs : List (Bay E O)) (i : ℕ) (g : Option Given) → i < length bs → ((d : Bay E O) → (slice_index_or bs i d).given ≡ false) → slice_index_or (givens_of bs) i g ≡ None
  given_nothing [] i g l f = absurd (omega (arith, l))
  given_nothing (x ∷ xs) i g l f = given_none (x ∷ xs) i x g l (f x)

  pub room_for : (bs : List (Bay E O)) (i : ℕ) → i < length bs → ((d : Bay E O) → (slice_index_or bs i d).given ≡ false) → count_given bs < length bs
  room_for [] i l f = absurd (omega (arith, l))
  room_for (x ∷ xs) i l f = room_left (x ∷ xs) i x l (f x)

  free_from_at : (bs : List (Bay E O)) (i : ℕ) (x d : Bay E O) → i < length bs → (slice_index_or bs i x).given ≡ false → (slice_index_or bs i d).given ≡ false
  free_from_at [] i x d l f = absurd (omega (arith, l))
  free_from_at (y ∷ ys) zero x d l f = f
  free_from_at (y ∷ ys) (suc i) x d l f = free_from_at ys i x d (omega (arith, l)) f

  pub free_from : (bs : List (Bay E O)) (i : ℕ) (x : Bay E O) → i < length bs → x ≡ slice_index_or bs i x → x.given ≡ false → (d : Bay E O) → (slice_index_or bs i d).given ≡ false
  free_from bs i x l e f d = free_from_at bs i x d l (sym (ap (λ b. b.given) e) ∙ f)

  -- The first core's opening.
  pub opening_first : {S : Type 0} (state : E → S) (f : S → List Action) (bs : List (Bay E O)) (d : Bay E O) → 0 < length bs → given_at 0 f (states_of state bs) ≡ f (state (slice_index_or bs 0 d).core)
  unfolding given_at
  opening_first state f [] d l = absurd (omega (arith, l))
  opening_first state f (x ∷ xs) d l = refl

  -- Lengths.

  pub length_states : {S : Type 0} (state : E → S) (bs : List (Bay E O)) → length (states_of state bs) ≡ length bs
  length_states state [] = refl
  length_states state (x ∷ xs) = ap suc (length_states state xs)

  pub length_givens : (bs : List (Bay E O)) → length (givens_of bs) ≡ length bs
  length_givens [] = refl
  length_givens (x ∷ xs) = ap suc (length_givens xs)

  -- All of them make their steps.

  pub may_each : {S : Type 0} (m : Automaton S) (state : E → S) (n : ℕ) (bs : List (Bay E O)) → MayStepEach m n (states_of state bs) → All (λ b. MayStep m n (state b.core)) bs
  may_each m state n [] h = All-nil (λ b. MayStep m n (state b.core))
  may_each m state n (x ∷ xs) h = All-cons (λ b. MayStep m n (state b.core)) x xs h.0 (may_each m state n xs h.1)

  pub stepped_by_place : {S : Type 0} (acted : O → List Action → O → Type 0) (m : Automaton S) (state : E → S) (cores from : ℕ) (old new : List (Bay E O)) → length new ≡ length old
      → ((i : ℕ) (d : Bay E O) → i < length old → Stepped acted m state cores (from + i) (slice_index_or old i d) (slice_index_or new i d)) → SteppedEach acted m state cores from old new
  stepped_by_place acted m state cores from [] [] e h = tt
  stepped_by_place acted m state cores from [] (c ∷ cs) e h = absurd (omega (arith, e))
  stepped_by_place acted m state cores from (b ∷ bs) [] e h = absurd (omega (arith, e))
  stepped_by_place acted m state cores from (b ∷ bs) (c ∷ cs) e h =
      let here : from + 0 ≡ from = omega arith in (
        subst (λ n. Stepped acted m state cores n b c) here (h 0 b (omega arith)),
        stepped_by_place acted m state cores (from + 1) bs cs (omega (arith, e)) (λ i d l.
            let there : from + suc i ≡ from + 1 + i = omega arith in
            subst (λ n. Stepped acted m state cores n (slice_index_or bs i d) (slice_index_or cs i d)) there (h (suc i) d (omega (arith, l)))),
      )

  pub stepped_from_first : {S : Type 0} (acted : O → List Action → O → Type 0) (m : Automaton S) (state : E → S) (cores : ℕ) (old new : List (Bay E O)) → length new ≡ length old
      → ((i : ℕ) (d : Bay E O) → i < length old → Stepped acted m state cores i (slice_index_or old i d) (slice_index_or new i d)) → SteppedEach acted m state cores 0 old new
  stepped_from_first acted m state cores old new e h = stepped_by_place acted m state cores 0 old new e (λ i d l.
      let same : i ≡ 0 + i = omega arith in
      subst (λ n. Stepped acted m state cores n (slice_index_or old i d) (slice_index_or new i d)) same (h i d l))

  pub stepped_length : {S : Type 0} (acted : O → List Action → O → Type 0) (m : Automaton S) (state : E → S) (cores from : ℕ) (old new : List (Bay E O)) → SteppedEach acted m state cores from old new → length new ≡ length old
  stepped_length acted m state cores from [] [] h = refl
  stepped_length acted m state cores from [] (c ∷ cs) h = absurd h
  stepped_length acted m state cores from (b ∷ bs) [] h = absurd h
  stepped_length acted m state cores from (b ∷ bs) (c ∷ cs) h = ap suc (stepped_length acted m state cores (from + 1) bs cs h.1)

  pub stepped_free : {S : Type 0} (acted : O → List Action → O → Type 0) (m : Automaton S) (state : E → S) (cores from : ℕ) (old new : List (Bay E O)) → SteppedEach acted m state cores from old new → AreFree new
  stepped_free acted m state cores from [] [] h = tt
  stepped_free acted m state cores from [] (c ∷ cs) h = absurd h
  stepped_free acted m state cores from (b ∷ bs) [] h = absurd h
  stepped_free acted m state cores from (b ∷ bs) (c ∷ cs) h = (h.0.free, stepped_free acted m state cores (from + 1) bs cs h.1)

module _ {E : Type 0} where
  -- Tapes.

  pub whole_at : (bs : List (Bay E Taped)) (i : ℕ) (d : Bay E Taped) → AreWhole (outs_of bs) → i < length bs → (slice_index_or bs i d).out.short ≡ false
  whole_at [] i d h l = absurd (omega (arith, l))
  whole_at (x ∷ xs) zero d h l = h.0
  whole_at (x ∷ xs) (suc i) d h l = whole_at xs i d h.1 (omega (arith, l))

  pub held_is : (bs : List (Bay E Taped)) (i : ℕ) (d : Bay E Taped) → i < length bs → held_at i (outs_of bs) ≡ (slice_index_or bs i d).out.actions
  unfolding held_at
  held_is [] i d l = absurd (omega (arith, l))
  held_is (x ∷ xs) zero d l = refl
  held_is (x ∷ xs) (suc i) d l = held_is xs i d (omega (arith, l))

  pub cleared_blank : (old new : List (Bay E Taped)) → Cleared old new → AreBlank (outs_of new)
  cleared_blank [] [] h = tt
  cleared_blank [] (c ∷ cs) h = absurd h
  cleared_blank (b ∷ bs) [] h = absurd h
  cleared_blank (b ∷ bs) (c ∷ cs) h = (ap (λ x. x.out) h.0, cleared_blank bs cs h.1)

  pub cleared_free : (old new : List (Bay E Taped)) → Cleared old new → AreFree old → AreFree new
  cleared_free [] [] h f = tt
  cleared_free [] (c ∷ cs) h f = absurd h
  cleared_free (b ∷ bs) [] h f = absurd h
  cleared_free (b ∷ bs) (c ∷ cs) h f = (ap (λ x. x.given) h.0 ∙ f.0, cleared_free bs cs h.1 f.1)

  pub cleared_states : {S : Type 0} (state : E → S) (old new : List (Bay E Taped)) → Cleared old new → states_of state new ≡ states_of state old
  cleared_states state [] [] h = refl
  cleared_states state [] (c ∷ cs) h = absurd h
  cleared_states state (b ∷ bs) [] h = absurd h
  cleared_states state (b ∷ bs) (c ∷ cs) h = λ i. state (ap (λ x. x.core) h.0 i) ∷ cleared_states state bs cs h.1 i

  pub cleared_length : (old new : List (Bay E Taped)) → Cleared old new → length new ≡ length old
  cleared_length [] [] h = refl
  cleared_length [] (c ∷ cs) h = absurd h
  cleared_length (b ∷ bs) [] h = absurd h
  cleared_length (b ∷ bs) (c ∷ cs) h = ap suc (cleared_length bs cs h.1)

-- Where an event goes, and how its core sees it.

-- Where an event goes that is no tick, nothing that is due matters.
pub no_tick : (k : Kind) (cores d due : ℕ) (e : Event) → (k ≡ tick → ⊥) → core_by k cores d e ≡ core_by k cores due e
unfolding core_by
no_tick tick cores d due e h = absurd (h refl)
no_tick request cores d due e h = refl
no_tick datagram cores d due e h = refl
no_tick link_up cores d due e h = refl
no_tick link_bytes cores d due e h = refl
no_tick link_down cores d due e h = refl
no_tick bind_refused cores d due e h = refl
no_tick conn_up cores d due e h = refl
no_tick conn_bytes cores d due e h = refl
no_tick conn_down cores d due e h = refl

pub inner_as : (cores n : ℕ) (e : CodeEvent) (m : Event) (bytes : List ℕ) → event_of e m.bytes ≡ m → bytes ≡ m.bytes → n ≡ number_by (kind_of e.kind) cores e.id
    → event_of (record e { id = n }) bytes ≡ inner cores m
inner_as cores n e m bytes is same number =
    (λ i. record { now = e.now; kind = kind_of e.kind; id = number i; addr = e.addr; port = e.port; bytes = same i }) ∙ ap (inner cores) is

pub tick_as : {S : Type 0} (m : Automaton S) (ss : List S) (due : ℕ) (e : Event) → e.kind ≡ tick → due ≡ due_core (due_from 0 (map m.wake ss)) → due ≡ route m ss e
unfolding route core_by
tick_as m ss due e kind d = d ∙ sym (ap (λ k. core_by k (length ss) (due_core (due_from 0 (map m.wake ss))) e) kind)

pub other_as : {S : Type 0} (m : Automaton S) (ss : List S) (cores core : ℕ) (e : Event) → core ≡ core_by e.kind cores 0 e → cores ≡ length ss → (e.kind ≡ tick → ⊥) → core ≡ route m ss e
unfolding route
other_as m ss cores core e is n away = is ∙ (λ i. core_by e.kind (n i) 0 e) ∙ no_tick e.kind (length ss) 0 (due_core (due_from 0 (map m.wake ss))) e away
