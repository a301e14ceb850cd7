-- A round comes to what its events come to one after another.
use Rattle.std.proofs.Common.{◌≡◌, ◌≢◌, ℕ, zero, suc, ◌+◌, ◌<◌, true, false, cond, ◌==◌, List, [], ◌∷◌, ◌++◌, length, map, refl, sym, ◌∙◌, ap, subst, arith}
use Rattle.std.proofs.lemmas.Bool.Decides.{nat_tests}
use Rattle.std.specs.declared.option.Option.TheVariants.{None, Some}
use Rattle.dc_model.specs.Event.{Event, Kind, tick, request, datagram, link_up, link_bytes, link_down, bind_refused, conn_up, conn_bytes, conn_down}
use Rattle.dc_engine.specs.Automaton.{Automaton, state_after, actions_of}
use Rattle.dc_split.specs.Routing.{core_by, inner, all_outer}
use Rattle.dc_split.specs.Split.{due_from, due_core, changed, given_at, route, next_at, actions_at, split}
use Rattle.dc_split.specs.Round.{done_by, round, states_of, Hand, hands_of, given_to, givens_from, played, IsFree, AreApart, NoTick, TickFirst}

-- Tests of places

same_place : (n : ℕ) → (n == n) ≡ true
same_place n = grind (arith, nat_tests)

other_place : (n k : ℕ) → n ≢ k → (n == k) ≡ false
other_place n k h = grind (arith, nat_tests)

-- What a core was handed

to_self : (h : Hand) (hs : List Hand) (core : ℕ) → h.core ≡ core → given_to core (h ∷ hs) ≡ Some h.given
unfolding given_to
to_self h hs core e = ap (λ t. cond t (Some h.given) (given_to core hs)) (ap (λ n. n == core) e ∙ same_place core)

to_other : (h : Hand) (hs : List Hand) (core : ℕ) → h.core ≢ core → given_to core (h ∷ hs) ≡ given_to core hs
unfolding given_to
to_other h hs core d = ap (λ t. cond t (Some h.given) (given_to core hs)) (other_place h.core core d)

free_none : (core : ℕ) (hs : List Hand) → IsFree core hs → given_to core hs ≡ None
unfolding given_to
free_none core [] f = refl
free_none core (h ∷ hs) f = to_other h hs core f.0 ∙ free_none core hs f.1

module _ {S : Type 0} where
  pub length_changed : (n : ℕ) (f : S → S) (ss : List S) → length (changed n f ss) ≡ length ss
  unfolding changed
  length_changed n f [] = refl
  length_changed zero f (s ∷ ss) = refl
  length_changed (suc n) f (s ∷ ss) = ap suc (length_changed n f ss)

  -- a hand to a core before this place is none of those from here on
  givens_skip : (j : ℕ) (h : Hand) (hs : List Hand) (ss : List S) → h.core < j → givens_from j (h ∷ hs) ss ≡ givens_from j hs ss
  unfolding givens_from
  givens_skip j h hs [] l = refl
  givens_skip j h hs (s ∷ ss) l = λ i. to_other h hs j (λ e. omega (arith, e, l)) i ∷ givens_skip (j + 1) h hs ss (omega (arith, l)) i

module _ {S : Type 0} (m : Automaton S) where
  round_none : (j : ℕ) (ss : List S) → states_of (round m ss (givens_from j [] ss)) ≡ ss
  unfolding round givens_from done_by given_to
  round_none j [] = refl
  round_none j (s ∷ ss) = ap (λ r. s ∷ r) (round_none (j + 1) ss)

  -- the round of one hand more, at a core that has none
  round_more : (j c : ℕ) (h : Hand) (hs : List Hand) (f : S → S) (ss : List S) → h.core ≡ j + c → IsFree h.core hs → ((s : S) → f s ≡ m.next s h.given.event h.given.words)
      → states_of (round m (changed c f ss) (givens_from j hs (changed c f ss))) ≡ states_of (round m ss (givens_from j (h ∷ hs) ss))
  unfolding changed round givens_from done_by
  round_more j c h hs f [] at free is = refl
  round_more j zero h hs f (s ∷ ss) at free is =
      let here : h.core ≡ j = omega (arith, at) in
      let none : given_to j hs ≡ None = ap (λ n. given_to n hs) (sym here) ∙ free_none h.core hs free in
      let some : given_to j (h ∷ hs) ≡ Some h.given = to_self h hs j here in
      let rest : givens_from (j + 1) (h ∷ hs) ss ≡ givens_from (j + 1) hs ss = givens_skip (j + 1) h hs ss (omega (arith, here)) in
      let left : (done_by m (f s) (given_to j hs)).state ≡ f s = ap (λ g. (done_by m (f s) g).state) none in
      let right : (done_by m s (given_to j (h ∷ hs))).state ≡ m.next s h.given.event h.given.words = ap (λ g. (done_by m s g).state) some in
      λ i. (left ∙ is s ∙ sym right) i ∷ states_of (round m ss (sym rest i))
  round_more j (suc n) h hs f (s ∷ ss) at free is =
      let away : h.core ≢ j = λ e. omega (arith, at, e) in
      λ i. (done_by m s (sym (to_other h hs j away) i)).state ∷ round_more (j + 1) n h hs f ss (omega (arith, at)) free is i

  -- what that core does
  done_here : (j c : ℕ) (h : Hand) (hs : List Hand) (ss : List S) → h.core ≡ j + c
      → given_at c (λ d. d.actions) (round m ss (givens_from j (h ∷ hs) ss)) ≡ given_at c (λ s. m.actions s h.given.event h.given.words) ss
  unfolding round givens_from given_at done_by
  done_here j c h hs [] at = refl
  done_here j zero h hs (s ∷ ss) at = ap (λ g. (done_by m s g).actions) (to_self h hs j (omega (arith, at)))
  done_here j (suc n) h hs (s ∷ ss) at = done_here (j + 1) n h hs ss (omega (arith, at))

  -- what the others do
  done_there : (j c p : ℕ) (h : Hand) (hs : List Hand) (f : S → S) (ss : List S) → h.core ≡ j + c → h.core ≢ j + p
      → given_at p (λ d. d.actions) (round m (changed c f ss) (givens_from j hs (changed c f ss))) ≡ given_at p (λ d. d.actions) (round m ss (givens_from j (h ∷ hs) ss))
  unfolding changed round givens_from given_at done_by
  done_there j c p h hs f [] at away = refl
  done_there j zero zero h hs f (s ∷ ss) at away = absurd (away at)
  done_there j zero (suc p) h hs f (s ∷ ss) at away =
      ap (λ gs. given_at p (λ d. d.actions) (round m ss gs)) (sym (givens_skip (j + 1) h hs ss (omega (arith, at))))
  done_there j (suc n) zero h hs f (s ∷ ss) at away = ap (λ g. (done_by m s g).actions) (sym (to_other h hs j (λ e. omega (arith, at, e))))
  done_there j (suc n) (suc p) h hs f (s ∷ ss) at away = done_there (j + 1) n p h hs f ss (omega (arith, at)) (λ e. away (omega (arith, e)))

  played_same : (k c : ℕ) (h : Hand) (hs : List Hand) (f : S → S) (ss : List S) (gs : List Hand) → h.core ≡ c → IsFree c gs
      → played k (round m (changed c f ss) (givens_from 0 hs (changed c f ss))) gs ≡ played k (round m ss (givens_from 0 (h ∷ hs) ss)) gs
  unfolding played
  played_same k c h hs f ss [] at free = refl
  played_same k c h hs f ss (g ∷ gs) at free =
      let here = done_there 0 c g.core h hs f ss (omega (arith, at)) (λ e. free.0 (omega (arith, at, e))) in
      λ i. all_outer k g.core (here i) ++ played_same k c h hs f ss gs at free.1 i

  -- Where an event goes is the same however far the cores are, unless it is a tick.
  core_same : (k : Kind) (cores d due : ℕ) (e : Event) → k ≢ tick → core_by k cores d e ≡ core_by k cores due e
  unfolding core_by
  core_same tick cores d due e away = absurd (away refl)
  core_same request cores d due e away = refl
  core_same datagram cores d due e away = refl
  core_same link_up cores d due e away = refl
  core_same link_bytes cores d due e away = refl
  core_same link_down cores d due e away = refl
  core_same bind_refused cores d due e away = refl
  core_same conn_up cores d due e away = refl
  core_same conn_bytes cores d due e away = refl
  core_same conn_down cores d due e away = refl

  route_same : (ss ts : List S) (e : Event) → length ss ≡ length ts → e.kind ≢ tick → route m ss e ≡ route m ts e
  unfolding route
  route_same ss ts e l away =
      ap (λ n. core_by e.kind n (due_core (due_from 0 (map m.wake ss))) e) l ∙ core_same e.kind (length ts) _ _ e away

  hands_same : (ss ts : List S) (words : ℕ → List ℕ) (n : ℕ) (es : List Event) → length ss ≡ length ts → NoTick es → hands_of m ss words n es ≡ hands_of m ts words n es
  unfolding hands_of
  hands_same ss ts words n [] l no_tick = refl
  hands_same ss ts words n (e ∷ es) l no_tick =
      λ i. record { core = route_same ss ts e l no_tick.0 i; given = record { event = inner (l i) e; words = words n } } ∷ hands_same ss ts words (n + 1) es l no_tick.1 i

  tick_first : (es : List Event) → NoTick es → TickFirst es
  tick_first [] h = tt
  tick_first (e ∷ es) h = h.1

  pub round_states : (words : ℕ → List ℕ) (n : ℕ) (ss : List S) (es : List Event) → AreApart (hands_of m ss words n es) → TickFirst es
      → state_after (split m) words n ss es ≡ states_of (round m ss (givens_from 0 (hands_of m ss words n es) ss))
  unfolding hands_of next_at
  round_states words n ss [] apart first = sym (round_none 0 ss)
  round_states words n ss (e ∷ es) apart first =
      let c = route m ss e in
      let f : S → S = λ s. m.next s (inner (length ss) e) (words n) in
      let ts = changed c f ss in
      let same : hands_of m ts words (n + 1) es ≡ hands_of m ss words (n + 1) es = hands_same ts ss words (n + 1) es (length_changed c f ss) first in
      let h : Hand = record { core = c; given = record { event = inner (length ss) e; words = words n } } in
      round_states words (n + 1) ts es (subst AreApart (sym same) apart.1) (tick_first es first)
      ∙ ap (λ hs. states_of (round m ts (givens_from 0 hs ts))) same
      ∙ round_more 0 c h (hands_of m ss words (n + 1) es) f ss (omega arith) apart.0 (λ s. refl)

  pub round_actions : (words : ℕ → List ℕ) (n : ℕ) (ss : List S) (es : List Event) → AreApart (hands_of m ss words n es) → TickFirst es
      → actions_of (split m) words n ss es ≡ played (length ss) (round m ss (givens_from 0 (hands_of m ss words n es) ss)) (hands_of m ss words n es)
  unfolding hands_of next_at actions_at played
  round_actions words n ss [] apart first = refl
  round_actions words n ss (e ∷ es) apart first =
      let c = route m ss e in
      let f : S → S = λ s. m.next s (inner (length ss) e) (words n) in
      let ts = changed c f ss in
      let same : hands_of m ts words (n + 1) es ≡ hands_of m ss words (n + 1) es = hands_same ts ss words (n + 1) es (length_changed c f ss) first in
      let hs = hands_of m ss words (n + 1) es in
      let h : Hand = record { core = c; given = record { event = inner (length ss) e; words = words n } } in
      let later = round_actions words (n + 1) ts es (subst AreApart (sym same) apart.1) (tick_first es first)
      ∙ ap (λ gs. played (length ts) (round m ts (givens_from 0 gs ts)) gs) same
      ∙ ap (λ k. played k (round m ts (givens_from 0 hs ts)) hs) (length_changed c f ss)
      ∙ played_same (length ss) c h hs f ss hs refl apart.0 in
      let here = done_here 0 c h hs ss (omega arith) in
      λ i. all_outer (length ss) c (sym here i) ++ later i
