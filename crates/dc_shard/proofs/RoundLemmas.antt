-- Rounds over bays come to what their events come to.
use Rattle.std.proofs.Common.{◌≡◌, ℕ, zero, suc, ◌+◌, ◌<◌, ◌≤◌, false, List, [], ◌∷◌, ◌++◌, length, slice_set, slice_index_or, refl, sym, ◌∙◌, ap, subst, arith, length-append}
use Rattle.std.specs.declared.option.Option.{Option}
use Rattle.std.specs.declared.option.Option.TheVariants.{None, Some}
use Rattle.dc_model.specs.Event.{Event, Action}
use Rattle.dc_engine.specs.Automaton.{Automaton, state_after, actions_of}
use Rattle.dc_split.specs.Routing.{inner, all_outer}
use Rattle.dc_split.specs.Split.{route, given_at, split}
use Rattle.dc_split.specs.Round.{Given, Done, Hand, done_by, round, hands_of, given_to, givens_from, played, AreApart}
use Rattle.dc_split.specs.Round as parts
use Rattle.dc_split.proofs.RoundLemmas.{round_states, round_actions}
use Rattle.dc_shard.specs.declared.bay.Bay.{Bay}
use Rattle.dc_shard.specs.Bays.{given_if, givens_of, states_of, outs_of, MayStepEach, SteppedEach, AreFree, count_given}
use Rattle.dc_shard.specs.Taped.{Taped, Gains}
use Rattle.dc_shard.specs.Rounds.{AreBlank, AreWhole, AllBelow, held_at, played_by, cores_in, MayJoin, InRound}
use Rattle.dc_shard.proofs.BayLemmas.{free_count, given_nothing, length_states, length_givens}
use Rattle.dc_shard.proofs.HandLemmas.{givens_last, givens_at, none_free, apart_last, first_last, hands_last, cores_last}

-- Places of an order.
below_last : (n c : ℕ) (cs : List ℕ) → AllBelow n cs → c < n → AllBelow n (cs ++ c ∷ [])
below_last n c [] h l = (l, tt)
below_last n c (x ∷ cs) h l = (h.0, below_last n c cs h.1 l)

set_length : {A : Type 0} (xs : List A) (i : ℕ) (a : A) → length (slice_set xs i a) ≡ length xs
set_length [] i a = refl
set_length (x ∷ xs) zero a = refl
set_length (x ∷ xs) (suc i) a = ap suc (set_length xs i a)

pub given_length : {E O : Type 0} (old new : List (Bay E O)) (c : ℕ) (given : Option Given) → givens_of new ≡ slice_set (givens_of old) c given → length new ≡ length old
given_length old new c given e = sym (length_givens new) ∙ ap length e ∙ set_length (givens_of old) c given ∙ length_givens old

-- What is played of tapes that hold what their cores did.
played_hands : {S : Type 0} (cores : ℕ) (ts : List Taped) (ds : List (Done S)) (hs : List Hand) → ((p : ℕ) → held_at p ts ≡ all_outer cores p (given_at p (λ d. d.actions) ds))
    → played_by ts (cores_in hs) ≡ played cores ds hs
unfolding played
played_hands cores ts ds [] at = refl
played_hands cores ts ds (h ∷ hs) at = λ i. at h.core i ++ played_hands cores ts ds hs at i

module _ {E S : Type 0} (m : Automaton S) (state : E → S) (words : ℕ → List ℕ) where
  free_givens : (j : ℕ) (bs : List (Bay E Taped)) → AreFree bs → givens_of bs ≡ givens_from j [] (states_of state bs)
  unfolding givens_from given_to
  free_givens j [] h = refl
  free_givens j (x ∷ xs) h = λ i. given_if (h.0 i) x.inbox x.draws ∷ free_givens (j + 1) xs h.1 i

  -- A round begins.
  pub round_begins : (n : ℕ) (bays : List (Bay E Taped)) → AreFree bays → AreBlank (outs_of bays) → InRound m state words n (states_of state bays) bays [] []
  unfolding hands_of
  round_begins n bays free blank =
      record { states = refl; outs = blank; givens = free_givens 0 bays free; in_order = refl; apart = tt; first = tt; count = free_count bays free; places = tt }

  -- One event more is handed out.
  pub round_more : (n : ℕ) (ss : List S) (old new : List (Bay E Taped)) (order order' : List ℕ) (es : List Event) (e : Event) (ws : List ℕ) (c : ℕ)
      → InRound m state words n ss old order es → MayJoin es e → c ≡ route m (states_of state old) e → c < length old
      → ((d : Bay E Taped) → (slice_index_or old c d).given ≡ false)
      → givens_of new ≡ slice_set (givens_of old) c (Some (record { event = inner (length old) e; words = ws }))
      → states_of state new ≡ states_of state old → outs_of new ≡ outs_of old → count_given new ≡ count_given old + 1 → ws ≡ words (n + length es)
      → order' ≡ order ++ c ∷ [] → InRound m state words n ss new order' (es ++ e ∷ [])
  round_more n ss old new order order' es e ws c p may goes within free givens states outs count drawn last =
      let hs = hands_of m ss words n es in
      let h : Hand = record { core = route m ss e; given = record { event = inner (length ss) e; words = words (n + length es) } } in
      let more : hands_of m ss words n (es ++ e ∷ []) ≡ hs ++ h ∷ [] = hands_last m ss words n es e in
      let place : c ≡ h.core = goes ∙ ap (λ s. route m s e) p.states in
      let len : length old ≡ length ss = sym (length_states state old) ∙ ap length p.states in
      let low : h.core < length ss = omega (arith, within, place, len) in
      let nothing : slice_index_or (givens_of old) c None ≡ None = given_nothing old c None within free in
      let none : given_to h.core hs ≡ None =
      sym (givens_at h.core hs ss None low) ∙ (λ i. slice_index_or (sym p.givens i) (sym place i) None) ∙ nothing in
      let all : length new ≡ length old = given_length old new c _ givens in
      let bound : c < length new = omega (arith, within, all) in
      record {
        states = states ∙ p.states;
        outs = subst AreBlank (sym outs) p.outs;
        givens = givens ∙ (λ i. slice_set (p.givens i) (place i) (Some (record { event = inner (len i) e; words = drawn i }))) ∙ sym (givens_last hs h ss low none)
            ∙ ap (λ l. givens_from 0 l ss) (sym more);
        in_order = last ∙ (λ i. p.in_order i ++ place i ∷ []) ∙ sym (cores_last hs h) ∙ ap cores_in (sym more);
        apart = subst AreApart (sym more) (apart_last hs h p.apart (none_free h.core hs none));
        first = first_last es e p.first may;
        count = omega (arith, count, p.count, length-append es (e ∷ []));
        places = subst (AllBelow (length new)) (sym last) (below_last (length new) c order (subst (λ k. AllBelow k order) (sym all) p.places) bound);
      }

  -- All cores make their steps.

  stepped_states : {O : Type 0} (acted : O → List Action → O → Type 0) (cores from : ℕ) (old new : List (Bay E O)) → SteppedEach acted m state cores from old new
      → states_of state new ≡ parts.states_of (round m (states_of state old) (givens_of old))
  unfolding round
  stepped_states acted cores from [] [] h = refl
  stepped_states acted cores from [] (c ∷ cs) h = absurd h
  stepped_states acted cores from (b ∷ bs) [] h = absurd h
  stepped_states acted cores from (b ∷ bs) (c ∷ cs) h = λ i. h.0.moved i ∷ stepped_states acted cores (from + 1) bs cs h.1 i

  stepped_tapes : (cores from p : ℕ) (old new : List (Bay E Taped)) → SteppedEach Gains m state cores from old new → AreBlank (outs_of old) → AreWhole (outs_of new)
      → held_at p (outs_of new) ≡ all_outer cores (from + p) (given_at p (λ d. d.actions) (round m (states_of state old) (givens_of old)))
  unfolding round held_at given_at
  stepped_tapes cores from p [] [] h blank whole = refl
  stepped_tapes cores from p [] (c ∷ cs) h blank whole = absurd h
  stepped_tapes cores from p (b ∷ bs) [] h blank whole = absurd h
  stepped_tapes cores from zero (b ∷ bs) (c ∷ cs) h blank whole =
      let here : from ≡ from + 0 = omega arith in
      let acts = (done_by m (state b.core) (given_if b.given b.inbox b.draws)).actions in
      (h.0.acts whole.0).1 ∙ ap (λ t. t.actions ++ all_outer cores from acts) blank.0 ∙ ap (λ k. all_outer cores k acts) here
  stepped_tapes cores from (suc p) (b ∷ bs) (c ∷ cs) h blank whole =
      let there : from + 1 + p ≡ from + suc p = omega arith in
      stepped_tapes cores (from + 1) p bs cs h.1 blank.1 whole.1
      ∙ ap (λ k. all_outer cores k (given_at p (λ d. d.actions) (round m (states_of state bs) (givens_of bs)))) there

  pub round_comes_to : (n : ℕ) (ss : List S) (old new : List (Bay E Taped)) (order : List ℕ) (es : List Event) → InRound m state words n ss old order es
      → SteppedEach Gains m state (length old) 0 old new → states_of state new ≡ state_after (split m) words n ss es
  round_comes_to n ss old new order es p h =
      stepped_states Gains (length old) 0 old new h ∙ (λ i. parts.states_of (round m (p.states i) (p.givens i))) ∙ sym (round_states m words n ss es p.apart p.first)

  pub round_plays : (n : ℕ) (ss : List S) (old new : List (Bay E Taped)) (order : List ℕ) (es : List Event) → InRound m state words n ss old order es
      → SteppedEach Gains m state (length old) 0 old new → AreWhole (outs_of new) → played_by (outs_of new) order ≡ actions_of (split m) words n ss es
  round_plays n ss old new order es p h whole =
      let hs = hands_of m ss words n es in
      let ds = round m ss (givens_from 0 hs ss) in
      let len : length old ≡ length ss = sym (length_states state old) ∙ ap length p.states in
      let at : (q : ℕ) → held_at q (outs_of new) ≡ all_outer (length ss) q (given_at q (λ d. d.actions) ds) = λ q.
      let same : 0 + q ≡ q = omega arith in
      stepped_tapes (length old) 0 q old new h p.outs whole
      ∙ (λ i. all_outer (len i) (same i) (given_at q (λ d. d.actions) (round m (p.states i) (p.givens i)))) in
      ap (played_by (outs_of new)) p.in_order ∙ played_hands (length ss) (outs_of new) ds hs at ∙ sym (round_actions m words n ss es p.apart p.first)

  -- Each core handled one event more at most.

  done_counts : ((s : S) (e : Event) (ws : List ℕ) → m.handled (m.next s e ws) ≡ m.handled s + 1) → (s : S) (g : Option Given) → m.handled (done_by m s g).state ≤ m.handled s + 1
  unfolding done_by
  done_counts counts s None = omega arith
  done_counts counts s (Some g) = omega (arith, counts s g.event g.words)

  pub round_counts : ((s : S) (e : Event) (ws : List ℕ) → m.handled (m.next s e ws) ≡ m.handled s + 1) → (k k' cores from : ℕ) (old new : List (Bay E Taped))
      → SteppedEach Gains m state cores from old new → k' + 1 ≤ k → MayStepEach m k (states_of state old) → MayStepEach m k' (states_of state new)
  round_counts counts k k' cores from [] [] h less may = tt
  round_counts counts k k' cores from [] (c ∷ cs) h less may = absurd h
  round_counts counts k k' cores from (b ∷ bs) [] h less may = absurd h
  round_counts counts k k' cores from (b ∷ bs) (c ∷ cs) h less may = (
    omega (arith, ap m.handled h.0.moved, done_counts counts (state b.core) (given_if b.given b.inbox b.draws), less, may.0),
    round_counts counts k k' cores (from + 1) bs cs h.1 less may.1,
  )

  pub may_less : (k k' : ℕ) (ss : List S) → k' ≤ k → MayStepEach m k ss → MayStepEach m k' ss
  may_less k k' [] less may = tt
  may_less k k' (s ∷ ss) less may = (omega (arith, less, may.0), may_less k k' ss less may.1)
