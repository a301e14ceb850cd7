-- The loop: rounds, one after the other.
use Rattle.std.proofs.Common.{◌≡◌, ℕ, suc, ◌+◌, ◌-◌, ◌≤◌, Bool, true, false, List, [], ◌∷◌, ◌++◌, length, refl, sym, ◌∙◌, ap, subst, arith, length-append, append_assoc}
use Rattle.std.specs.Prelude.{All}
use Rattle.std.proofs.lemmas.List.{append-nil}
use Rattle.std.proofs.lemmas.Bool.{false≢true}
use Rattle.std.proofs.lemmas.List.Elements.{All-nil, All-cons, All-append}
use Rattle.std.specs.declared.option.Option.{Option}
use Rattle.dc_model.specs.Event.{Event, IsEvent, Action}
use Rattle.dc_engine.specs.Automaton.{Automaton, state_after, actions_of}
use Rattle.dc_event.specs.declared.answers.Heard.{Heard}
use Rattle.dc_event.specs.declared.answers.Heard.TheVariants as said
use Rattle.dc_event.specs.History.{Exchange, gave, done_all, events_in, events-both, events-done, actions_in, actions-both, actions-done}
use Rattle.dc_split.specs.Split.{split}
use Rattle.dc_split.specs.Round.{hands_of}
use Rattle.dc_shard.specs.declared.bay.Bay.{Bay}
use Rattle.dc_shard.specs.Bays.{states_of, outs_of, MayStepEach, SteppedEach, AreFree}
use Rattle.dc_shard.specs.Taped.{Taped, Gains}
use Rattle.dc_shard.specs.Rounds.{AreBlank, AreWhole, Cleared, InRound, cores_in, played_by, begun, gathered_all, held_over}
use Rattle.dc_shard.specs.Follows.{Point, heard, heard_all, Follows}
use Rattle.dc_shard.specs.declared.served.ShardServed.{ShardServed}
use Rattle.dc_shard.specs.declared.served.ShardServed.TheVariants.{NoMemory}
use Rattle.dc_shard.specs.Serving.{opens, last_asked, Ends, Settles, Lacks, Serves, Stage, SoFar}
use Rattle.dc_shard.proofs.BayLemmas.{stepped_free, cleared_blank, cleared_free, cleared_states}
use Rattle.dc_shard.proofs.RoundLemmas.{round_comes_to, round_plays, round_counts}
use Rattle.dc_shard.proofs.FollowLemmas.{follows_both, follows_done, follows_gathered, follows_round, follows_number, heard_number, state_append, actions_append}

-- An event that is held over, or none

pub held_none : (held : Bool) (e : Event) → length (held_over held e) ≤ 0 → held_over held e ≡ []
held_none true e l = absurd (omega (arith, l))
held_none false e l = refl

pub not_held : (held : Bool) (a : Heard) → (held ≡ true → a ≡ said.Event) → (a ≡ said.Event → ⊥) → held ≡ false
not_held true a h never = absurd (never (h refl))
not_held false a h never = refl

-- Events that pass

events_gathered : (es : List Event) → events_in (gathered_all es) ≡ es
events_gathered [] = refl
events_gathered (e ∷ es) = ap (λ l. e ∷ l) (events_gathered es)

actions_gathered : (es : List Event) → actions_in (gathered_all es) ≡ []
actions_gathered [] = refl
actions_gathered (e ∷ es) = actions_gathered es

-- The first event of a round stands behind those before, whether it was held over or the world was asked for it.
begun_events : (held : Bool) (wake : Option ℕ) (spare e : Event) (known before : List Event) → known ≡ before ++ held_over held spare → (held ≡ true → e ≡ spare)
    → known ++ events_in (begun held wake (gave e)) ≡ before ++ e ∷ []
begun_events true wake spare e known before is same = append-nil known ∙ is ∙ ap (λ x. before ++ x ∷ []) (sym (same refl))
begun_events false wake spare e known before is same = ap (λ l. l ++ e ∷ []) (is ∙ append-nil before)

begun_actions : (held : Bool) (wake : Option ℕ) (e : Event) → actions_in (begun held wake (gave e)) ≡ []
begun_actions true wake e = refl
begun_actions false wake e = refl

-- What a round hands out, and that nothing is done meanwhile.

round_events : (passed : List Exchange) (held : Bool) (wake : Option ℕ) (spare e : Event) (before es : List Event) → events_in passed ≡ before ++ held_over held spare → (held ≡ true → e ≡ spare)
    → events_in ((passed ++ begun held wake (gave e)) ++ gathered_all es) ≡ before ++ (e ∷ es)
round_events passed held wake spare e before es is same =
    let begins = begun held wake (gave e) in
    events-both (passed ++ begins) (gathered_all es)
    ∙ (λ i. (events-both passed begins ∙ begun_events held wake spare e (events_in passed) before is same) i ++ events_gathered es i)
    ∙ append_assoc before (e ∷ []) es

round_acts : (passed : List Exchange) (held : Bool) (wake : Option ℕ) (e : Event) (es : List Event)
    → actions_in ((passed ++ begun held wake (gave e)) ++ gathered_all es) ≡ actions_in passed
round_acts passed held wake e es =
    let begins = begun held wake (gave e) in
    actions-both (passed ++ begins) (gathered_all es)
    ∙ (λ i. (actions-both passed begins ∙ ap (λ l. actions_in passed ++ l) (begun_actions held wake e) ∙ append-nil (actions_in passed)) i ++ actions_gathered es i)
    ∙ append-nil (actions_in passed)

begun_bounded : (held : Bool) (wake : Option ℕ) (e : Event) → IsEvent e → All IsEvent (events_in (begun held wake (gave e)))
begun_bounded true wake e is = All-nil IsEvent
begun_bounded false wake e is = All-cons IsEvent e [] is (All-nil IsEvent)

pub order_length : {S : Type 0} (m : Automaton S) (ss : List S) (words : ℕ → List ℕ) (n : ℕ) (es : List Event) → length (cores_in (hands_of m ss words n es)) ≡ length es
unfolding hands_of
order_length m ss words n [] = refl
order_length m ss words n (e ∷ es) = ap suc (order_length m ss words (n + 1) es)

module _ {W S : Type 0} (history : W → List Exchange → W → Type 0) (both : (a b c : W) (xs ys : List Exchange) → history a xs b → history b ys c → history a (xs ++ ys) c)
    (m : Automaton S) (words : ℕ → List ℕ) (opened : Point S) where
  -- More passes.
  pub stage_more : (old mid now : W) (passed more : List Exchange) (p q : Point S) → Stage history m words opened old mid passed p → history mid more now → All IsEvent (events_in more)
      → Follows m words p more q → Stage history m words opened old now (passed ++ more) q
  stage_more old mid now passed more p q s happened bounded follows = record {
    happened = both old mid now passed more s.happened happened;
    bounded = subst (All IsEvent) (sym (events-both passed more)) (All-append IsEvent (events_in passed) (events_in more) s.bounded bounded);
    follows = follows_both m words opened p q passed more s.follows follows;
  }

  begun_follows : (n : ℕ) (s : S) (held : Bool) (spare e : Event) → (held ≡ true → e ≡ spare)
      → Follows m words (heard_all m words (record { number = n; state = s; due = [] }) (held_over held spare)) (begun held (m.wake s) (gave e)) (heard m words (record { number = n; state = s; due = [] }) e)
  unfolding Follows
  begun_follows n s true spare e same = ap (heard m words (record { number = n; state = s; due = [] })) (same refl)
  begun_follows n s false spare e same = (refl, (refl, refl))

  -- An event is handed out, with those that are gathered behind it.
  pub stage_round : (old mid now new : W) (passed : List Exchange) (n : ℕ) (s : S) (held : Bool) (spare e : Event) (es : List Event)
      → Stage history m words opened old mid passed (heard_all m words (record { number = n; state = s; due = [] }) (held_over held spare))
      → (held ≡ true → e ≡ spare) → history mid (begun held (m.wake s) (gave e)) now → IsEvent e → history now (gathered_all es) new → All IsEvent es
      → Stage history m words opened old new ((passed ++ begun held (m.wake s) (gave e)) ++ gathered_all es) (heard_all m words (record { number = n; state = s; due = [] }) (e ∷ es))
  stage_round old mid now new passed n s held spare e es so same begins_by is gathers all =
      let first : Point S = record { number = n; state = s; due = [] } in
      let begins = stage_more old mid now passed (begun held (m.wake s) (gave e)) _ (heard m words first e) so begins_by (begun_bounded held (m.wake s) e is) (begun_follows n s held spare e same) in
      stage_more old now new (passed ++ begun held (m.wake s) (gave e)) (gathered_all es) (heard m words first e) (heard_all m words first (e ∷ es)) begins gathers
      (subst (All IsEvent) (sym (events_gathered es)) all) (follows_gathered m words (heard m words first e) es)

module _ {W E S : Type 0} (history : W → List Exchange → W → Type 0) (both : (a b c : W) (xs ys : List Exchange) → history a xs b → history b ys c → history a (xs ++ ys) c)
    (m : Automaton S) (state : E → S) (words : ℕ → List ℕ) (first limit : ℕ) (start : List S) where
  -- Behind the launch.
  pub serve_begins : (old now : W) (bays : List (Bay E Taped)) (spare : Event) → history old (done_all ((split m).opening start)) now → states_of state bays ≡ start
      → AreFree bays → AreBlank (outs_of bays) → MayStepEach m limit start
      → SoFar history m state words first limit start old now bays first 0 false spare (done_all ((split m).opening start))
  serve_begins old now bays spare opened same free blank may =
      let opening = (split m).opening start in
      let steps : limit ≡ limit - 0 = omega arith in
      let goes : Follows (split m) words (opens (split m) first start) (done_all opening) (record { number = first; state = start; due = [] }) =
      subst (λ due. Follows (split m) words (record { number = first; state = start; due = due }) (done_all opening) (record { number = first; state = start; due = [] })) (append-nil opening)
      (follows_done (split m) words first start opening []) in
      record {
        stage = record {
          happened = opened;
          bounded = subst (All IsEvent) (sym (events-done opening)) (All-nil IsEvent);
          follows = subst (λ ss. Follows (split m) words (opens (split m) first start) (done_all opening) (record { number = first; state = ss; due = [] })) (sym same) goes;
        };
        number = omega arith;
        within = omega arith;
        event = λ e. absurd (false≢true e);
        steps = subst (λ k. MayStepEach m k (states_of state bays)) steps (subst (MayStepEach m limit) (sym same) may);
        free = free;
        blank = blank;
        before = [];
        events = events-done opening;
        acts = actions-done opening ∙ sym (append-nil opening);
        came = same;
      }

  -- So many events were handed out.
  pub served_count : (old now : W) (passed : List Exchange) (p : Point (List S)) → Stage history (split m) words (opens (split m) first start) old now passed p → p.number ≡ first + length (events_in passed)
  served_count old now passed p s = follows_number (split m) words (opens (split m) first start) p passed s.follows

  -- A whole round.
  pub serve_more : (old now heard_by gathered new : W) (before mid after final : List (Bay E Taped)) (order : List ℕ) (given handled : ℕ) (held : Bool) (spare e : Event) (passed : List Exchange)
      (more : List Event) (held' : Bool) (spare' : Event)
      → SoFar history m state words first limit start old now before given handled held spare passed
      → (held ≡ true → e ≡ spare) → history now (begun held ((split m).wake (states_of state before)) (gave e)) heard_by → IsEvent e
      → history heard_by (gathered_all (more ++ held_over held' spare')) gathered → All IsEvent (more ++ held_over held' spare')
      → InRound m state words given (states_of state before) mid order (e ∷ more)
      → 1 + length (more ++ held_over held' spare') ≤ limit - handled → (held' ≡ true → IsEvent spare')
      → SteppedEach Gains m state (length mid) 0 mid after → AreWhole (outs_of after) → history gathered (done_all (played_by (outs_of after) order)) new → Cleared after final
      → ((s : S) (e : Event) (ws : List ℕ) → m.handled (m.next s e ws) ≡ m.handled s + 1)
      → (given' handled' : ℕ) → given' ≡ given + 1 + length more → handled' ≡ handled + length order
      → (x : List Exchange) × SoFar history m state words first limit start old new final given' handled' held' spare' x
  serve_more old now heard_by gathered new before mid after final order given handled held spare e passed more held' spare' so same asks is gathers all round few events stepped whole plays cleared counts given' handled' given_is handled_is =
      let ss = states_of state before in
      let es = more ++ held_over held' spare' in
      let acts = actions_of (split m) words given ss (e ∷ more) in
      let count : length order ≡ length (e ∷ more) = ap length round.in_order ∙ order_length m ss words given (e ∷ more) in
      let parts : length es ≡ length more + length (held_over held' spare') = length-append more (held_over held' spare') in
      let handed = stage_round history both (split m) words (opens (split m) first start) old now heard_by gathered passed given ss held spare e es so.stage same asks is gathers all in
      let acted : played_by (outs_of after) order ≡ acts = round_plays m state words given ss mid after order (e ∷ more) round stepped whole in
      let goes = follows_round (split m) words given ss (e ∷ more) (held_over held' spare') in
      let comes : state_after (split m) words given ss (e ∷ more) ≡ states_of state final =
      sym (cleared_states state after final cleared ∙ round_comes_to m state words given ss mid after order (e ∷ more) round stepped) in
      let number : given + length (e ∷ more) ≡ given' = omega (arith, given_is) in
      let at : Point (List S) = record { number = given'; state = states_of state final; due = [] } in
      let ends : Follows (split m) words (heard_all (split m) words (record { number = given; state = ss; due = [] }) ((e ∷ more) ++ held_over held' spare')) (done_all acts) (heard_all (split m) words at (held_over held' spare')) =
      subst (λ k. Follows (split m) words (heard_all (split m) words (record { number = given; state = ss; due = [] }) ((e ∷ more) ++ held_over held' spare')) (done_all acts) (heard_all (split m) words (record { number = k; state = states_of state final; due = [] }) (held_over held' spare'))) number
      (subst (λ t. Follows (split m) words (heard_all (split m) words (record { number = given; state = ss; due = [] }) ((e ∷ more) ++ held_over held' spare')) (done_all acts) (heard_all (split m) words (record { number = given + length (e ∷ more); state = t; due = [] }) (held_over held' spare'))) comes goes) in
      let shown : history gathered (done_all acts) new = subst (λ xs. history gathered (done_all xs) new) acted plays in
      let may : MayStepEach m (limit - handled) (states_of state mid) = subst (MayStepEach m (limit - handled)) (sym round.states) so.steps in
      let fewer : limit - handled' + 1 ≤ limit - handled = omega (arith, handled_is, count, few) in
      let wake = (split m).wake ss in
      let heard_all_of = (passed ++ begun held wake (gave e)) ++ gathered_all es in
      let reached : given ≡ first + length so.before = omega (
        arith,
        served_count old now passed _ so.stage,
        heard_number (split m) words (record { number = given; state = ss; due = [] }) (held_over held spare),
        ap length so.events,
        length-append so.before (held_over held spare),
      ) in
      let does : (split m).opening start ++ actions_of (split m) words first start (so.before ++ (e ∷ more)) ≡ actions_in passed ++ acts =
      ap (λ l. (split m).opening start ++ l) (actions_append (split m) words first start so.before (e ∷ more))
      ∙ sym (append_assoc ((split m).opening start) (actions_of (split m) words first start so.before) _)
      ∙ (λ i. sym so.acts i ++ actions_of (split m) words (sym reached i) (sym so.came i) (e ∷ more)) in
      let done_now : actions_in (heard_all_of ++ done_all acts) ≡ actions_in passed ++ acts =
      actions-both heard_all_of (done_all acts) ∙ (λ i. round_acts passed held wake e es i ++ actions-done acts i) in (
        ((passed ++ begun held ((split m).wake ss) (gave e)) ++ gathered_all es) ++ done_all acts,
        record {
          stage = stage_more history both (split m) words (opens (split m) first start) old gathered new _ (done_all acts) _ _ handed shown
              (subst (All IsEvent) (sym (events-done acts)) (All-nil IsEvent)) ends;
          number = omega (arith, given_is, so.number, handled_is, count);
          within = omega (arith, handled_is, count, few, parts);
          event = events;
          steps = subst (MayStepEach m (limit - handled')) (sym (cleared_states state after final cleared)) (round_counts m state words counts (limit - handled) (limit - handled') (length mid) 0 mid after stepped fewer may);
          free = cleared_free after final cleared (stepped_free Gains m state (length mid) 0 mid after stepped);
          blank = cleared_blank after final cleared;
          before = so.before ++ (e ∷ more);
          events =
              events-both heard_all_of (done_all acts) ∙ (λ i. round_events passed held wake spare e so.before es so.events same i ++ events-done acts i)
              ∙ append-nil (so.before ++ (e ∷ es)) ∙ sym (append_assoc so.before (e ∷ more) (held_over held' spare'));
          acts = done_now ∙ sym does;
          came = sym comes ∙ (λ i. state_after (split m) words (reached i) (so.came i) (e ∷ more)) ∙ sym (state_append (split m) words first start so.before (e ∷ more));
        },
      )

  -- Serving ends before a round.
  pub serve_ends : (old now new : W) (bays : List (Bay E Taped)) (given handled : ℕ) (held : Bool) (spare : Event) (passed : List Exchange) (answer : ShardServed) (most : ℕ)
      → SoFar history m state words first limit start old now bays given handled held spare passed → held_over held spare ≡ [] → limit ≡ most → Ends answer handled limit
      → history now (last_asked answer ((split m).wake (states_of state bays))) new
      → Settles (split m) words first start passed answer (states_of state bays) given (record { number = given; state = states_of state bays; due = [] })
      → (x : List Exchange) × ((p : Point (List S)) × (history old (x ++ last_asked answer ((split m).wake p.state)) new
      × Serves (split m) words first start (states_of state bays) given most answer x p))
  serve_ends old now new bays given handled held spare passed answer most so none all ends last settled =
      let at : Point (List S) = record { number = given; state = states_of state bays; due = [] } in
      let stage : Stage history (split m) words (opens (split m) first start) old now passed at =
      subst (λ es. Stage history (split m) words (opens (split m) first start) old now passed (heard_all (split m) words at es)) none so.stage in
      let count : handled ≡ length (events_in passed) = omega (arith, served_count old now passed at stage, so.number) in (
        passed,
        (
          at,
          (
            both old now new passed (last_asked answer ((split m).wake (states_of state bays))) stage.happened last,
            record {
              bounded = stage.bounded;
              follows = stage.follows;
              settled = settled;
              ends = subst (λ k. Ends answer k most) count (subst (Ends answer handled) all ends);
            },
          ),
        ),
      )

  -- Memory was wanting for a round.
  pub serve_lacks : (old now heard_by gathered new : W) (before : List (Bay E Taped)) (given handled given' : ℕ) (final : List S) (held : Bool) (spare e : Event) (passed : List Exchange) (es : List Event) (most : ℕ)
      → SoFar history m state words first limit start old now before given handled held spare passed
      → (held ≡ true → e ≡ spare) → history now (begun held ((split m).wake (states_of state before)) (gave e)) heard_by → IsEvent e
      → history heard_by (gathered_all es) gathered → All IsEvent es → 1 + length es ≤ limit - handled → new ≡ gathered → limit ≡ most
      → (x : List Exchange) × ((p : Point (List S)) × (history old (x ++ []) new × Serves (split m) words first start final given' most NoMemory x p))
  serve_lacks old now heard_by gathered new before given handled given' final held spare e passed es most so same asks is gathers all few stays whole =
      let ss = states_of state before in
      let at : Point (List S) = record { number = given; state = ss; due = [] } in
      let x = (passed ++ begun held ((split m).wake ss) (gave e)) ++ gathered_all es in
      let p = heard_all (split m) words at (e ∷ es) in
      let stage : Stage history (split m) words (opens (split m) first start) old gathered x p =
      stage_round history both (split m) words (opens (split m) first start) old now heard_by gathered passed given ss held spare e es so.stage same asks is gathers all in
      let count = served_count old gathered x p stage in
      let number : p.number ≡ given + length (e ∷ es) = heard_number (split m) words at (e ∷ es) in (
        x,
        (
          p,
          (
            subst (λ w. history old (x ++ []) w) (sym stays) (subst (λ h. history old h gathered) (sym (append-nil x)) stage.happened),
            record {
              bounded = stage.bounded;
              follows = stage.follows;
              settled = record {
                before = so.before;
                round = e ∷ es;
                events = round_events passed held ((split m).wake ss) spare e so.before es so.events same;
                acts = round_acts passed held ((split m).wake ss) e es ∙ so.acts;
              };
              ends = omega (arith, count, number, so.number, few, whole);
            },
          ),
        ),
      )
