-- What the loop over several cores tells of them, said of the resolver's machine over several cores.
use Rattle.std.proofs.Common.{◌≡◌, inl, inr, ℕ, zero, suc, ◌≤◌, ◌^◌, true, List, [], ◌∷◌, ◌++◌, length, replicate, refl, ap, sym, ◌∙◌, arith, subst, Option, Some, None}
use Rattle.std.proofs.lemmas.List.{append-nil}
use Rattle.std.specs.Prelude.{All}
use Rattle.dc_model.specs.Draws.{draws_of}
use Rattle.dc_model.specs.Event.{Event, IsEvent, line}
use Rattle.dc_model.specs.Line.{line_starting}
use Rattle.dc_model.specs.Cache.{empty}
use Rattle.dc_machine.specs.Run.{opening}
use Rattle.dc_draws.specs.Drawn.{Drawn}
use Rattle.dc_engine.specs.Automaton.{state_after, actions_of}
use Rattle.dc_event.specs.History.{Exchange, listened, events_in, actions_in}
use Rattle.dc_rules.specs.Settings.{rules_of}
use Rattle.dc_rules.specs.declared.config.Config.{Config}
use Rattle.dc_config.specs.Environment.{Environment}
use Rattle.dc_config.specs.Modes.{cores_in}
use Rattle.dc_core.specs.Running.{Running, core_machine}
use Rattle.dc_split.specs.Split.{given_at, split}
use Rattle.dc_split.specs.Resolver.{resolver, part_size, cores_of, split_last, split_actions}
use Rattle.dc_shard.specs.Bays.{MayStepEach}
use Rattle.dc_shard.specs.Follows.{Point, Follows}
use Rattle.dc_shard.specs.Serving.{Serves, Lacks, Justified, opens, last_asked}
use Rattle.dc_shard.specs.declared.served.ShardServed.{ShardServed}
use Rattle.dc_shard.specs.declared.served.ShardServed.TheVariants as served
use Rattle.dc_shard.proofs.FollowLemmas.{follows_comes, follows_does}
use Rattle.dc_serving.specs.Serving.{Refused, Unserved, Closes}
use Rattle.dc_status.specs.declared.status.Status.{Status}
use Rattle.dc_shards.specs.Cores.{HaveRules, machines}
use Rattle.dc_shards.specs.Serving.{core_opening, cores_opening, split_machine, split_opens, last_asks, SplitServing, BrokenOff, IsSplitSession, status_behind, left_behind}
use Rattle.dc_shards.proofs.CoreLemmas.{split_states, split_acts}
use Rattle.dc_shards.proofs.Followed.{on_machines, follows_machines, wake_of_machines, rules_after}

-- The cores before the first event

rules_first : (n cores : ℕ) (c : Config) → HaveRules (rules_of c) (replicate n (core_opening cores c))
rules_first zero cores c = tt
rules_first (suc n) cores c = (refl, rules_first n cores c)

machines_first : (n cores : ℕ) (c : Config) → machines (replicate n (core_opening cores c)) ≡ replicate n (opening (empty (part_size cores c.size)))
machines_first zero cores c = refl
machines_first (suc n) cores c = ap (λ ms. opening (empty (part_size cores c.size)) ∷ ms) (machines_first n cores c)

machines_are : (cores : ℕ) (c : Config) → machines (cores_opening cores c) ≡ cores_of cores c.size
unfolding cores_of
machines_are cores c = machines_first cores cores c

may_first : (n cores limit : ℕ) (c : Config) → limit ≤ 2 ^ 60 → MayStepEach core_machine limit (replicate n (core_opening cores c))
may_first zero cores limit c l = tt
may_first (suc n) cores limit c l = (omega (arith, l), may_first n cores limit c l)

pub may_step : (cores limit : ℕ) (c : Config) → limit ≤ 2 ^ 60 → MayStepEach core_machine limit (cores_opening cores c)
may_step cores limit c l = may_first cores cores limit c l

opens_first : (n cores : ℕ) (c : Config) → 1 ≤ n → given_at 0 core_machine.opening (replicate n (core_opening cores c)) ≡ line line_starting ∷ []
unfolding given_at
opens_first zero cores c l = absurd (omega (arith, l))
opens_first (suc n) cores c l = refl

opens_are : (cores : ℕ) (c : Config) → 1 ≤ cores → (split core_machine).opening (cores_opening cores c) ≡ line line_starting ∷ []
opens_are cores c l = opens_first cores cores c l

-- The point at which the cores open.
abbrev first_point : (cores : ℕ) → Config → Point (List Running)
first_point cores c = opens (split core_machine) 0 (cores_opening cores c)

point_is : (cores : ℕ) (c : Config) → 1 ≤ cores → on_machines (first_point cores c) ≡ split_opens cores c
point_is cores c l = λ i. record { number = 0; state = machines_are cores c i; due = opens_are cores c l i }

-- The run

follows_split : (cores : ℕ) (c : Config) (seed : List ℕ) (passed : List Exchange) (end : Point (List Running)) → 1 ≤ cores
    → Follows (split core_machine) (draws_of seed) (first_point cores c) passed end → Follows (split_machine c) (draws_of seed) (split_opens cores c) passed (on_machines end)
follows_split cores c seed passed end l f =
    subst (λ p. Follows (split_machine c) (draws_of seed) p passed (on_machines end)) (point_is cores c l)
    (follows_machines (rules_of c) (draws_of seed) (first_point cores c) end passed (rules_first cores cores c) f)

acts_split : (cores : ℕ) (c : Config) (seed : List ℕ) (es : List Event) → 1 ≤ cores
    → (split core_machine).opening (cores_opening cores c) ++ actions_of (split core_machine) (draws_of seed) 0 (cores_opening cores c) es
    ≡ split_actions (rules_of c) (draws_of seed) (cores_of cores c.size) es
unfolding split_actions
acts_split cores c seed es l =
    (λ i. opens_are cores c l i ++ split_acts (rules_of c) (draws_of seed) 0 (cores_opening cores c) es (rules_first cores cores c) i)
    ∙ ap (λ ms. line line_starting ∷ actions_of (split (resolver (rules_of c))) (draws_of seed) 0 ms es) (machines_are cores c)

cores_split : (cores : ℕ) (c : Config) (seed : List ℕ) (es : List Event)
    → machines (state_after (split core_machine) (draws_of seed) 0 (cores_opening cores c) es) ≡ split_last (rules_of c) (draws_of seed) (cores_of cores c.size) es
unfolding split_last
cores_split cores c seed es =
    split_states (rules_of c) (draws_of seed) 0 (cores_opening cores c) es (rules_first cores cores c)
    ∙ ap (λ ms. state_after (split (resolver (rules_of c))) (draws_of seed) 0 ms es) (machines_are cores c)

-- Events were served, and all that is due is done.
served_whole : {W : Type 0} (history : W → List Exchange → W → Type 0) (used_up : W → Type 0) (broken : W → ℕ → Type 0) (old new : W) (c : Config) (cores : ℕ) (seed : List ℕ) (limit : ℕ)
    (status : Status) (finals : List Running) (passed : List Exchange) (end : Point (List Running)) → 1 ≤ cores → All IsEvent (events_in passed)
    → history old (listened c.ip c.ipsend true ∷ (passed ++ last_asks status ((split core_machine).wake end.state))) new
    → Follows (split core_machine) (draws_of seed) (first_point cores c) passed end → finals ≡ end.state → end.due ≡ []
    → Closes status (length (events_in passed)) limit (used_up new) (broken new) → SplitServing history used_up broken old new c cores seed limit status finals
served_whole history used_up broken old new c cores seed limit status finals passed end l bounded happened follows is none closes =
    let comes : finals ≡ state_after (split core_machine) (draws_of seed) 0 (cores_opening cores c) (events_in passed) =
    is ∙ follows_comes (split core_machine) (draws_of seed) (first_point cores c) end passed follows in
    let wake : (split core_machine).wake end.state ≡ (split_machine c).wake (machines finals) =
    ap (λ rs. (split core_machine).wake rs) (sym is) ∙ wake_of_machines (rules_of c) finals in
    record {
      passed = passed;
      end = on_machines end;
      bounded = bounded;
      happened = subst (λ w. history old (listened c.ip c.ipsend true ∷ (passed ++ last_asks status w)) new) wake happened;
      follows = follows_split cores c seed passed end l follows;
      acts = sym (append-nil (actions_in passed)) ∙ ap (λ xs. actions_in passed ++ xs) (sym none)
          ∙ follows_does (split core_machine) (draws_of seed) (first_point cores c) end passed follows ∙ acts_split cores c seed (events_in passed) l;
      cores_are = ap machines comes ∙ cores_split cores c seed (events_in passed);
      rules_are = subst (HaveRules (rules_of c)) (sym comes) (rules_after (rules_of c) (draws_of seed) 0 (cores_opening cores c) (events_in passed) (rules_first cores cores c));
      closes = closes;
    }

-- Memory was wanting in a round.
served_lacking : {W : Type 0} (history : W → List Exchange → W → Type 0) (old new : W) (c : Config) (cores : ℕ) (seed : List ℕ) (limit : ℕ)
    (passed : List Exchange) (end : Point (List Running)) → 1 ≤ cores → All IsEvent (events_in passed) → history old (listened c.ip c.ipsend true ∷ (passed ++ [])) new
    → Follows (split core_machine) (draws_of seed) (first_point cores c) passed end → Lacks (split core_machine) (draws_of seed) 0 (cores_opening cores c) passed
    → length (events_in passed) ≤ limit → BrokenOff history old new c cores seed limit
served_lacking history old new c cores seed limit passed end l bounded happened follows lacks within = record {
  passed = passed;
  end = on_machines end;
  bounded = bounded;
  happened = subst (λ h. history old (listened c.ip c.ipsend true ∷ h) new) (append-nil passed) happened;
  follows = follows_split cores c seed passed end l follows;
  before = lacks.before;
  round = lacks.round;
  events = lacks.events;
  acts = lacks.acts ∙ acts_split cores c seed lacks.before l;
  within = within;
}

-- The session

-- The cores began with a configuration, and the words are those of a seed from the first on.
begun : (c : Config) (cores : ℕ) (seed : List ℕ) (drawn : Drawn) (starts finals : List Running) (given limit : ℕ) (answer : ShardServed) (passed : List Exchange) (end : Point (List Running))
    → drawn ≡ record { seed = seed; given = 0 } → starts ≡ cores_opening cores c
    → Serves (split core_machine) (draws_of drawn.seed) drawn.given starts finals given limit answer passed end
    → Serves (split core_machine) (draws_of seed) 0 (cores_opening cores c) finals given limit answer passed end
begun c cores seed drawn starts finals given limit answer passed end words opened s =
    subst (λ b. Serves (split core_machine) (draws_of seed) 0 b finals given limit answer passed end) opened
    (subst (λ (d : Drawn). Serves (split core_machine) (draws_of d.seed) d.given starts finals given limit answer passed end) words s)

-- One exchange, and then others.
abbrev pub Behind : {W : Type 0} → (W → List Exchange → W → Type 0) → Type 0
Behind {W} history = (a b c : W) (x : Exchange) (ys : List Exchange) → history a (x ∷ []) b → history b ys c → history a (x ∷ ys) c

module _ {W : Type 0} (history : W → List Exchange → W → Type 0) (used_up : W → Type 0) (broken : W → ℕ → Type 0) (old new : W) (env : Environment) (configured : Config → Type 0)
    (seed : List ℕ) (left : Option (List ℕ)) (limit : ℕ) where
  by_answer : (c : Config) (cores : ℕ) (finals : List Running) (given : ℕ) (answer : ShardServed) (passed : List Exchange) (end : Point (List Running))
      → configured c → cores_in env ≡ Some cores → length seed ≡ 32 → 1 ≤ cores
      → history old (listened c.ip c.ipsend true ∷ (passed ++ last_asked answer ((split core_machine).wake end.state))) new
      → Serves (split core_machine) (draws_of seed) 0 (cores_opening cores c) finals given limit answer passed end → Justified answer (used_up new) (broken new)
      → IsSplitSession history used_up broken old new env configured seed left limit (status_behind answer) (left_behind answer finals)
  by_answer c cores finals given served.Ended passed end fits count whole l happened s just =
      (c, (cores, (fits, (count, (whole, served_whole history used_up broken old new c cores seed limit _ finals passed end l s.bounded happened s.follows s.settled.0 s.settled.1.1 (s.ends, just))))))
  by_answer c cores finals given served.Spent passed end fits count whole l happened s just =
      (c, (cores, (fits, (count, (whole, served_whole history used_up broken old new c cores seed limit _ finals passed end l s.bounded happened s.follows s.settled.0 s.settled.1.1 s.ends)))))
  by_answer c cores finals given served.Failed passed end fits count whole l happened s just =
      (c, (cores, (fits, (count, (whole, served_whole history used_up broken old new c cores seed limit _ finals passed end l s.bounded happened s.follows s.settled.0 s.settled.1.1 s.ends)))))
  by_answer c cores finals given (served.Bad k) passed end fits count whole l happened s just =
      (c, (cores, (fits, (count, (whole, served_whole history used_up broken old new c cores seed limit _ finals passed end l s.bounded happened s.follows s.settled.0 s.settled.1.1 (s.ends, just))))))
  by_answer c cores finals given served.NoMemory passed end fits count whole l happened s just =
      inr (refl, (c, (cores, (fits, (count, (whole, served_lacking history old new c cores seed limit passed end l s.bounded happened s.follows s.settled s.ends))))))

  -- A world listened, and the cores served its events.
  pub serves : (mid : W) (c : Config) (cores : ℕ) (drawn : Drawn) (starts finals : List Running) (given : ℕ) (answer : ShardServed) (passed : List Exchange) (end : Point (List Running))
      (status : Status) (kept : Option (List Running)) → Behind history → configured c → cores_in env ≡ Some cores → length seed ≡ 32 → 1 ≤ cores
      → history old (listened c.ip c.ipsend true ∷ []) mid → drawn ≡ record { seed = seed; given = 0 } → starts ≡ cores_opening cores c
      → history mid (passed ++ last_asked answer ((split core_machine).wake end.state)) new
      → Serves (split core_machine) (draws_of drawn.seed) drawn.given starts finals given limit answer passed end → Justified answer (used_up new) (broken new)
      → status ≡ status_behind answer → kept ≡ left_behind answer finals → IsSplitSession history used_up broken old new env configured seed left limit status kept
  serves mid c cores drawn starts finals given answer passed end status kept follows fits count whole l listening words opened happened s just ended stays =
      let run = begun c cores seed drawn starts finals given limit answer passed end words opened s in
      let all = follows old mid new (listened c.ip c.ipsend true) _ listening happened in
      subst (λ k. IsSplitSession history used_up broken old new env configured seed left limit status k) (sym stays)
      (subst (λ a. IsSplitSession history used_up broken old new env configured seed left limit a (left_behind answer finals)) (sym ended)
      (by_answer c cores finals given answer passed end fits count whole l all run just))

  -- Nothing was served.
  pub unserved : (status known : Status) (kept : Option (List Running)) → status ≡ known → kept ≡ None → Refused known seed left → Unserved history old new configured known
      → IsSplitSession history used_up broken old new env configured seed left limit status kept
  unserved status known kept is none why passed =
      subst (λ k. IsSplitSession history used_up broken old new env configured seed left limit status k) (sym none)
      (subst (λ s. IsSplitSession history used_up broken old new env configured seed left limit s None) (sym is) (inl (why, passed)))
