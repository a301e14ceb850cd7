-- The loop over the simulated world.
use Rattle.std.proofs.Common.{◌≡◌, ℕ, suc, ◌+◌, ◌-◌, ◌≤◌, ◌<◌, List, ap, sym, refl, subst, ◌∙◌, arith, Option, Some, None}
use Rattle.dc_model.specs.Cache.{empty}
use Rattle.dc_model.specs.Draws.{draws_of}
use Rattle.dc_model.specs.Event.{Event}
use Rattle.dc_model.specs.Rules.{Rules}
use Rattle.dc_machine.specs.Machine.{step, wake}
use Rattle.dc_machine.specs.Run.{opening}
use Rattle.dc_core.specs.Running.{Running, core_machine}
use Rattle.dc_draws.specs.Drawn.{Drawn}
use Rattle.dc_simulation.specs.World.{World, Given, first_world, next, did, did_all}
use Rattle.dc_simulation.specs.Loop.{Loop, rules, seed_of, looped_by, loop_step, loops, loop, summary}
use Rattle.dc_simulation.proofs.WorldLemmas.{next_is, none_left, all_given, all_stay}
use Rattle.dc_simulate.specs.Told.{loop_of}

-- How many events are left.
abbrev pub left : World → ℕ
left w = w.events - w.given

-- An event was left.
not_all : (o : Option ℕ) (w : World) (g : Given) → next o w ≡ Some g → w.given ≡ w.events → ⊥
not_all o w g e h = let none : next o w ≡ None = all_given o w h in let bad : Some g ≡ None = sym e ∙ none in cc

less_by : (a b : ℕ) → a ≤ b → (a ≡ b → ⊥) → a < b
less_by a b h n = grind (arith, h, n)

-- What stands between two events: what is left to do leads to where it all leads to.
pub record Goes (words : ℕ → List ℕ) (end : Loop) (events : ℕ) (s : Running) (w : World) : Type 0 where
  pub leads : loops words (left w) (loop_of s w) ≡ end
  pub same : s.rules ≡ rules
  pub within : w.given ≤ w.events
  pub all : w.events ≡ events
  pub counted : s.handled ≡ w.given

-- The opening does nothing to the world.
pub goes_first : (words : ℕ → List ℕ) (s : Running) (w v : World) → s.rules ≡ rules → s.handled ≡ 0 → w.given ≡ 0 → v ≡ did_all (core_machine.opening s) w
    → Goes words (loops words w.events (loop_of s w)) w.events s v
unfolding did did_all
goes_first words s w v r k h is =
    let most : left w ≡ w.events = omega (arith, h) in
    let first : Goes words (loops words w.events (loop_of s w)) w.events s w = record {
      leads = ap (λ (n : ℕ). loops words n (loop_of s w)) most;
      same = r;
      within = omega (arith, h);
      all = refl;
      counted = k ∙ sym h;
    } in
    subst (λ (x : World). Goes words (loops words w.events (loop_of s w)) w.events s x) (sym is) first

-- One event.
one_step : (words : ℕ → List ℕ) (s t : Running) (w v u : World) (e : Event) (drawn : List ℕ) → s.rules ≡ rules → next (wake s.machine) w ≡ Some (record { event = e; world = v })
    → drawn ≡ words w.given → t ≡ core_machine.next s e drawn → u ≡ did_all (core_machine.actions s e drawn) v → loop_step words (loop_of s w) ≡ loop_of t u
unfolding loop_step
one_step words s t w v u e drawn r is d n a =
    ap (λ (o : Option Given). looped_by o (words w.given) (loop_of s w)) is
    ∙ ap (λ (x : List ℕ). looped_by (Some (record { event = e; world = v })) x (loop_of s w)) (sym d)
    ∙ ap (λ (x : Rules). let l : Loop = record { machine = (step x s.machine e drawn).machine; world = did_all (step x s.machine e drawn).actions v } in l) (sym r)
    ∙ ap (λ (x : World). let l : Loop = record { machine = (core_machine.next s e drawn).machine; world = x } in l) (sym a)
    ∙ ap (λ (x : Running). loop_of x u) (sym n)

pub goes_more : (words : ℕ → List ℕ) (end : Loop) (events : ℕ) (s t : Running) (w v u : World) (e : Event) (drawn : List ℕ) → Goes words end events s w
    → next (wake s.machine) w ≡ Some (record { event = e; world = v }) → drawn ≡ words w.given → t ≡ core_machine.next s e drawn → u ≡ did_all (core_machine.actions s e drawn) v
    → Goes words end events t u × (left u < left w) × (u.given ≡ w.given + 1)
unfolding loops
goes_more words end events s t w v u e drawn g is d n a =
    let gv : Given = record { event = e; world = v } in
    let given_next = next_is (wake s.machine) w gv is in
    let stay = all_stay (core_machine.actions s e drawn) v in
    let given : u.given ≡ w.given + 1 = ap (λ (x : World). x.given) a ∙ stay.given ∙ given_next.given.went_on.count in
    let limit : u.events ≡ w.events = ap (λ (x : World). x.events) a ∙ stay.events ∙ given_next.given.went_on.limit in
    let less : w.given < w.events = less_by w.given w.events g.within (not_all (wake s.machine) w gv is) in
    let one : left w ≡ suc (left u) = omega (arith, less, given, limit) in
    let handled : t.handled ≡ s.handled + 1 = ap (λ (x : Running). x.handled) n in (
      record {
        leads = ap (λ (x : Loop). loops words (left u) x) (sym (one_step words s t w v u e drawn g.same is d n a)) ∙ ap (λ (k : ℕ). loops words k (loop_of s w)) (sym one) ∙ g.leads;
        same = ap (λ (x : Running). x.rules) n ∙ g.same;
        within = omega (arith, less, given, limit);
        all = limit ∙ g.all;
        counted = omega (arith, handled, g.counted, given);
      },
      omega (arith, one),
      given,
    )

pub goes_last : (words : ℕ → List ℕ) (end : Loop) (events : ℕ) (s : Running) (w v : World) → Goes words end events s w → next (wake s.machine) w ≡ None → v ≡ w → loop_of s v ≡ end
unfolding loops
goes_last words end events s w v g is same =
    let all = none_left (wake s.machine) w is in
    let none : left w ≡ 0 = omega (arith, all) in
    ap (λ (x : World). loop_of s x) same ∙ sym (ap (λ (k : ℕ). loops words k (loop_of s w)) none) ∙ g.leads

-- All of it, from what was made.
pub told_is : (seed n : ℕ) (core after : Running) (world behind : World) (draws : Drawn) (key text : List ℕ) → core ≡ record { rules = rules; machine = opening (empty 1000000); handled = 0 }
    → world ≡ first_world seed n → draws ≡ record { seed = key; given = 0 } → key ≡ seed_of seed
    → loop_of after behind ≡ loops (draws_of draws.seed) world.events (loop_of core world) → text ≡ summary (loop_of after behind) → text ≡ summary (loop seed n)
unfolding loop
told_is seed n core after world behind draws key text c w d k run is =
    let words : draws.seed ≡ seed_of seed = ap (λ (x : Drawn). x.seed) d ∙ k in
    is
    ∙ ap (λ (l : Loop). summary l) (
    run
    ∙ ap (λ (x : List ℕ). loops (draws_of x) world.events (loop_of core world)) words
    ∙ ap (λ (x : World). loops (draws_of (seed_of seed)) x.events (loop_of core x)) w
    ∙ ap (λ (x : Running). loops (draws_of (seed_of seed)) n (loop_of x (first_world seed n))) c
    )
