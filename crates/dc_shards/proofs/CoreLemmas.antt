-- Cores that share the events are the resolver's machine over several cores.
use Rattle.std.proofs.Common.{◌≡◌, ℕ, zero, suc, ◌+◌, List, [], ◌∷◌, ◌++◌, length, map, refl, ◌∙◌, ap}
use Rattle.dc_model.specs.Event.{Event}
use Rattle.dc_model.specs.Rules.{Rules}
use Rattle.dc_machine.specs.Machine.{step, wake}
use Rattle.dc_engine.specs.Automaton.{state_after, actions_of}
use Rattle.dc_core.specs.Running.{Running, core_machine}
use Rattle.dc_split.specs.Routing.{core_by, inner, all_outer}
use Rattle.dc_split.specs.Split.{due_from, due_core, changed, given_at, route, next_at, actions_at, split}
use Rattle.dc_split.specs.Resolver.{resolver}
use Rattle.dc_shards.specs.Cores.{HaveRules, machines}

lengths : (rs : List Running) → length rs ≡ length (machines rs)
lengths [] = refl
lengths (r ∷ rs) = ap suc (lengths rs)

pub wakes : (rs : List Running) → map (λ r. wake r.machine) rs ≡ map (λ m. wake m) (machines rs)
wakes [] = refl
wakes (r ∷ rs) = ap (λ ws. wake r.machine ∷ ws) (wakes rs)

route_is : (rules : Rules) (rs : List Running) (e : Event) → route core_machine rs e ≡ route (resolver rules) (machines rs) e
unfolding route
route_is rules rs e = λ i. core_by e.kind (lengths rs i) (due_core (due_from 0 (wakes rs i))) e

given_is : (rules : Rules) (rs : List Running) (n : ℕ) (e : Event) (words : List ℕ) → HaveRules rules rs
    → given_at n (λ s. (step s.rules s.machine e words).actions) rs ≡ given_at n (λ m. (step rules m e words).actions) (machines rs)
unfolding given_at
given_is rules [] n e words h = refl
given_is rules (r ∷ rs) zero e words h = ap (λ x. (step x r.machine e words).actions) h.0
given_is rules (r ∷ rs) (suc n) e words h = given_is rules rs n e words h.1

changed_is : (rules : Rules) (rs : List Running) (n : ℕ) (e : Event) (words : List ℕ) → HaveRules rules rs
    → machines (changed n (λ s. core_machine.next s e words) rs) ≡ changed n (λ m. (step rules m e words).machine) (machines rs)
unfolding changed
changed_is rules [] n e words h = refl
changed_is rules (r ∷ rs) zero e words h = ap (λ x. (step x r.machine e words).machine ∷ machines rs) h.0
changed_is rules (r ∷ rs) (suc n) e words h = ap (λ ms. r.machine ∷ ms) (changed_is rules rs n e words h.1)

pub rules_kept : (rules : Rules) (rs : List Running) (n : ℕ) (e : Event) (words : List ℕ) → HaveRules rules rs → HaveRules rules (changed n (λ s. core_machine.next s e words) rs)
unfolding changed
rules_kept rules [] n e words h = tt
rules_kept rules (r ∷ rs) zero e words h = h
rules_kept rules (r ∷ rs) (suc n) e words h = (h.0, rules_kept rules rs n e words h.1)

pub split_states : (rules : Rules) (words : ℕ → List ℕ) (i : ℕ) (rs : List Running) (es : List Event) → HaveRules rules rs
    → machines (state_after (split core_machine) words i rs es) ≡ state_after (split (resolver rules)) words i (machines rs) es
unfolding next_at
split_states rules words i rs [] h = refl
split_states rules words i rs (e ∷ es) h =
    let c = route core_machine rs e in
    let ts = changed c (λ s. core_machine.next s (inner (length rs) e) (words i)) rs in
    let one : machines ts ≡ changed c (λ m. (step rules m (inner (length rs) e) (words i)).machine) (machines rs) = changed_is rules rs c (inner (length rs) e) (words i) h in
    split_states rules words (i + 1) ts es (rules_kept rules rs c (inner (length rs) e) (words i) h)
    ∙ ap (λ ms. state_after (split (resolver rules)) words (i + 1) ms es) one
    ∙ (λ j. state_after (split (resolver rules)) words (i + 1) (changed (route_is rules rs e j) (λ m. (step rules m (inner (lengths rs j) e) (words i)).machine) (machines rs)) es)

pub split_acts : (rules : Rules) (words : ℕ → List ℕ) (i : ℕ) (rs : List Running) (es : List Event) → HaveRules rules rs
    → actions_of (split core_machine) words i rs es ≡ actions_of (split (resolver rules)) words i (machines rs) es
unfolding next_at actions_at
split_acts rules words i rs [] h = refl
split_acts rules words i rs (e ∷ es) h =
    let c = route core_machine rs e in
    let ts = changed c (λ s. core_machine.next s (inner (length rs) e) (words i)) rs in
    let one : machines ts ≡ changed c (λ m. (step rules m (inner (length rs) e) (words i)).machine) (machines rs) = changed_is rules rs c (inner (length rs) e) (words i) h in
    let here = given_is rules rs c (inner (length rs) e) (words i) h in
    let later = split_acts rules words (i + 1) ts es (rules_kept rules rs c (inner (length rs) e) (words i) h)
    ∙ ap (λ ms. actions_of (split (resolver rules)) words (i + 1) ms es) one in
    (λ j. all_outer (length rs) c (here j) ++ later j)
    ∙ (λ j. all_outer (lengths rs j) (route_is rules rs e j) (given_at (route_is rules rs e j) (λ m. (step rules m (inner (lengths rs j) e) (words i)).actions) (machines rs))
    ++ actions_of (split (resolver rules)) words (i + 1) (changed (route_is rules rs e j) (λ m. (step rules m (inner (lengths rs j) e) (words i)).machine) (machines rs)) es)
