-- What several cores follow is what the resolver's machine over several cores follows.
use Rattle.std.proofs.Common.{◌≡◌, ℕ, ◌+◌, List, [], ◌∷◌, ◌++◌, sym, ◌∙◌, ap, subst}
use Rattle.std.proofs.lemmas.List.{append-nil}
use Rattle.dc_model.specs.Event.{Event}
use Rattle.dc_model.specs.Rules.{Rules}
use Rattle.dc_machine.specs.Machine.{Machine}
use Rattle.dc_engine.specs.Automaton.{state_after}
use Rattle.dc_event.specs.History.{Exchange, listened, asked, gathered, did, gave, ended, failed, bad}
use Rattle.dc_core.specs.Running.{Running, core_machine}
use Rattle.dc_split.specs.Split.{due_from, due_moment, route, next_at, split}
use Rattle.dc_split.specs.Resolver.{resolver}
use Rattle.dc_shard.specs.Follows.{Point, heard, Follows}
use Rattle.dc_shards.specs.Cores.{HaveRules, machines}
use Rattle.dc_shards.proofs.CoreLemmas.{split_states, split_acts, wakes, rules_kept}

-- A point of the cores, as one of their machines.
abbrev pub on_machines : Point (List Running) → Point (List Machine)
on_machines p = record { number = p.number; state = machines p.state; due = p.due }

-- One event

next_is : (rules : Rules) (rs : List Running) (e : Event) (words : List ℕ) → HaveRules rules rs
    → machines ((split core_machine).next rs e words) ≡ (split (resolver rules)).next (machines rs) e words
next_is rules rs e words h = split_states rules (λ n. words) 0 rs (e ∷ []) h

acts_are : (rules : Rules) (rs : List Running) (e : Event) (words : List ℕ) → HaveRules rules rs
    → (split core_machine).actions rs e words ≡ (split (resolver rules)).actions (machines rs) e words
acts_are rules rs e words h =
    sym (append-nil ((split core_machine).actions rs e words)) ∙ split_acts rules (λ n. words) 0 rs (e ∷ []) h
    ∙ append-nil ((split (resolver rules)).actions (machines rs) e words)

wake_is : (rules : Rules) (rs : List Running) → (split core_machine).wake rs ≡ (split (resolver rules)).wake (machines rs)
wake_is rules rs = ap (λ ws. due_moment (due_from 0 ws)) (wakes rs)

rules_next : (rules : Rules) (rs : List Running) (e : Event) (words : List ℕ) → HaveRules rules rs → HaveRules rules ((split core_machine).next rs e words)
unfolding next_at
rules_next rules rs e words h = rules_kept rules rs (route core_machine rs e) _ words h

heard_is : (rules : Rules) (words : ℕ → List ℕ) (p : Point (List Running)) (e : Event) → HaveRules rules p.state
    → on_machines (heard (split core_machine) words p e) ≡ heard (split (resolver rules)) words (on_machines p) e
heard_is rules words p e h =
    λ i. record { number = p.number + 1; state = next_is rules p.state e (words p.number) h i; due = p.due ++ acts_are rules p.state e (words p.number) h i }

-- What passes

pub follows_machines : (rules : Rules) (words : ℕ → List ℕ) (p q : Point (List Running)) (h : List Exchange) → HaveRules rules p.state
    → Follows (split core_machine) words p h q → Follows (split (resolver rules)) words (on_machines p) h (on_machines q)
unfolding Follows
follows_machines rules words p q [] k a = ap on_machines a
follows_machines rules words p q (listened addr send_from well ∷ h) k a = absurd a
follows_machines rules words p q (asked wake (gave e) ∷ h) k a =
    let rest = follows_machines rules words (heard (split core_machine) words p e) q h (rules_next rules p.state e (words p.number) k) a.1.1 in
    (a.0, (a.1.0 ∙ wake_is rules p.state, subst (λ r. Follows (split (resolver rules)) words r h (on_machines q)) (heard_is rules words p e k) rest))
follows_machines rules words p q (asked wake ended ∷ h) k a = absurd a
follows_machines rules words p q (asked wake failed ∷ h) k a = absurd a
follows_machines rules words p q (asked wake (bad line) ∷ h) k a = absurd a
follows_machines rules words p q (gathered e ∷ h) k a =
    let rest = follows_machines rules words (heard (split core_machine) words p e) q h (rules_next rules p.state e (words p.number) k) a in
    subst (λ r. Follows (split (resolver rules)) words r h (on_machines q)) (heard_is rules words p e k) rest
follows_machines rules words p q (did x ∷ h) k a = (a.0, (a.1.0, follows_machines rules words (record p { due = a.0 }) q h k a.1.1))

-- The wake of the cores.
pub wake_of_machines : (rules : Rules) (rs : List Running) → (split core_machine).wake rs ≡ (split (resolver rules)).wake (machines rs)
wake_of_machines rules rs = wake_is rules rs

-- All cores go by these rules behind events too.
pub rules_after : (rules : Rules) (words : ℕ → List ℕ) (n : ℕ) (rs : List Running) (es : List Event) → HaveRules rules rs → HaveRules rules (state_after (split core_machine) words n rs es)
rules_after rules words n rs [] h = h
rules_after rules words n rs (e ∷ es) h = rules_after rules words (n + 1) ((split core_machine).next rs e (words n)) es (rules_next rules rs e (words n) h)
