-- What each kind of event makes of the clients.
use Rattle.std.proofs.Common.{◌≡◌, ◌⊎◌, inl, inr, ℕ, List, sym, ap, ◌∙◌}
use Rattle.dc_model.specs.Cache.{Cache}
use Rattle.dc_model.specs.Event.{Event, Action}
use Rattle.dc_engine.specs.View.{kind_of, event_of}
use Rattle.dc_engine.specs.declared.events.Event.{Event as CodeEvent}
use Rattle.dc_engine.specs.declared.events.Kind.{Kind}
use Rattle.dc_engine.specs.declared.events.Kind.TheVariants.{Datagram, LinkUp, LinkBytes, LinkDown, BindRefused}
use Rattle.dc_machine.specs.Machine.{Machine, Input, step, step_by, link_step}
use Rattle.dc_clients.specs.View.{machine_of, rules_of, input_of, Took}
use Rattle.dc_clients.specs.declared.clients.Clients.{Clients}
use Rattle.dc_clients.proofs.TookLemmas.{took_as}

-- The event in the inbox is of the kind that was told.
kind_is : (v : CodeEvent) (e : Event) (k : Kind) → event_of v e.bytes ≡ e → v.kind ≡ k → e.kind ≡ kind_of k
kind_is v e k h f = ap (λ (x : Event). x.kind) (sym h) ∙ ap kind_of f

link_kind : (i : Input) (m : Machine) (k : Kind) → (k ≡ Datagram) ⊎ ((k ≡ LinkUp) ⊎ ((k ≡ LinkBytes) ⊎ ((k ≡ LinkDown) ⊎ (k ≡ BindRefused)))) → step_by (kind_of k) i m ≡ link_step i m
unfolding step_by
link_kind i m k (inl e) = ap (λ x. step_by (kind_of x) i m) e
link_kind i m k (inr (inl e)) = ap (λ x. step_by (kind_of x) i m) e
link_kind i m k (inr (inr (inl e))) = ap (λ x. step_by (kind_of x) i m) e
link_kind i m k (inr (inr (inr (inl e)))) = ap (λ x. step_by (kind_of x) i m) e
link_kind i m k (inr (inr (inr (inr e)))) = ap (λ x. step_by (kind_of x) i m) e

module _ {S O : Type 0} (acted : O → List Action → O → Type 0) (cache : S → Cache) where
  -- What its kind makes of the clients is the step.
  pub stepped : {x y : O} {c d : Clients S} (v : CodeEvent) (e : Event) (draws : List ℕ) (k : Kind) → event_of v e.bytes ≡ e → v.kind ≡ k
      → Took acted cache x c y d (step_by (kind_of k) (input_of c e draws) (machine_of cache c)) → Took acted cache x c y d (step (rules_of c) (machine_of cache c) e draws)
  unfolding step
  stepped {x} {y} {c} {d} v e draws k h f t =
      took_as acted cache (step (rules_of c) (machine_of cache c) e draws) (step_by (kind_of k) (input_of c e draws) (machine_of cache c))
      (ap (λ x. step_by x (input_of c e draws) (machine_of cache c)) (kind_is v e k h f)) t

  -- An event of a link.
  pub stepped_link : {x y : O} {c d : Clients S} (v : CodeEvent) (e : Event) (draws : List ℕ) → event_of v e.bytes ≡ e
      → (v.kind ≡ Datagram) ⊎ ((v.kind ≡ LinkUp) ⊎ ((v.kind ≡ LinkBytes) ⊎ ((v.kind ≡ LinkDown) ⊎ (v.kind ≡ BindRefused))))
      → Took acted cache x c y d (link_step (input_of c e draws) (machine_of cache c)) → Took acted cache x c y d (step (rules_of c) (machine_of cache c) e draws)
  unfolding step
  stepped_link {x} {y} {c} {d} v e draws h f t =
      took_as acted cache (step (rules_of c) (machine_of cache c) e draws) (link_step (input_of c e draws) (machine_of cache c))
      (ap (λ x. step_by x (input_of c e draws) (machine_of cache c)) (ap (λ (x : Event). x.kind) (sym h)) ∙ link_kind (input_of c e draws) (machine_of cache c) v.kind f) t
