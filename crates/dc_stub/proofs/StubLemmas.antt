-- What each event makes of a stub.
use Rattle.std.proofs.Common.{◌≡◌, ℕ, ◌+◌, ◌≤◌, ◌∷◌, [], List, true, Option, Some, None, refl, ap, sym, ◌∙◌, subst, ◌⊎◌, inl, inr, arith}
use Rattle.dc_model.specs.Draws.{shuffled}
use Rattle.dc_model.specs.Event.{Event, Action}
use Rattle.dc_model.specs.Transmission.{Occasion, Progress, waiting, packet, failed, no_port, started, opening_of, After, after_event}
use Rattle.dc_engine.specs.View.{kind_of, event_of}
use Rattle.dc_engine.specs.declared.events.Event.{Event as CodeEvent}
use Rattle.dc_engine.specs.declared.events.Kind.{Kind as CodeKind}
use Rattle.dc_engine.specs.declared.events.Kind.TheVariants.{Tick, Request, Datagram, LinkUp, LinkBytes, LinkDown, BindRefused, ConnUp, ConnBytes, ConnDown}
use Rattle.dc_transmit.specs.Attempts.{occasion}
use Rattle.dc_transmit.specs.Standing.{Standing, standing_at, answer_of, followed}
use Rattle.dc_transmit.specs.declared.progress.Progress.{Progress as CodeProgress}
use Rattle.dc_transmit.specs.declared.progress.Progress.TheVariants.{Waiting, Packet}
use Rattle.dc_machine.proofs.Asking.{LinkedFrom, event_linked}
use Rattle.dc_lookup.specs.Asking.{Asking, Asked, still, first_attempt, begins, fresh_step, ask_by, ask_step, followed_by}
use Rattle.dc_stub.specs.Stub.{Stub}
use Rattle.dc_stub.specs.View.{stands_of, Fits}

-- A moment and places that were shuffled make the first attempt.
started_is : (a : Asking) (e : Event) (draws : List ℕ) (servers : List (List ℕ)) (now : ℕ) → servers ≡ shuffled draws a.servers → now ≡ e.now
    → started a.name a.kind true servers (occasion now draws a.links) ≡ first_attempt a e draws
started_is a e draws servers now p q =
    ap (λ ss. started a.name a.kind true ss (occasion now draws a.links)) p ∙ ap (λ n. started a.name a.kind true (shuffled draws a.servers) (occasion n draws a.links)) q

pub begun_acts : {O : Type 0} (acted : O → List Action → O → Type 0) (old new : O) (a : Asking) (e : Event) (draws : List ℕ) (servers : List (List ℕ)) (now : ℕ)
    → servers ≡ shuffled draws a.servers → now ≡ e.now
    → acted old (opening_of (started a.name a.kind true servers (occasion now draws a.links)) ∷ []) new → acted old (begins a e draws).actions new
unfolding begins
begun_acts acted old new a e draws servers now p q h = subst (λ t. acted old (opening_of t ∷ []) new) (started_is a e draws servers now p q) h

-- A stub by its parts.
abbrev pub with_stands : Asking → Option Progress → (links handled : ℕ) → Stub
with_stands a stands links handled = record { asking = record a { stands = stands; links = links }; handled = handled }

pub begun_next : (a : Asking) (handled : ℕ) (e : Event) (draws : List ℕ) (servers : List (List ℕ)) (now link : ℕ) (s : Standing)
    → servers ≡ shuffled draws a.servers → now ≡ e.now
    → s ≡ standing_at (waiting (started a.name a.kind true servers (occasion now draws a.links))) → link ≡ a.links + 1
    → with_stands a (stands_of (Some Waiting) s) link handled ≡ record { asking = (begins a e draws).asking; handled = handled }
unfolding begins
begun_next a handled e draws servers now link s p q stands links =
    ap (λ x. with_stands a (stands_of (Some Waiting) x) link handled) stands
    ∙ ap (λ l. with_stands a (Some (waiting (started a.name a.kind true servers (occasion now draws a.links)))) l handled) links
    ∙ ap (λ t. with_stands a (Some (waiting t)) (a.links + 1) handled) (started_is a e draws servers now p q)

-- The event in the inbox is of the kind that was told.
kind_is : (v : CodeEvent) (e : Event) (k : CodeKind) → event_of v e.bytes ≡ e → v.kind ≡ k → e.kind ≡ kind_of k
kind_is v e k h f = ap (λ (x : Event). x.kind) (sym h) ∙ ap kind_of f

fresh_is : (a : Asking) (e : Event) (draws : List ℕ) → a.stands ≡ None → ask_step a e draws ≡ fresh_step e.kind a e draws
unfolding ask_step ask_by
fresh_is a e draws p = ap (λ s. ask_by s a e draws) p

pub ticked : (a : Asking) (e : Event) (draws : List ℕ) (v : CodeEvent) → a.stands ≡ None → event_of v e.bytes ≡ e → v.kind ≡ Tick → ask_step a e draws ≡ begins a e draws
unfolding fresh_step
ticked a e draws v p h k = fresh_is a e draws p ∙ ap (λ x. fresh_step x a e draws) (kind_is v e Tick h k)

-- Not a tick.
abbrev pub IsOther : CodeKind → Type 0
IsOther k = (k ≡ Request) ⊎ ((k ≡ Datagram) ⊎ ((k ≡ LinkUp) ⊎ ((k ≡ LinkBytes) ⊎ ((k ≡ LinkDown) ⊎ ((k ≡ BindRefused) ⊎ ((k ≡ ConnUp) ⊎ ((k ≡ ConnBytes) ⊎ (k ≡ ConnDown))))))))

other_step : (k : CodeKind) (a : Asking) (e : Event) (draws : List ℕ) → IsOther k → fresh_step (kind_of k) a e draws ≡ still a
unfolding fresh_step
other_step k a e draws (inl f) = ap (λ x. fresh_step (kind_of x) a e draws) f
other_step k a e draws (inr (inl f)) = ap (λ x. fresh_step (kind_of x) a e draws) f
other_step k a e draws (inr (inr (inl f))) = ap (λ x. fresh_step (kind_of x) a e draws) f
other_step k a e draws (inr (inr (inr (inl f)))) = ap (λ x. fresh_step (kind_of x) a e draws) f
other_step k a e draws (inr (inr (inr (inr (inl f))))) = ap (λ x. fresh_step (kind_of x) a e draws) f
other_step k a e draws (inr (inr (inr (inr (inr (inl f)))))) = ap (λ x. fresh_step (kind_of x) a e draws) f
other_step k a e draws (inr (inr (inr (inr (inr (inr (inl f))))))) = ap (λ x. fresh_step (kind_of x) a e draws) f
other_step k a e draws (inr (inr (inr (inr (inr (inr (inr (inl f)))))))) = ap (λ x. fresh_step (kind_of x) a e draws) f
other_step k a e draws (inr (inr (inr (inr (inr (inr (inr (inr f)))))))) = ap (λ x. fresh_step (kind_of x) a e draws) f

pub passed : (a : Asking) (e : Event) (draws : List ℕ) (v : CodeEvent) → a.stands ≡ None → event_of v e.bytes ≡ e → IsOther v.kind → ask_step a e draws ≡ still a
passed a e draws v p h k = fresh_is a e draws p ∙ ap (λ (x : Event). fresh_step x.kind a e draws) (sym h) ∙ other_step v.kind a e draws k

-- Once the transmission has ended, nothing changes.
pub over_packet : (a : Asking) (e : Event) (draws : List ℕ) (s : Standing) → a.stands ≡ stands_of (Some Packet) s → Fits (Some Packet) s → ask_step a e draws ≡ still a
unfolding ask_step ask_by
over_packet a e draws s p f = ap (λ x. ask_by x a e draws) (p ∙ ap (λ x. stands_of (Some Packet) x) f.1)

pub over_failed : (a : Asking) (e : Event) (draws : List ℕ) → a.stands ≡ Some failed → ask_step a e draws ≡ still a
unfolding ask_step ask_by
over_failed a e draws p = ap (λ x. ask_by x a e draws) p

pub over_refused : (a : Asking) (e : Event) (draws : List ℕ) → a.stands ≡ Some no_port → ask_step a e draws ≡ still a
unfolding ask_step ask_by
over_refused a e draws p = ap (λ x. ask_by x a e draws) p

-- An event comes to a transmission that goes on.
pub heard_step : (a : Asking) (e : Event) (draws : List ℕ) (s : Standing) → a.stands ≡ stands_of (Some Waiting) s → (f : Fits (Some Waiting) s)
    → ask_step a e draws ≡ followed_by (followed s.attempt e (occasion e.now draws a.links)) a
unfolding ask_step ask_by followed
heard_step a e draws s p f =
    ap (λ x. ask_by x a e draws) (p ∙ ap (λ x. stands_of (Some Waiting) x) f.1)
    ∙ ap (λ x. followed_by (followed x.attempt e (occasion e.now draws a.links)) a) (sym f.1)

-- How it stands by the answer and what is kept.
pub stands_is : (p : Progress) → stands_of (Some (answer_of p)) (standing_at p) ≡ Some p
stands_is (waiting a) = refl
stands_is (packet p) = refl
stands_is failed = refl
stands_is no_port = refl

pub fits_is : (p : Progress) → Fits (Some (answer_of p)) (standing_at p)
fits_is (waiting a) = (a, refl)
fits_is (packet p) = (p, refl)
fits_is failed = refl
fits_is no_port = refl

pub fits_from : (answer : CodeProgress) (s : Standing) (p : Progress) → answer ≡ answer_of p → s ≡ standing_at p → Fits (Some answer) s
fits_from answer s p h k = subst (λ x. Fits (Some x) s) (sym h) (subst (λ x. Fits (Some (answer_of p)) x) (sym k) (fits_is p))

pub heard_next : (a : Asking) (handled : ℕ) (f : After) (answer : CodeProgress) (s : Standing) (link : ℕ)
    → answer ≡ answer_of f.progress → s ≡ standing_at f.progress → link ≡ f.links
    → with_stands a (stands_of (Some answer) s) link handled ≡ record { asking = (followed_by f a).asking; handled = handled }
heard_next a handled f answer s link h k l =
    ap (λ x. with_stands a (stands_of (Some x) s) link handled) h
    ∙ ap (λ x. with_stands a (stands_of (Some (answer_of f.progress)) x) link handled) k
    ∙ ap (λ x. with_stands a x link handled) (stands_is f.progress)
    ∙ ap (λ x. with_stands a (Some f.progress) x handled) l

-- The outside is as before where nothing changes.
pub still_acts : {O : Type 0} (acted : O → List Action → O → Type 0) (out : O) (a : Asking) (e : Event) (draws : List ℕ) → acted out [] out → ask_step a e draws ≡ still a
    → acted out (ask_step a e draws).actions out
still_acts acted out a e draws none h = subst (λ (x : Asked). acted out x.actions out) (sym h) none

pub still_next : (s : Stub) (e : Event) (draws : List ℕ) → ask_step s.asking e draws ≡ still s.asking → s ≡ record { asking = (ask_step s.asking e draws).asking; handled = s.handled }
still_next s e draws h = ap (λ (x : Asked). record { asking = x.asking; handled = s.handled }) (sym h)

-- It used one link more at most.
linked_few : (old k : ℕ) (p : Progress) (n : ℕ) → LinkedFrom old k p n → n ≤ k + 1
unfolding LinkedFrom
linked_few old k (waiting a) n (inl h) = omega (arith, h.1)
linked_few old k (waiting a) n (inr h) = omega (arith, h.1)
linked_few old k (packet p) n h = omega (arith, h)
linked_few old k failed n h = omega (arith, h)
linked_few old k no_port n h = omega (arith, h)

pub few_links : (s : Standing) (e : Event) (o : Occasion) (link : ℕ) → Fits (Some Waiting) s → link ≡ (followed s.attempt e o).links → link ≤ o.links + 1
unfolding followed
few_links s e o link f h =
    let is : link ≡ (after_event e f.0 o).links = h ∙ ap (λ x. (followed x.attempt e o).links) f.1 in
    let few = linked_few f.0.link o.links (after_event e f.0 o).progress (after_event e f.0 o).links (event_linked e f.0 o) in
    omega (arith, is, few)
