-- What follows an event by its kind.
use Rattle.std.proofs.Common.{◌≡◌, ◌≢◌, ℕ, Bool, true, false, nat_eq, List, [], if◌then◌else◌, refl, sym, ◌∙◌, ap}
use Rattle.dc_model.specs.Event.{Event}
use Rattle.dc_model.specs.Transmission.{Attempt, Occasion, After, stays, is_from_server, after_datagram, after_link_bytes, after_link_up, after_refusal, bad_news, after_tick, after_link_event, after_kind, after_event}
use Rattle.dc_transmit.specs.Attempts.{occasion}
use Rattle.dc_transmit.proofs.TestLemmas.{eq_no, eq_yes}
use Rattle.dc_engine.specs.View.{kind_of, event_of}
use Rattle.dc_engine.specs.declared.events.Event.{Event as CodeEvent}
use Rattle.dc_engine.specs.declared.events.Kind.{Kind as CodeKind}
use Rattle.dc_engine.specs.declared.events.Kind.TheVariants.{Tick, Request, Datagram, LinkUp, LinkBytes, LinkDown, BindRefused, ConnUp, ConnBytes, ConnDown}

-- What follows an event on the link, by the kind that the code reads.
abbrev pub link_event : CodeKind → Event → Attempt → Occasion → After
link_event k e a o = after_link_event (kind_of k) e a o

by_kind : (v : CodeEvent) (e : Event) (a : Attempt) (draws : List ℕ) (links : ℕ) (k : CodeKind) → event_of v e.bytes ≡ e → v.kind ≡ k
    → after_link_event e.kind e a (occasion e.now draws links) ≡ link_event k (event_of v e.bytes) a (occasion v.now draws links)
by_kind v e a draws links k h h' =
    sym (ap (λ x. after_link_event x.kind x a (occasion x.now draws links)) h) ∙ ap (λ x. link_event x (event_of v e.bytes) a (occasion v.now draws links)) h'

pub link_datagram : (v : CodeEvent) (e : Event) (a : Attempt) (draws : List ℕ) (links : ℕ) → event_of v e.bytes ≡ e → v.kind ≡ Datagram → is_from_server a (event_of v []) ≡ true
    → {bytes : List ℕ} → bytes ≡ e.bytes → after_link_event e.kind e a (occasion e.now draws links) ≡ after_datagram bytes a (occasion v.now draws links)
unfolding after_link_event
link_datagram v e a draws links h k f {bytes} b =
    by_kind v e a draws links Datagram h k
    ∙ (ap (λ x. if x then after_datagram e.bytes a (occasion v.now draws links) else stays a links) f ∙ ap (λ x. after_datagram x a (occasion v.now draws links)) (sym b))

pub link_datagram_strange : (v : CodeEvent) (e : Event) (a : Attempt) (draws : List ℕ) (links : ℕ) → event_of v e.bytes ≡ e → v.kind ≡ Datagram → is_from_server a (event_of v []) ≡ false
    → after_link_event e.kind e a (occasion e.now draws links) ≡ stays a links
unfolding after_link_event
link_datagram_strange v e a draws links h k f =
    by_kind v e a draws links Datagram h k ∙ ap (λ x. if x then after_datagram e.bytes a (occasion v.now draws links) else stays a links) f

pub link_bytes_from : (v : CodeEvent) (e : Event) (a : Attempt) (draws : List ℕ) (links : ℕ) → event_of v e.bytes ≡ e → v.kind ≡ LinkBytes → is_from_server a (event_of v []) ≡ true
    → {bytes : List ℕ} → bytes ≡ e.bytes → after_link_event e.kind e a (occasion e.now draws links) ≡ after_link_bytes bytes a (occasion v.now draws links)
unfolding after_link_event
link_bytes_from v e a draws links h k f {bytes} b =
    by_kind v e a draws links LinkBytes h k
    ∙ (ap (λ x. if x then after_link_bytes e.bytes a (occasion v.now draws links) else stays a links) f ∙ ap (λ x. after_link_bytes x a (occasion v.now draws links)) (sym b))

pub link_bytes_strange : (v : CodeEvent) (e : Event) (a : Attempt) (draws : List ℕ) (links : ℕ) → event_of v e.bytes ≡ e → v.kind ≡ LinkBytes → is_from_server a (event_of v []) ≡ false
    → after_link_event e.kind e a (occasion e.now draws links) ≡ stays a links
unfolding after_link_event
link_bytes_strange v e a draws links h k f =
    by_kind v e a draws links LinkBytes h k ∙ ap (λ x. if x then after_link_bytes e.bytes a (occasion v.now draws links) else stays a links) f

pub link_is_up : (v : CodeEvent) (e : Event) (a : Attempt) (draws : List ℕ) (links : ℕ) → event_of v e.bytes ≡ e → v.kind ≡ LinkUp
    → after_link_event e.kind e a (occasion e.now draws links) ≡ after_link_up a links
unfolding after_link_event
link_is_up v e a draws links h k = by_kind v e a draws links LinkUp h k

pub link_is_down : (v : CodeEvent) (e : Event) (a : Attempt) (draws : List ℕ) (links : ℕ) → event_of v e.bytes ≡ e → v.kind ≡ LinkDown
    → after_link_event e.kind e a (occasion e.now draws links) ≡ bad_news a (occasion v.now draws links)
unfolding after_link_event
link_is_down v e a draws links h k = by_kind v e a draws links LinkDown h k

pub link_refused : (v : CodeEvent) (e : Event) (a : Attempt) (draws : List ℕ) (links : ℕ) → event_of v e.bytes ≡ e → v.kind ≡ BindRefused
    → after_link_event e.kind e a (occasion e.now draws links) ≡ after_refusal a (occasion v.now draws links)
unfolding after_link_event
link_refused v e a draws links h k = by_kind v e a draws links BindRefused h k

ignored : (k : CodeKind) (e : Event) (a : Attempt) (o : Occasion) → (k ≡ Datagram → ⊥) → (k ≡ LinkBytes → ⊥) → (k ≡ LinkUp → ⊥) → (k ≡ LinkDown → ⊥) → (k ≡ BindRefused → ⊥)
    → link_event k e a o ≡ stays a o.links
unfolding after_link_event
ignored Tick e a o d b u n r = refl
ignored Request e a o d b u n r = refl
ignored Datagram e a o d b u n r = absurd (d refl)
ignored LinkUp e a o d b u n r = absurd (u refl)
ignored LinkBytes e a o d b u n r = absurd (b refl)
ignored LinkDown e a o d b u n r = absurd (n refl)
ignored BindRefused e a o d b u n r = absurd (r refl)
ignored ConnUp e a o d b u n r = refl
ignored ConnBytes e a o d b u n r = refl
ignored ConnDown e a o d b u n r = refl

pub link_other : (v : CodeEvent) (e : Event) (a : Attempt) (draws : List ℕ) (links : ℕ) → event_of v e.bytes ≡ e
    → (v.kind ≡ Datagram → ⊥) → (v.kind ≡ LinkBytes → ⊥) → (v.kind ≡ LinkUp → ⊥) → (v.kind ≡ LinkDown → ⊥) → (v.kind ≡ BindRefused → ⊥)
    → after_link_event e.kind e a (occasion e.now draws links) ≡ stays a links
link_other v e a draws links h d b u n r =
    by_kind v e a draws links v.kind h refl ∙ ignored v.kind (event_of v e.bytes) a (occasion v.now draws links) d b u n r

-- Events

by_tick : (v : CodeEvent) (e : Event) (a : Attempt) (draws : List ℕ) (links : ℕ) (k : CodeKind) → event_of v e.bytes ≡ e → v.kind ≡ k
    → after_event e a (occasion e.now draws links) ≡ after_kind (kind_of k) (event_of v e.bytes) a (occasion v.now draws links)
unfolding after_event
by_tick v e a draws links k h h' =
    sym (ap (λ x. after_kind x.kind x a (occasion x.now draws links)) h) ∙ ap (λ x. after_kind (kind_of x) (event_of v e.bytes) a (occasion v.now draws links)) h'

pub tick_follows : (v : CodeEvent) (e : Event) (a : Attempt) (draws : List ℕ) (links : ℕ) → event_of v e.bytes ≡ e → v.kind ≡ Tick
    → after_event e a (occasion e.now draws links) ≡ after_tick a (occasion v.now draws links)
unfolding after_kind
tick_follows v e a draws links h k = by_tick v e a draws links Tick h k

choice : Bool → CodeKind → Event → Attempt → Occasion → After
choice b k e a o = if b then link_event k e a o else stays a o.links

other_by : (k : CodeKind) (e : Event) (a : Attempt) (o : Occasion) → (k ≡ Tick → ⊥) → after_kind (kind_of k) e a o ≡ choice (nat_eq e.id a.link) k e a o
unfolding after_kind choice
other_by Tick e a o h = absurd (h refl)
other_by Request e a o h = refl
other_by Datagram e a o h = refl
other_by LinkUp e a o h = refl
other_by LinkBytes e a o h = refl
other_by LinkDown e a o h = refl
other_by BindRefused e a o h = refl
other_by ConnUp e a o h = refl
other_by ConnBytes e a o h = refl
other_by ConnDown e a o h = refl

pub other_link : (v : CodeEvent) (e : Event) (a : Attempt) (draws : List ℕ) (links : ℕ) → event_of v e.bytes ≡ e → (v.kind ≡ Tick → ⊥) → v.id ≢ a.link
    → after_event e a (occasion e.now draws links) ≡ stays a links
unfolding choice
other_link v e a draws links h t n =
    by_tick v e a draws links v.kind h refl
    ∙ (other_by v.kind (event_of v e.bytes) a (occasion v.now draws links) t ∙ ap (λ b. choice b v.kind (event_of v e.bytes) a (occasion v.now draws links)) (eq_no v.id a.link n))

pub own_link : (v : CodeEvent) (e : Event) (a : Attempt) (draws : List ℕ) (links : ℕ) → event_of v e.bytes ≡ e → (v.kind ≡ Tick → ⊥) → v.id ≡ a.link
    → after_event e a (occasion e.now draws links) ≡ after_link_event e.kind e a (occasion e.now draws links)
unfolding choice
own_link v e a draws links h t n =
    by_tick v e a draws links v.kind h refl
    ∙ (other_by v.kind (event_of v e.bytes) a (occasion v.now draws links) t
    ∙ (ap (λ b. choice b v.kind (event_of v e.bytes) a (occasion v.now draws links)) (eq_yes v.id a.link n) ∙ sym (by_kind v e a draws links v.kind h refl)))
