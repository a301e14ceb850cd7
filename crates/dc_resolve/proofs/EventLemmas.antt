-- What follows an event on a query's transmission.
use Rattle.std.proofs.Common.{◌≡◌, ℕ, List, [], ◌++◌, Option, Some, None, option_map, refl, sym, ap, ◌∙◌, subst, true≢false}
use Rattle.std.specs.Prelude.{IsNone, IsSome}
use Rattle.dc_model.specs.Event.{Event, Action}
use Rattle.dc_model.specs.Puts.{all_put}
use Rattle.dc_model.specs.Transmission.{Attempt, Accepted, Progress, waiting, packet, failed, no_port, Occasion, after_event}
use Rattle.dc_transmit.specs.Standing.{Standing, standing_at, answer_of, followed}
use Rattle.dc_transmit.specs.declared.progress.Progress.TheVariants.{Waiting, Packet, Failed, NoPort}
use Rattle.dc_reply.specs.Draft.{Draft}
use Rattle.dc_machine.specs.Turn as turn
use Rattle.dc_machine.specs.Turn.{Setting, State, Point, at_heard, at_failed, at_no_port, before, turn as turn_from, Turned, row, ends, dropped}
use Rattle.dc_model.specs.Line.{no_port as dropped_no_port}
use Rattle.dc_machine.proofs.Asking.{LinkedFrom, event_linked}
use Rattle.dc_desk.specs.View.{setting_of, setting_at}
use Rattle.dc_desk.specs.declared.desk.Desk.{Desk}
use Rattle.dc_desk.specs.declared.moment.Moment.{Moment}
use Rattle.dc_desk.specs.declared.outcome.Outcome.{Outcome}
use Rattle.dc_desk.specs.declared.outcome.Outcome.TheVariants as outcome
use Rattle.dc_desk.specs.declared.outcome.Cause.TheVariants as cause
use Rattle.dc_resolve.specs.Turns.{TookTurned, turned_by}
use Rattle.dc_resolve.proofs.TurnLemmas.{turn_last}

-- A turn at a moment is one at its milliseconds and with its words.
pub turned_at : {S O : Type 0} (acted : O → List Action → O → Type 0) (d : Desk S) (m : Moment) (now : ℕ) (draws : List ℕ) (a b : O) (p : Point) (s t : State) (r : Draft) (w : Standing) (answer : Outcome) →
    m.time ≡ now → m.draws.now ≡ draws → TookTurned acted a b (turn_from (setting_at d m) p s) t r w answer →
    TookTurned acted a b (turn_from (setting_of d.zones d.forward d.counts now draws) p s) t r w answer
turned_at acted d m now draws a b p s t r w answer e f h =
    subst (λ x. TookTurned acted a b (turn_from (setting_of d.zones d.forward d.counts x draws) p s) t r w answer) e
    (subst (λ x. TookTurned acted a b (turn_from (setting_of d.zones d.forward d.counts m.time x) p s) t r w answer) f h)

-- The packet that was accepted, part by part.
pub accepted_is : (o : Option Accepted) (p : Accepted) (bytes server : List ℕ) (place : ℕ) → o ≡ Some p
    → option_map (λ (x : Accepted). x.packet) o ≡ Some bytes → option_map (λ (x : Accepted). x.server) o ≡ Some server → option_map (λ (x : Accepted). x.place) o ≡ Some place
    → (let r : Accepted = record { packet = bytes; server = server; place = place } in r) ≡ p
accepted_is None p bytes server place e f h i = cc
accepted_is (Some q) p bytes server place e f h i =
    let same : q ≡ p = cc in
    let b : bytes ≡ q.packet = cc in
    let v : server ≡ q.server = cc in
    let l : place ≡ q.place = cc in
    (rw (b, v, l) refl) ∙ same

-- A turn behind what the transmission did.
pub turned_behind : {O : Type 0} (acted : O → List Action → O → Type 0) (both : (a b c : O) (xs ys : List Action) → acted a xs b → acted b ys c → acted a (xs ++ ys) c)
    (a b c : O) (actions : List Action) (t : Turned) (s : State) (d : Draft) (w : Standing) (answer : Outcome) →
    acted a actions b → TookTurned acted b c t s d w answer → TookTurned acted a c (before [] actions t) s d w answer
turned_behind acted both a b c actions t s d w answer h k = record { acts = both a b c actions t.actions h k.acts; state = k.state; outcome = k.outcome; same = k.same; ends = k.ends }

-- The transmission goes on.
pub waits_on : {O : Type 0} (acted : O → List Action → O → Type 0) (nil : (a : O) → acted a [] a) (a : O) (pr : Progress) (g : Setting) (s : State) (d : Draft) (w : Standing) →
    Waiting ≡ answer_of pr → w ≡ standing_at pr → TookTurned acted a a (turned_by pr g s) s d w outcome.Waiting
unfolding turned_by
waits_on acted nil a (waiting t) g s d w e f = record { acts = nil a; state = refl; outcome = turn.waits t; same = refl; ends = (t, refl, f) }
waits_on acted nil a (packet p) g s d w e f = cc
waits_on acted nil a failed g s d w e f = cc
waits_on acted nil a no_port g s d w e f = cc

-- A packet was accepted.
pub hears_on : {O : Type 0} (acted : O → List Action → O → Type 0) (a b : O) (pr : Progress) (g : Setting) (s t : State) (d : Draft) (v w : Standing) (answer : Outcome) →
    Packet ≡ answer_of pr → v ≡ standing_at pr → ((p : Accepted) → v.accepted ≡ Some p → TookTurned acted a b (turn_from g (at_heard p) s) t d w answer) →
    TookTurned acted a b (turned_by pr g s) t d w answer
unfolding turned_by
hears_on acted a b (waiting x) g s t d v w answer e f h = cc
hears_on acted a b (packet p) g s t d v w answer e f h = h p (ap (λ (x : Standing). x.accepted) f)
hears_on acted a b failed g s t d v w answer e f h = cc
hears_on acted a b no_port g s t d v w answer e f h = cc

-- No try is left.
pub fails_on : {O : Type 0} (acted : O → List Action → O → Type 0) (a b : O) (pr : Progress) (g : Setting) (s t : State) (d : Draft) (w : Standing) (answer : Outcome) →
    Failed ≡ answer_of pr → TookTurned acted a b (turn_from g at_failed s) t d w answer → TookTurned acted a b (turned_by pr g s) t d w answer
unfolding turned_by
fails_on acted a b (waiting x) g s t d w answer e h = cc
fails_on acted a b (packet p) g s t d w answer e h = cc
fails_on acted a b failed g s t d w answer e h = h
fails_on acted a b no_port g s t d w answer e h = cc

no_port_turn : (g : Setting) (s : State) → turn_from g at_no_port s ≡ record { state = s; puts = []; actions = []; outcome = Some (turn.dropped dropped_no_port) }
unfolding row turn.state_after all_put
no_port_turn g s = turn_last g at_no_port s (turn.dropped dropped_no_port) refl

-- Ten ports were refused.
pub gives_up : {O : Type 0} (acted : O → List Action → O → Type 0) (nil : (a : O) → acted a [] a) (a : O) (pr : Progress) (g : Setting) (s : State) (d : Draft) (w : Standing) →
    NoPort ≡ answer_of pr → w ≡ standing_at pr → TookTurned acted a a (turned_by pr g s) s d w (outcome.Dropped cause.NoPort)
unfolding turned_by
gives_up acted nil a (waiting x) g s d w e f = cc
gives_up acted nil a (packet p) g s d w e f = cc
gives_up acted nil a failed g s d w e f = cc
gives_up acted nil a no_port g s d w e f = record {
  acts = subst (λ (x : Turned). acted a x.actions a) (sym (no_port_turn g s)) (nil a);
  state = sym (ap (λ (x : Turned). x.state) (no_port_turn g s));
  outcome = turn.dropped dropped_no_port;
  same = sym (ap (λ (x : Turned). x.outcome) (no_port_turn g s));
  ends = (refl, subst (λ (x : Standing). IsNone x.attempt) (sym f) refl);
}

packet_links : (old k n : ℕ) (pr : Progress) → Packet ≡ answer_of pr → LinkedFrom old k pr n → n ≡ k
unfolding LinkedFrom
packet_links old k n (waiting a) e h = cc
packet_links old k n (packet p) e h = h
packet_links old k n failed e h = h
packet_links old k n no_port e h = h

failed_links : (old k n : ℕ) (pr : Progress) → Failed ≡ answer_of pr → LinkedFrom old k pr n → n ≡ k
unfolding LinkedFrom
failed_links old k n (waiting a) e h = cc
failed_links old k n (packet p) e h = h
failed_links old k n failed e h = h
failed_links old k n no_port e h = h

-- A transmission that ends uses no link.
pub packet_kept : (attempt : Option Attempt) (e : Event) (o : Occasion) → IsSome attempt → Packet ≡ answer_of (followed attempt e o).progress → (followed attempt e o).links ≡ o.links
unfolding followed
packet_kept None e o h k = absurd (true≢false (sym h))
packet_kept (Some a) e o h k = packet_links a.link o.links (after_event e a o).links (after_event e a o).progress k (event_linked e a o)

pub failed_kept : (attempt : Option Attempt) (e : Event) (o : Occasion) → IsSome attempt → Failed ≡ answer_of (followed attempt e o).progress → (followed attempt e o).links ≡ o.links
unfolding followed
failed_kept None e o h k = absurd (true≢false (sym h))
failed_kept (Some a) e o h k = failed_links a.link o.links (after_event e a o).links (after_event e a o).progress k (event_linked e a o)
