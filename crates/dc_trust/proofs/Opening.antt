-- What goes out to servers is opened for the attempts that are made.
use Rattle.std.proofs.Common.{◌≡◌, ℕ, ◌+◌, ◌<◌, ◌≤◌, ◌⊎◌, inl, inr, Bool, true, false, true≢false, cond, not, ◌&&◌, ◌||◌, ltb, leb, List, [], ◌∷◌, ◌++◌, filter, length, Option, Some, None, refl, sym, subst, arith}
use Rattle.std.specs.Prelude.{nat_eq}
use Rattle.std.proofs.lemmas.Bool.Decides.{nat_tests}
use Rattle.dc_model.specs.Message.{Request, request_of}
use Rattle.dc_model.specs.Event.{Event, Kind, tick, request, datagram, link_up, link_bytes, link_down, bind_refused, conn_up, conn_bytes, conn_down, Action, reply, conn_reply, conn_close, udp, tcp, link_write, link_close, line}
use Rattle.dc_model.specs.Rules.{Rules}
use Rattle.dc_model.specs.Line.{DropCause, CloseCause, close_closed, close_displaced, close_long, close_proto, close_timeout}
use Rattle.dc_model.specs.Reply.{Reply}
use Rattle.dc_model.specs.Transmission.{Try, Attempt, Occasion, Progress, waiting, packet, failed, no_port, After, tcp_plan, stays, linked, opening_of, sent, tried, next_try, bad_news, is_patient, asked_by_tcp, is_relevant, is_truncated, is_served, is_whole, accepted, answered, after_datagram, after_whole, after_gathered, after_link_bytes, after_link_up, after_refusal, after_tick, is_from_server, after_link_event, after_kind, after_event}
use Rattle.dc_machine.specs.Query.{Query, query_for}
use Rattle.dc_machine.specs.Turn.{State, Point, at_begin, at_look, at_heard, at_failed, at_no_port, Outcome, waits, replied, dropped, turn}
use Rattle.dc_machine.specs.Good.{IsGood}
use Rattle.dc_machine.specs.Machine.{Client, by_udp, by_tcp, Active, Connection, Machine, Input, Stepped, Picked, udp_queries, connection, with_query, with_connection, behind_message, drop_actions, drop_cause, closed_alone, closed_by, closed_with, replied_to, closed_if_open, dropped_for, settled, outcome_or, setting_of, occasion_of, turned_by, turned, begun, progressed, progressed_by, given_to, is_refused, displaced_query, with_room, accepted_udp, request_by, request_step, is_ready, first_message, asked_by, asked, displaced_connection, with_place, opened, conn_up_by, gathered_by, conn_bytes_by, conn_down_by, Holder, of_query, of_connection, deadline_of, earliest, holders, first_ready, due_step, due_by, tick_by, link_step, step_by, step}
use Rattle.dc_machine.specs.Kept.{AllOf, IsSound}
use Rattle.dc_machine.specs.Run.{newly_asked}
use Rattle.dc_machine.proofs.Lists.{all_map}
use Rattle.dc_machine.proofs.Rows.{Leaves, turn_leaves}
use Rattle.dc_machine.proofs.Picks.{IfPicked, if_picked, pick_is}
use Rattle.dc_machine.proofs.Asking.{event_linked}
use Rattle.dc_trust.specs.Trust.{Among}
use Rattle.dc_trust.specs.Promises.{IsAttempted}
use Rattle.dc_trust.proofs.Among.{all_on, all_nil, of_among, among_mid}
use Rattle.dc_trust.proofs.Silence.{IsLine, IsSaidBy, IsSaidOf, turn_tells}
use Rattle.dc_trust.proofs.Stepping.{good_at, begin_good}
use Rattle.dc_trust.proofs.Ticking.{linked_least}

-- An action by which nothing goes out to a server for the first time.
unfoldable pub IsMute : Action → Type 0
IsMute (reply addr port b) = Unit {0}
IsMute (conn_reply number b) = Unit {0}
IsMute (conn_close number) = Unit {0}
IsMute (udp link port server query) = ⊥
IsMute (tcp link port server) = ⊥
IsMute (link_write link b) = Unit {0}
IsMute (link_close link) = Unit {0}
IsMute (line text) = Unit {0}

abbrev AreMute : List Action → Type 0
AreMute as' = AllOf (λ (x : Action). IsMute x) as'

none_mute : AreMute []
none_mute = all_nil (λ (x : Action). IsMute x)

one_mute : (x : Action) → IsMute x → AreMute (x ∷ [])
unfolding AllOf
one_mute x h = (h, tt)

two_mute : (x y : Action) → IsMute x → IsMute y → AreMute (x ∷ y ∷ [])
unfolding AllOf
two_mute x y h k = (h, (k, tt))

on_mute : (as' bs : List Action) → AreMute as' → AreMute bs → AreMute (as' ++ bs)
on_mute as' bs h k = all_on (λ (x : Action). IsMute x) as' bs h k

line_mute : (t : List ℕ) → AreMute (line t ∷ [])
unfolding IsMute
line_mute t = one_mute (line t) tt

close_mute : (n : ℕ) → AreMute (link_close n ∷ [])
unfolding IsMute
close_mute n = one_mute (link_close n) tt

said_mute : (x : Action) → IsLine x → IsMute x
unfolding IsLine IsMute
said_mute (reply addr port b) h = tt
said_mute (conn_reply number b) h = tt
said_mute (conn_close number) h = tt
said_mute (udp link port server query) h = absurd h
said_mute (tcp link port server) h = absurd h
said_mute (link_write link b) h = tt
said_mute (link_close link) h = tt
said_mute (line text) h = tt

-- What an event does for an attempt

unfoldable pub OpensBy : ℕ → Progress → Action → Type 0
OpensBy k (waiting b) x = IsMute x ⊎ ((x ≡ opening_of b) × (k < b.link))
OpensBy k (packet p) x = IsMute x
OpensBy k failed x = IsMute x
OpensBy k no_port x = IsMute x

mute_opens : (k : ℕ) (p : Progress) (x : Action) → IsMute x → OpensBy k p x
unfolding OpensBy
mute_opens k (waiting b) x h = inl h
mute_opens k (packet p) x h = h
mute_opens k failed x h = h
mute_opens k no_port x h = h

abbrev Opens : ℕ → After → Type 0
Opens k f = AllOf (λ (x : Action). OpensBy k f.progress x) f.actions

mute_all : (k : ℕ) (p : Progress) (as' : List Action) → AreMute as' → AllOf (λ (x : Action). OpensBy k p x) as'
mute_all k p as' h = all_map (λ (x : Action). IsMute x) _ as' (λ x m. mute_opens k p x m) h

by_cond : (k : ℕ) (v : Bool) (f f' : After) → Opens k f → Opens k f' → Opens k (cond v f f')
by_cond k true f f' h g = h
by_cond k false f f' h g = g

stays_opens : (k : ℕ) (a : Attempt) (n : ℕ) → Opens k (stays a n)
stays_opens k a n = mute_all k (waiting a) [] none_mute

linked_opens : (b : Attempt) (o : Occasion) → AllOf (λ (x : Action). OpensBy o.links (waiting (linked b o)) x) (opening_of (linked b o) ∷ [])
unfolding OpensBy AllOf linked
linked_opens b o = (inr (refl, omega arith), tt)

sent_opens : (before : List Action) (b : Attempt) (o : Occasion) → AreMute before → Opens o.links (sent before b o)
unfolding sent
sent_opens before b o h = all_on (λ (x : Action). OpensBy o.links (waiting (linked b o)) x) before _ (mute_all o.links (waiting (linked b o)) before h) (linked_opens b o)

tried_opens : (ts : List Try) (before : List Action) (b : Attempt) (o : Occasion) → AreMute before → Opens o.links (tried ts before b o)
unfolding tried
tried_opens [] before b o h = mute_all o.links failed before h
tried_opens (t ∷ ts) before b o h = sent_opens before _ o h

next_opens : (a : Attempt) (o : Occasion) → Opens o.links (next_try a o)
unfolding next_try
next_opens a o = tried_opens a.later _ a o (close_mute a.link)

bad_opens : (a : Attempt) (o : Occasion) → Opens o.links (bad_news a o)
unfolding bad_news
bad_opens a o = by_cond o.links (is_patient a) _ _ (stays_opens o.links a o.links) (next_opens a o)

accepted_opens : (k : ℕ) (bs : List ℕ) (a : Attempt) (n : ℕ) → Opens k (accepted bs a n)
unfolding accepted
accepted_opens k bs a n = mute_all k _ _ (close_mute a.link)

answered_opens : (bs : List ℕ) (a : Attempt) (o : Occasion) → Opens o.links (answered bs a o)
unfolding answered asked_by_tcp
answered_opens bs a o = by_cond o.links (is_truncated bs) _ _ (tried_opens (tcp_plan a.servers) _ (record a { over_tcp = true }) o (close_mute a.link))
    (by_cond o.links (is_served bs) _ _ (accepted_opens o.links bs a o.links) (bad_opens a o))

datagram_opens : (bs : List ℕ) (a : Attempt) (o : Occasion) → Opens o.links (after_datagram bs a o)
unfolding after_datagram
datagram_opens bs a o = by_cond o.links (not a.over_tcp && (leb (length bs) 512 && is_relevant a bs)) _ _ (answered_opens bs a o) (stays_opens o.links a o.links)

whole_opens : (bs : List ℕ) (a : Attempt) (o : Occasion) → Opens o.links (after_whole bs a o)
unfolding after_whole
whole_opens bs a o = by_cond o.links (is_relevant a bs && (not (is_truncated bs) && is_served bs)) _ _ (accepted_opens o.links bs a o.links) (next_opens a o)

gathered_opens : (a : Attempt) (o : Occasion) → Opens o.links (after_gathered a o)
unfolding after_gathered
gathered_opens a o = by_cond o.links (is_whole a.gathered) _ _ (whole_opens _ a o) (stays_opens o.links a o.links)

bytes_opens : (bs : List ℕ) (a : Attempt) (o : Occasion) → Opens o.links (after_link_bytes bs a o)
unfolding after_link_bytes
bytes_opens bs a o = by_cond o.links (a.over_tcp && a.is_up) _ _ (gathered_opens (record a { gathered = a.gathered ++ bs }) o) (stays_opens o.links a o.links)

up_opens : (k : ℕ) (a : Attempt) (n : ℕ) → Opens k (after_link_up a n)
unfolding after_link_up IsMute
up_opens k a n = by_cond k (a.over_tcp && not a.is_up) _ _ (mute_all k _ _ (one_mute (link_write a.link _) tt)) (stays_opens k a n)

refusal_opens : (a : Attempt) (o : Occasion) → Opens o.links (after_refusal a o)
unfolding after_refusal
refusal_opens a o = by_cond o.links (leb 9 a.refusals) _ _ (mute_all o.links no_port _ (close_mute a.link)) (sent_opens [] _ o none_mute)

tick_opens : (a : Attempt) (o : Occasion) → Opens o.links (after_tick a o)
unfolding after_tick
tick_opens a o = by_cond o.links (leb a.deadline o.now) _ _ (next_opens a o) (stays_opens o.links a o.links)

link_event_opens : (k : Kind) (e : Event) (a : Attempt) (o : Occasion) → Opens o.links (after_link_event k e a o)
unfolding after_link_event
link_event_opens datagram e a o = by_cond o.links (is_from_server a e) _ _ (datagram_opens e.bytes a o) (stays_opens o.links a o.links)
link_event_opens link_up e a o = up_opens o.links a o.links
link_event_opens link_bytes e a o = by_cond o.links (is_from_server a e) _ _ (bytes_opens e.bytes a o) (stays_opens o.links a o.links)
link_event_opens link_down e a o = bad_opens a o
link_event_opens bind_refused e a o = refusal_opens a o
link_event_opens tick e a o = stays_opens o.links a o.links
link_event_opens request e a o = stays_opens o.links a o.links
link_event_opens conn_up e a o = stays_opens o.links a o.links
link_event_opens conn_bytes e a o = stays_opens o.links a o.links
link_event_opens conn_down e a o = stays_opens o.links a o.links

kind_opens : (k : Kind) (e : Event) (a : Attempt) (o : Occasion) → Opens o.links (after_kind k e a o)
unfolding after_kind
kind_opens tick e a o = tick_opens a o
kind_opens k e a o = by_cond o.links (nat_eq e.id a.link) _ _ (link_event_opens k e a o) (stays_opens o.links a o.links)

event_opens : (e : Event) (a : Attempt) (o : Occasion) → Opens o.links (after_event e a o)
unfolding after_event
event_opens e a o = kind_opens e.kind e a o

-- Steps

among_cond : (a b : Active) (bs cs : List Active) (v : Bool) → Among a cs → Among a (cond v (a ∷ b ∷ bs) (b ∷ cs))
unfolding Among
among_cond a b bs cs true h = inl refl
among_cond a b bs cs false h = inr h

with_among : (a : Active) (as' : List Active) → Among a (with_query a as')
unfolding Among with_query
with_among a [] = inl refl
with_among a (b ∷ bs) = among_cond a b bs (with_query a bs) _ (with_among a bs)

module _ (i : Input) (old : Machine) where
  -- It is opened for a query that waits on a new link.
  pub record HasOpened (m : Machine) (x : Action) : Type 0 where
    pub it : Active
    pub there : Among it m.queries
    pub link : old.links < it.attempt.link
    pub is_it : x ≡ opening_of it.attempt

  abbrev pub IsOpened : Machine → Action → Type 0
  IsOpened m x = IsMute x ⊎ HasOpened m x

  abbrev pub AreOpened : Machine → List Action → Type 0
  AreOpened m as' = AllOf (λ (x : Action). IsOpened m x) as'

  mute_opened : (m : Machine) (as' : List Action) → AreMute as' → AreOpened m as'
  mute_opened m as' h = all_map (λ (x : Action). IsMute x) (λ (x : Action). IsOpened m x) as' (λ x k. inl k) h

  behind : (m : Machine) (as' bs : List Action) → AreMute as' → AreOpened m bs → AreOpened m (as' ++ bs)
  behind m as' bs h k = all_on (λ (x : Action). IsOpened m x) as' bs (mute_opened m as' h) k

  abbrev Opened : Stepped → Type 0
  Opened s = AreOpened s.machine s.actions

  opened_cond : (v : Bool) (s t : Stepped) → Opened s → Opened t → Opened (cond v s t)
  opened_cond true s t h k = h
  opened_cond false s t h k = k

  mute_cond : (v : Bool) (s t : Stepped) → AreMute s.actions → AreMute t.actions → AreMute (cond v s t).actions
  mute_cond true s t h k = h
  mute_cond false s t h k = k

  -- What makes no attempt

  alone_mute : (cause : CloseCause) (c : Connection) (m : Machine) → AreMute (closed_alone cause c m).actions
  unfolding closed_alone IsMute
  alone_mute cause c m = two_mute _ _ tt tt

  drop_mute : (cause : DropCause) (a : Active) → AreMute (drop_actions cause a)
  unfolding IsMute
  drop_mute cause a = two_mute _ _ tt tt

  closed_by_mute : (o : Option (Picked Active)) (cause : CloseCause) (c : Connection) (m : Machine) → AreMute (closed_by o cause c m).actions
  unfolding closed_by
  closed_by_mute None cause c m = alone_mute cause c m
  closed_by_mute (Some p) cause c m = on_mute _ _ (drop_mute (drop_cause cause) p.it) (alone_mute cause c (record m { queries = p.others; dropped = m.dropped + 1 }))

  closed_mute : (cause : CloseCause) (c : Connection) (m : Machine) → AreMute (closed_with cause c m).actions
  unfolding closed_with
  closed_mute cause c m = closed_by_mute _ cause c m

  replied_mute : (client : Client) (serial now : ℕ) (r : Reply) (m : Machine) → AreMute (replied_to client serial now r m).actions
  unfolding replied_to IsMute
  replied_mute (by_udp addr port) serial now r m = two_mute _ _ tt tt
  replied_mute (by_tcp number) serial now r m = two_mute _ _ tt tt

  open_mute : (o : Option Connection) (m : Machine) → AreMute (closed_if_open o m).actions
  open_mute None m = none_mute
  open_mute (Some c) m = alone_mute _ c m

  dropped_mute : (client : Client) (m : Machine) → AreMute (dropped_for client m).actions
  unfolding dropped_for
  dropped_mute (by_udp addr port) m = none_mute
  dropped_mute (by_tcp number) m = open_mute (connection number m) m

  settled_mute : (o : Outcome) (client : Client) (serial now : ℕ) (q : Query) (m : Machine) → AreMute (settled o client serial now q m).actions
  unfolding settled
  settled_mute (waits a) client serial now q m = none_mute
  settled_mute (replied r) client serial now q m = replied_mute client serial now r m
  settled_mute (dropped cause) client serial now q m = on_mute _ _ (line_mute _) (dropped_mute client (record m { dropped = m.dropped + 1 }))

  displaced_mute : (o : Option (Picked Active)) (m : Machine) → AreMute (displaced_query o m).actions
  unfolding displaced_query
  displaced_mute None m = none_mute
  displaced_mute (Some p) m = drop_mute _ p.it

  room_mute : (m : Machine) → AreMute (with_room m).actions
  unfolding with_room
  room_mute m = mute_cond (leb 200 (length (udp_queries m.queries))) _ _ (displaced_mute _ m) none_mute

  first_mute : (cs : List Connection) (m : Machine) → AreMute (displaced_connection cs m).actions
  unfolding displaced_connection
  first_mute [] m = none_mute
  first_mute (c ∷ cs) m = closed_mute close_displaced c m

  place_mute : (m : Machine) → AreMute (with_place m).actions
  unfolding with_place
  place_mute m = mute_cond (leb 20 (length m.connections)) _ _ (first_mute m.connections m) none_mute

  open_new_mute : (s : Stepped) → AreMute s.actions → AreMute (opened i s).actions
  unfolding opened
  open_new_mute s h = on_mute s.actions _ h (line_mute _)

  conn_up_mute : (o : Option Connection) (m : Machine) → AreMute (conn_up_by o i m).actions
  unfolding conn_up_by IsMute
  conn_up_mute (Some c) m = none_mute
  conn_up_mute None m = mute_cond (is_refused i) _ _ (one_mute _ tt) (open_new_mute (with_place m) (place_mute m))

  conn_down_mute : (o : Option Connection) (m : Machine) → AreMute (conn_down_by o m).actions
  unfolding conn_down_by
  conn_down_mute None m = none_mute
  conn_down_mute (Some c) m = closed_mute close_closed c m

  -- Turns

  said_opened : (o : Option Outcome) (k : ℕ) (s : State) (client : Client) (serial now : ℕ) (m : Machine) (x : Action) → Leaves k (outcome_or o) s → old.links ≤ k → IsSaidOf o x → IsOpened (settled (outcome_or o) client serial now s.query m).machine x
  unfolding IsSaidOf IsSaidBy Leaves settled
  said_opened None k s client serial now m x l g h = inl (said_mute x h)
  said_opened (Some (waits a)) k s client serial now m x l g (inl h) = inl (said_mute x h)
  said_opened (Some (waits a)) k s client serial now m x l g (inr e) =
      let b : Active = record { serial = serial; client = client; query = s.query; attempt = a } in
      inr (record { it = b; there = with_among b m.queries; link = omega (arith, l.1.0, g); is_it = e })
  said_opened (Some (replied r)) k s client serial now m x l g h = inl (said_mute x h)
  said_opened (Some (dropped cause)) k s client serial now m x l g h = inl (said_mute x h)

  turned_opened : (p : Point) (client : Client) (serial : ℕ) (q : Query) (m : Machine) → IsGood p q → old.links ≤ m.links → Opened (turned i p client serial q m)
  unfolding turned turned_by
  turned_opened p client serial q m g l =
      let s : State = record { query = q; cache = m.cache; links = m.links } in
      let t = turn (setting_of i client m) p s in
      let n : Machine = record m { cache = t.state.cache; links = t.state.links } in
      let z = settled (outcome_or t.outcome) client serial i.event.now t.state.query n in
      all_on (λ (x : Action). IsOpened z.machine x) t.actions z.actions
      (all_map (λ (x : Action). IsSaidOf t.outcome x) (λ (x : Action). IsOpened z.machine x) t.actions (λ x h. said_opened t.outcome m.links t.state client serial i.event.now n x (turn_leaves (setting_of i client m) p s g) l h) (turn_tells (setting_of i client m) p s))
      (mute_opened z.machine z.actions (settled_mute (outcome_or t.outcome) client serial i.event.now t.state.query n))

  begun_opened : (client : Client) (addr : List ℕ) (port : ℕ) (r : Request) (m : Machine) → old.links ≤ m.links → Opened (begun i client addr port r m)
  unfolding begun
  begun_opened client addr port r m l =
      let s = turned i at_begin client (m.accepted + 1) (query_for r) (record m { accepted = m.accepted + 1 }) in
      behind s.machine (line _ ∷ []) s.actions (line_mute _) (turned_opened at_begin client (m.accepted + 1) (query_for r) (record m { accepted = m.accepted + 1 }) (begin_good r) l)

  -- Requests

  displaced-links : (o : Option (Picked Active)) (m : Machine) → (displaced_query o m).machine.links ≡ m.links
  unfolding displaced_query
  displaced-links None m = refl
  displaced-links (Some p) m = refl

  cond-links : (b : Bool) (s t : Stepped) (n : ℕ) → s.machine.links ≡ n → t.machine.links ≡ n → (cond b s t).machine.links ≡ n
  cond-links true s t n h k = h
  cond-links false s t n h k = k

  room-links : (m : Machine) → (with_room m).machine.links ≡ m.links
  unfolding with_room
  room-links m = cond-links (leb 200 (length (udp_queries m.queries))) _ _ m.links (displaced-links _ m) refl

  request_by_opened : (o : Option Request) (m : Machine) → old.links ≤ m.links → Opened (request_by o i m)
  unfolding request_by accepted_udp
  request_by_opened None m l = mute_opened m [] none_mute
  request_by_opened (Some r) m l =
      let s = begun i (by_udp i.event.addr i.event.port) i.event.addr i.event.port r (with_room m).machine in
      behind s.machine (with_room m).actions s.actions (room_mute m) (begun_opened (by_udp i.event.addr i.event.port) i.event.addr i.event.port r (with_room m).machine (omega (arith, l, room-links m)))

  request_opened : (m : Machine) → old.links ≤ m.links → Opened (request_step i m)
  unfolding request_step
  request_opened m l = opened_cond (ltb 1023 (length i.event.bytes) || is_refused i) _ _ (mute_opened m [] none_mute) (request_by_opened (request_of i.event.bytes) m l)

  -- Connections

  asked_by_opened : (o : Option Request) (c : Connection) (m : Machine) → old.links ≤ m.links → Opened (asked_by o i c m)
  unfolding asked_by
  asked_by_opened None c m l = mute_opened _ _ (closed_mute close_proto c m)
  asked_by_opened (Some r) c m l = begun_opened (by_tcp c.number) c.addr c.port r m l

  asked_opened : (c : Connection) (m : Machine) → old.links ≤ m.links → Opened (asked i c m)
  unfolding asked
  asked_opened c m l = asked_by_opened (request_of (first_message c.gathered)) c (record m { connections = with_connection (record c { gathered = behind_message c.gathered }) m.connections }) l

  gathered_opened : (c : Connection) (m : Machine) → old.links ≤ m.links → Opened (gathered_by c i m)
  unfolding gathered_by
  gathered_opened c m l = opened_cond (is_ready m c) _ _ (asked_opened c m l) (mute_opened m [] none_mute)

  conn_bytes_opened : (o : Option Connection) (m : Machine) → old.links ≤ m.links → Opened (conn_bytes_by o i m)
  unfolding conn_bytes_by
  conn_bytes_opened None m l = mute_opened m [] none_mute
  conn_bytes_opened (Some c) m l = opened_cond (ltb 65537 (length c.gathered + length i.event.bytes)) _ _ (mute_opened _ _ (closed_mute close_long c m))
      (gathered_opened (record c { gathered = c.gathered ++ i.event.bytes }) (record m { connections = with_connection (record c { gathered = c.gathered ++ i.event.bytes }) m.connections }) l)

  -- Transmissions

  progressed_opened : (p : Progress) (acts : List Action) (a : Active) (m : Machine) → IsGood at_look a.query → old.links ≤ m.links → AllOf (λ (x : Action). OpensBy old.links p x) acts → AreOpened (progressed p i a m).machine (acts ++ (progressed p i a m).actions)
  unfolding progressed OpensBy
  progressed_opened (waiting b) acts a m g l h =
      let n : Machine = record m { queries = with_query (record a { attempt = b }) m.queries } in
      all_on (λ (x : Action). IsOpened n x) acts [] (all_map (λ (x : Action). IsMute x ⊎ ((x ≡ opening_of b) × (old.links < b.link))) (λ (x : Action). IsOpened n x) acts
      (λ x k. elim k [ inl y ↦ inl y | inr y ↦ inr (record { it = record a { attempt = b }; there = with_among (record a { attempt = b }) m.queries; link = y.1; is_it = y.0 }) ]) h) (mute_opened n [] none_mute)
  progressed_opened (packet p) acts a m g l h = behind _ acts _ h (turned_opened (at_heard p) a.client a.serial a.query m (good_at (at_heard p) a.query (omega arith) g) l)
  progressed_opened failed acts a m g l h = behind _ acts _ h (turned_opened at_failed a.client a.serial a.query m (good_at at_failed a.query (omega arith) g) l)
  progressed_opened no_port acts a m g l h = behind _ acts _ h (turned_opened at_no_port a.client a.serial a.query m (good_at at_no_port a.query (omega arith) g) l)

  AreGood : Type 0
  AreGood = AllOf (λ (a : Active). IsGood at_look a.query) old.queries

  given_opened : (test : Active → Bool) (o : Option (Picked Active)) → IfPicked test old.queries o → AreGood → Opened (given_to o i old)
  unfolding given_to progressed_by AreGood
  given_opened test None k g = mute_opened old [] none_mute
  given_opened test (Some p) k g =
      let j = if_picked test old.queries p k in
      let n : Among p.it old.queries = subst (Among p.it) (sym j.whole) (among_mid p.it j.front j.back) in
      let x = after_event i.event p.it.attempt (occasion_of i old) in
      progressed_opened x.progress x.actions p.it (record old { queries = p.others; links = x.links }) (of_among (λ (a : Active). IsGood at_look a.query) old.queries p.it g n)
      (linked_least p.it.attempt.link old.links x.progress x.links (event_linked i.event p.it.attempt (occasion_of i old))) (event_opens i.event p.it.attempt (occasion_of i old))

  -- Steps

  due_step_opened : (h : Holder) → AreGood → Opened (due_step h i old)
  unfolding due_step
  due_step_opened (of_query a) g = given_opened (λ b. nat_eq b.serial a.serial) _ (pick_is (λ b. nat_eq b.serial a.serial) old.queries) g
  due_step_opened (of_connection c) g = mute_opened _ _ (closed_mute close_timeout c old)

  due_opened : (o : Option Holder) → AreGood → Opened (due_by o i old)
  unfolding due_by
  due_opened None g = mute_opened old [] none_mute
  due_opened (Some h) g = opened_cond (leb (deadline_of h) i.event.now) _ _ (due_step_opened h g) (mute_opened old [] none_mute)

  tick_opened : (o : Option Connection) → AreGood → Opened (tick_by o i old)
  unfolding tick_by
  tick_opened (Some c) g = asked_opened c old (omega arith)
  tick_opened None g = due_opened (earliest (holders old)) g

  link_opened : AreGood → Opened (link_step i old)
  unfolding link_step
  link_opened g = given_opened (λ a. nat_eq a.attempt.link i.event.id) _ (pick_is (λ a. nat_eq a.attempt.link i.event.id) old.queries) g

  step_by_opened : (k : Kind) → AllOf (λ (a : Active). IsGood at_look a.query) old.queries → Opened (step_by k i old)
  unfolding step_by AreGood
  step_by_opened tick g = tick_opened (first_ready old) g
  step_by_opened request g = request_opened old (omega arith)
  step_by_opened datagram g = link_opened g
  step_by_opened link_up g = link_opened g
  step_by_opened link_bytes g = link_opened g
  step_by_opened link_down g = link_opened g
  step_by_opened bind_refused g = link_opened g
  step_by_opened conn_up g = mute_opened _ _ (conn_up_mute (connection i.event.id old) old)
  step_by_opened conn_bytes g = conn_bytes_opened (connection i.event.id old) old (omega arith)
  step_by_opened conn_down g = mute_opened _ _ (conn_down_mute (connection i.event.id old) old)

ltb_yes : (a b : ℕ) → a < b → ltb a b ≡ true
ltb_yes a b h = grind (arith, nat_tests)

kept_in : (x y : Active) (ys : List Active) (v : Bool) → v ≡ true → x ≡ y → Among x (cond v (y ∷ ys) ys)
unfolding Among
kept_in x y ys true e h = inl h
kept_in x y ys false e h = absurd (true≢false (sym e))

later_in : (x y : Active) (ys : List Active) (v : Bool) → Among x ys → Among x (cond v (y ∷ ys) ys)
unfolding Among
later_in x y ys true h = inr h
later_in x y ys false h = h

among_filtered : (test : Active → Bool) (x : Active) (xs : List Active) → Among x xs → test x ≡ true → Among x (filter test xs)
unfolding Among
among_filtered test x [] h e = absurd h
among_filtered test x (y ∷ xs) (inl h) e = kept_in x y (filter test xs) (test y) (subst (λ (z : Active). test z ≡ true) h e) h
among_filtered test x (y ∷ xs) (inr h) e = later_in x y (filter test xs) (test y) (among_filtered test x xs h e)

newly : (old new : Machine) (a : Active) → Among a new.queries → old.links < a.attempt.link → Among a (newly_asked old new)
newly old new a h l = among_filtered (λ (b : Active). ltb old.links b.attempt.link) a new.queries h (ltb_yes old.links a.attempt.link l)

mute_attempted : (old new : Machine) (x : Action) → IsMute x → IsAttempted old new x
unfolding IsMute IsAttempted
mute_attempted old new (reply addr port b) h = tt
mute_attempted old new (conn_reply number b) h = tt
mute_attempted old new (conn_close number) h = tt
mute_attempted old new (udp link port server query) h = absurd h
mute_attempted old new (tcp link port server) h = absurd h
mute_attempted old new (link_write link b) h = tt
mute_attempted old new (link_close link) h = tt
mute_attempted old new (line text) h = tt

one_attempted : (old new : Machine) (x : Action) (a : Active) → Among a (newly_asked old new) → x ≡ opening_of a.attempt → IsAttempted old new x
unfolding IsAttempted
one_attempted old new (reply addr port b) a h e = tt
one_attempted old new (conn_reply number b) a h e = tt
one_attempted old new (conn_close number) a h e = tt
one_attempted old new (udp link port server query) a h e = (a, h, e)
one_attempted old new (tcp link port server) a h e = (a, h, e)
one_attempted old new (link_write link b) a h e = tt
one_attempted old new (link_close link) a h e = tt
one_attempted old new (line text) a h e = tt

pub step_attempts : (rules : Rules) (m : Machine) (e : Event) (draws : List ℕ) → IsSound m → AllOf (λ (x : Action). IsAttempted m (step rules m e draws).machine x) (step rules m e draws).actions
unfolding step
step_attempts rules m e draws s =
    let i : Input = record { rules = rules; event = e; draws = draws } in
    let new : Machine = (step_by e.kind i m).machine in
    all_map _ (λ (x : Action). IsAttempted m new x) (step_by e.kind i m).actions
    (λ x h. elim h [ inl k ↦ mute_attempted m new x k | inr k ↦ one_attempted m new x k.it (newly m new k.it k.there k.link) k.is_it ])
    (step_by_opened i m e.kind (all_map _ (λ (a : Active). IsGood at_look a.query) m.queries (λ a w. w.good) s.each))
