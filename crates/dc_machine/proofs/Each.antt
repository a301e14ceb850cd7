-- What every turn keeps of its query, every step keeps of each active query.
use Rattle.std.proofs.Common.{ℕ, ◌+◌, Bool, true, false, cond, ltb, leb, ◌||◌, List, [], ◌∷◌, ◌++◌, length, Option, Some, None, subst, sym}
use Rattle.std.specs.Prelude.{nat_eq}
use Rattle.dc_model.specs.Message.{Request, request_of}
use Rattle.dc_model.specs.Event.{Event, Kind, tick, request, datagram, link_up, link_bytes, link_down, bind_refused, conn_up, conn_bytes, conn_down}
use Rattle.dc_model.specs.Rules.{Rules, Zones}
use Rattle.dc_model.specs.Line.{CloseCause, close_closed, close_displaced, close_long, close_proto, close_timeout}
use Rattle.dc_model.specs.Reply.{Reply}
use Rattle.dc_model.specs.Transmission.{Progress, waiting, packet, failed, no_port, after_event}
use Rattle.dc_machine.specs.Query.{Query, query_for}
use Rattle.dc_machine.specs.Turn.{Setting, State, Point, at_begin, at_heard, at_failed, at_no_port, Outcome, waits, replied, dropped, turn}
use Rattle.dc_machine.specs.Machine.{Client, by_udp, by_tcp, Active, Connection, Machine, Input, Stepped, Picked, is_udp, is_on, udp_queries, connection, closed_alone, closed_by, closed_with, replied_to, closed_if_open, dropped_for, settled, outcome_or, setting_of, occasion_of, turned_by, turned, begun, progressed, progressed_by, given_to, is_refused, displaced_query, with_room, accepted_udp, request_by, request_step, is_ready, first_message, asked_by, asked, displaced_connection, with_place, opened, conn_up_by, gathered_by, conn_bytes_by, conn_down_by, Holder, of_query, of_connection, deadline_of, earliest, holders, first_ready, due_step, due_by, tick_by, link_step, step_by, step}
use Rattle.dc_machine.specs.Kept.{AllOf}
use Rattle.dc_machine.specs.Run.{taken_from, last_of}
use Rattle.dc_machine.proofs.Lists.{all_it, all_others, all_with}
use Rattle.dc_machine.proofs.Picks.{IfPicked, if_picked, pick_is}

-- One that was picked, and the others.
picked_others : (P : Active → Type 0) (test : Active → Bool) (as' : List Active) (p : Picked Active) → IfPicked test as' (Some p) → AllOf P as' → AllOf P p.others
picked_others P test as' p k h =
    let j = if_picked test as' p k in
    subst (AllOf P) (sym j.others) (all_others P p.it j.front j.back (subst (AllOf P) j.whole h))

picked_it : (P : Active → Type 0) (test : Active → Bool) (as' : List Active) (p : Picked Active) → IfPicked test as' (Some p) → AllOf P as' → P p.it
picked_it P test as' p k h =
    let j = if_picked test as' p k in
    all_it P p.it j.front j.back (subst (AllOf P) j.whole h)

-- Of rules that are Z, every turn keeps Q of its query, and a new query has it.
module _ (Z : Zones → Type 0) (Q : Query → Type 0) (new : (r : Request) → Q (query_for r))
    (keep : (g : Setting) (p : Point) (s : State) → Z g.zones → Q s.query → Q (turn g p s).state.query) where
  abbrev Each : Machine → Type 0
  Each m = AllOf (λ (a : Active). Q a.query) m.queries

  each_cond : (b : Bool) (s t : Stepped) → Each s.machine → Each t.machine → Each (cond b s t).machine
  each_cond true s t h k = h
  each_cond false s t h k = k

  closed_by_each : (o : Option (Picked Active)) (cause : CloseCause) (c : Connection) (m : Machine) → IfPicked (λ a. is_on c.number a.client) m.queries o → Each m → Each (closed_by o cause c m).machine
  unfolding closed_by closed_alone
  closed_by_each None cause c m k h = h
  closed_by_each (Some p) cause c m k h = picked_others (λ (a : Active). Q a.query) (λ a. is_on c.number a.client) m.queries p k h

  closed_each : (cause : CloseCause) (c : Connection) (m : Machine) → Each m → Each (closed_with cause c m).machine
  unfolding closed_with
  closed_each cause c m h = closed_by_each _ cause c m (pick_is (λ a. is_on c.number a.client) m.queries) h

  replied_each : (client : Client) (serial now : ℕ) (r : Reply) (m : Machine) → Each m → Each (replied_to client serial now r m).machine
  unfolding replied_to
  replied_each (by_udp addr port) serial now r m h = h
  replied_each (by_tcp number) serial now r m h = h

  open_each : (o : Option Connection) (m : Machine) → Each m → Each (closed_if_open o m).machine
  unfolding closed_alone
  open_each None m h = h
  open_each (Some c) m h = h

  dropped_each : (client : Client) (m : Machine) → Each m → Each (dropped_for client m).machine
  unfolding dropped_for
  dropped_each (by_udp addr port) m h = h
  dropped_each (by_tcp number) m h = open_each (connection number m) m h

  settled_each : (o : Outcome) (client : Client) (serial now : ℕ) (q : Query) (m : Machine) → Q q → Each m → Each (settled o client serial now q m).machine
  unfolding settled
  settled_each (waits a) client serial now q m j h = all_with (λ (a : Active). Q a.query) (record { serial = serial; client = client; query = q; attempt = a }) m.queries j h
  settled_each (replied r) client serial now q m j h = replied_each client serial now r m h
  settled_each (dropped cause) client serial now q m j h = dropped_each client (record m { dropped = m.dropped + 1 }) h

  turned_each : (i : Input) (p : Point) (client : Client) (serial : ℕ) (q : Query) (m : Machine) → Z i.rules.zones → Q q → Each m → Each (turned i p client serial q m).machine
  unfolding turned turned_by
  turned_each i p client serial q m z j h =
      let t = turn (setting_of i client m) p (record { query = q; cache = m.cache; links = m.links }) in
      settled_each (outcome_or t.outcome) client serial i.event.now t.state.query (record m { cache = t.state.cache; links = t.state.links })
      (keep (setting_of i client m) p (record { query = q; cache = m.cache; links = m.links }) z j) h

  begun_each : (i : Input) (client : Client) (addr : List ℕ) (port : ℕ) (r : Request) (m : Machine) → Z i.rules.zones → Each m → Each (begun i client addr port r m).machine
  unfolding begun
  begun_each i client addr port r m z h = turned_each i at_begin client (m.accepted + 1) (query_for r) (record m { accepted = m.accepted + 1 }) z (new r) h

  progressed_each : (p : Progress) (i : Input) (q : Active) (m : Machine) → Z i.rules.zones → Q q.query → Each m → Each (progressed p i q m).machine
  unfolding progressed
  progressed_each (waiting a) i q m z j h = all_with (λ (b : Active). Q b.query) (record q { attempt = a }) m.queries j h
  progressed_each (packet p) i q m z j h = turned_each i (at_heard p) q.client q.serial q.query m z j h
  progressed_each failed i q m z j h = turned_each i at_failed q.client q.serial q.query m z j h
  progressed_each no_port i q m z j h = turned_each i at_no_port q.client q.serial q.query m z j h

  given_each : (test : Active → Bool) (o : Option (Picked Active)) (i : Input) (m : Machine) → Z i.rules.zones → IfPicked test m.queries o → Each m → Each (given_to o i m).machine
  unfolding given_to progressed_by
  given_each test None i m z k h = h
  given_each test (Some p) i m z k h =
      let f = after_event i.event p.it.attempt (occasion_of i m) in
      progressed_each f.progress i p.it (record m { queries = p.others; links = f.links }) z
      (picked_it (λ (a : Active). Q a.query) test m.queries p k h) (picked_others (λ (a : Active). Q a.query) test m.queries p k h)

  displaced_each : (test : Active → Bool) (o : Option (Picked Active)) (m : Machine) → IfPicked test m.queries o → Each m → Each (displaced_query o m).machine
  unfolding displaced_query
  displaced_each test None m k h = h
  displaced_each test (Some p) m k h = picked_others (λ (a : Active). Q a.query) test m.queries p k h

  room_each : (m : Machine) → Each m → Each (with_room m).machine
  unfolding with_room
  room_each m h = each_cond (leb 200 (length (udp_queries m.queries))) _ _ (displaced_each (λ a. is_udp a.client) _ m (pick_is (λ a. is_udp a.client) m.queries) h) h

  request_by_each : (o : Option Request) (i : Input) (m : Machine) → Z i.rules.zones → Each m → Each (request_by o i m).machine
  unfolding request_by accepted_udp
  request_by_each None i m z h = h
  request_by_each (Some r) i m z h = begun_each i (by_udp i.event.addr i.event.port) i.event.addr i.event.port r (with_room m).machine z (room_each m h)

  request_each : (i : Input) (m : Machine) → Z i.rules.zones → Each m → Each (request_step i m).machine
  unfolding request_step
  request_each i m z h = each_cond (ltb 1023 (length i.event.bytes) || is_refused i) _ _ h (request_by_each (request_of i.event.bytes) i m z h)

  asked_by_each : (o : Option Request) (i : Input) (c : Connection) (m : Machine) → Z i.rules.zones → Each m → Each (asked_by o i c m).machine
  unfolding asked_by
  asked_by_each None i c m z h = closed_each close_proto c m h
  asked_by_each (Some r) i c m z h = begun_each i (by_tcp c.number) c.addr c.port r m z h

  asked_each : (i : Input) (c : Connection) (m : Machine) → Z i.rules.zones → Each m → Each (asked i c m).machine
  unfolding asked
  asked_each i c m z h = asked_by_each (request_of (first_message c.gathered)) i c _ z h

  displaced_connection_each : (cs : List Connection) (m : Machine) → Each m → Each (displaced_connection cs m).machine
  unfolding displaced_connection
  displaced_connection_each [] m h = h
  displaced_connection_each (c ∷ cs) m h = closed_each close_displaced c m h

  place_each : (m : Machine) → Each m → Each (with_place m).machine
  unfolding with_place
  place_each m h = each_cond (leb 20 (length m.connections)) _ _ (displaced_connection_each m.connections m h) h

  conn_up_each : (o : Option Connection) (i : Input) (m : Machine) → Each m → Each (conn_up_by o i m).machine
  unfolding conn_up_by opened
  conn_up_each (Some c) i m h = h
  conn_up_each None i m h = each_cond (is_refused i) _ _ h (place_each m h)

  gathered_each : (c : Connection) (i : Input) (m : Machine) → Z i.rules.zones → Each m → Each (gathered_by c i m).machine
  unfolding gathered_by
  gathered_each c i m z h = each_cond (is_ready m c) _ _ (asked_each i c m z h) h

  conn_bytes_each : (o : Option Connection) (i : Input) (m : Machine) → Z i.rules.zones → Each m → Each (conn_bytes_by o i m).machine
  unfolding conn_bytes_by
  conn_bytes_each None i m z h = h
  conn_bytes_each (Some c) i m z h = each_cond (ltb 65537 (length c.gathered + length i.event.bytes)) _ _ (closed_each close_long c m h)
      (gathered_each (record c { gathered = c.gathered ++ i.event.bytes }) i _ z h)

  conn_down_each : (o : Option Connection) (m : Machine) → Each m → Each (conn_down_by o m).machine
  unfolding conn_down_by
  conn_down_each None m h = h
  conn_down_each (Some c) m h = closed_each close_closed c m h

  due_step_each : (d : Holder) (i : Input) (m : Machine) → Z i.rules.zones → Each m → Each (due_step d i m).machine
  unfolding due_step
  due_step_each (of_query a) i m z h = given_each (λ b. nat_eq b.serial a.serial) _ i m z (pick_is (λ b. nat_eq b.serial a.serial) m.queries) h
  due_step_each (of_connection c) i m z h = closed_each close_timeout c m h

  due_each : (o : Option Holder) (i : Input) (m : Machine) → Z i.rules.zones → Each m → Each (due_by o i m).machine
  unfolding due_by
  due_each None i m z h = h
  due_each (Some d) i m z h = each_cond (leb (deadline_of d) i.event.now) _ _ (due_step_each d i m z h) h

  tick_each : (o : Option Connection) (i : Input) (m : Machine) → Z i.rules.zones → Each m → Each (tick_by o i m).machine
  unfolding tick_by
  tick_each (Some c) i m z h = asked_each i c m z h
  tick_each None i m z h = due_each (earliest (holders m)) i m z h

  link_each : (i : Input) (m : Machine) → Z i.rules.zones → Each m → Each (link_step i m).machine
  unfolding link_step
  link_each i m z h = given_each (λ a. nat_eq a.attempt.link i.event.id) _ i m z (pick_is (λ a. nat_eq a.attempt.link i.event.id) m.queries) h

  step_by_each : (k : Kind) (i : Input) (m : Machine) → Z i.rules.zones → Each m → Each (step_by k i m).machine
  unfolding step_by
  step_by_each tick i m z h = tick_each (first_ready m) i m z h
  step_by_each request i m z h = request_each i m z h
  step_by_each datagram i m z h = link_each i m z h
  step_by_each link_up i m z h = link_each i m z h
  step_by_each link_bytes i m z h = link_each i m z h
  step_by_each link_down i m z h = link_each i m z h
  step_by_each bind_refused i m z h = link_each i m z h
  step_by_each conn_up i m z h = conn_up_each (connection i.event.id m) i m h
  step_by_each conn_bytes i m z h = conn_bytes_each (connection i.event.id m) i m z h
  step_by_each conn_down i m z h = conn_down_each (connection i.event.id m) m h

  -- every step keeps it
  pub step_each : (rules : Rules) (m : Machine) (e : Event) (draws : List ℕ) → Z rules.zones → Each m → Each (step rules m e draws).machine
  unfolding step
  step_each rules m e draws z h = step_by_each e.kind (record { rules = rules; event = e; draws = draws }) m z h

  -- and so does every run
  pub taken_each : (rules : Rules) (draws : ℕ → List ℕ) (n : ℕ) (m : Machine) (es : List Event) → Z rules.zones → Each m → Each (last_of m (taken_from rules draws n m es))
  unfolding last_of taken_from
  taken_each rules draws n m [] z h = h
  taken_each rules draws n m (e ∷ es) z h = taken_each rules draws (n + 1) (step rules m e (draws n)).machine es z (step_each rules m e (draws n) z h)
