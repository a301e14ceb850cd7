-- A run keeps the size of its cache.
use Rattle.std.proofs.Common.{◌≡◌, ℕ, zero, suc, ◌+◌, Bool, true, false, cond, List, [], ◌∷◌, ◌++◌, length, Option, Some, None, refl, ◌∙◌, leb, ltb, eqb, ◌||◌}
use Rattle.dc_model.specs.Cache.{Cache, Entry, PutTurn, adds, evicts, rotates, gives_up, turn_of, evicted, rotated, turns, turns_left, placed, put, made, is_refused}
use Rattle.dc_model.specs.Draws.{draws_of}
use Rattle.dc_model.specs.Puts.{Put, all_put}
use Rattle.dc_model.specs.Message.{Request, request_of}
use Rattle.dc_model.specs.Event.{Event, Kind, tick, request, datagram, link_up, link_bytes, link_down, bind_refused, conn_up, conn_bytes, conn_down, second}
use Rattle.dc_model.specs.Rules.{Rules}
use Rattle.dc_model.specs.Line.{CloseCause, close_displaced, close_closed, close_timeout, close_proto, close_long}
use Rattle.dc_model.specs.Reply.{Reply}
use Rattle.dc_model.specs.Transmission.{Progress, waiting, packet, failed, no_port, after_event}
use Rattle.dc_machine.specs.Query.{Query, query_for}
use Rattle.dc_machine.specs.Turn.{Setting, State, Point, at_begin, at_heard, at_failed, at_no_port, Outcome, waits, replied, dropped, Following, go, end, Row, row, state_after, Turned, onward, rows, turn}
use Rattle.dc_machine.specs.Machine.{Client, by_udp, by_tcp, Active, Connection, Machine, Input, Stepped, Picked, pick, connection, closed_alone, closed_by, closed_with, replied_to, closed_if_open, dropped_for, settled, turned_by, turned, begun, progressed, progressed_by, given_to, displaced_query, with_room, accepted_udp, request_by, request_step, asked_by, asked, displaced_connection, with_place, opened, conn_up_by, gathered_by, conn_bytes_by, conn_down_by, Holder, of_query, of_connection, due_step, due_by, tick_by, link_step, step_by, step, outcome_or, setting_of, occasion_of, is_on, is_udp, udp_queries, is_refused as is_kept_out, is_ready, first_ready, first_message, deadline_of, earliest, holders}
use Rattle.dc_machine.specs.Run.{taken_from, last_of, opening, run, seeded_run}

-- Puts

turns_size : (n : ℕ) (t : PutTurn) (e : Entry) (c : Cache) → (turns n t e c).size ≡ c.size
turns_size zero t e c = refl
turns_size (suc n) adds e c = refl
turns_size (suc n) evicts e c = turns_size n (turn_of e (evicted c)) e (evicted c)
turns_size (suc n) rotates e c = turns_size n (turn_of e (rotated c)) e (rotated c)
turns_size (suc n) gives_up e c = refl

placed_size : (e : Entry) (c : Cache) → (placed e c).size ≡ c.size
unfolding placed
placed_size e c = turns_size (suc (turns_left c)) (turn_of e c) e c

either_size : (b : Bool) (c d : Cache) (size : ℕ) → c.size ≡ size → d.size ≡ size → (cond b c d).size ≡ size
either_size true c d size h k = h
either_size false c d size h k = k

put_size : (key body : List ℕ) (ttl now : ℕ) (c : Cache) → (put key body ttl now c).size ≡ c.size
put_size key body ttl now c = either_size (is_refused key body ttl) c (placed (made key body ttl now) c) c.size refl (placed_size (made key body ttl now) c)

all_put_size : (ps : List Put) (now : ℕ) (c : Cache) → (all_put ps now c).size ≡ c.size
unfolding all_put
all_put_size [] now c = refl
all_put_size (p ∷ ps) now c = all_put_size ps now (put p.key p.body p.ttl now c) ∙ put_size p.key p.body p.ttl now c

-- A turn

onward_size : (f : Following) (r : Row) (s : State) (further : Point → State → Turned) (size : ℕ)
    → s.cache.size ≡ size → ((p : Point) (u : State) → u.cache.size ≡ size → (further p u).state.cache.size ≡ size) → (onward f r s further).state.cache.size ≡ size
unfolding onward
onward_size (go p) r s further size h k = k p s h
onward_size (end o) r s further size h k = h

rows_size : (g : Setting) (n : ℕ) (p : Point) (s : State) (size : ℕ) → s.cache.size ≡ size → (rows g n p s).state.cache.size ≡ size
unfolding rows state_after
rows_size g zero p s size h = h
rows_size g (suc n) p s size h =
    onward_size (row g p s).following (row g p s) (state_after g s (row g p s)) (rows g n) size
    (all_put_size (row g p s).puts (second g.now) s.cache ∙ h) (λ q u k. rows_size g n q u size k)

turn_size : (g : Setting) (p : Point) (s : State) → (turn g p s).state.cache.size ≡ s.cache.size
unfolding turn
turn_size g p s = rows_size g 4000 p s s.cache.size refl

-- What doesn't touch the cache

-- The machine behind a step has a cache of the same size.
abbrev Keeps : Machine → Machine → Type 0
Keeps m n = n.cache.size ≡ m.cache.size

replied_keeps : (c : Client) (serial now : ℕ) (r : Reply) (m : Machine) → Keeps m (replied_to c serial now r m).machine
unfolding replied_to
replied_keeps (by_udp addr port) serial now r m = refl
replied_keeps (by_tcp number) serial now r m = refl

closed_if_open_keeps : (o : Option Connection) (m : Machine) → Keeps m (closed_if_open o m).machine
unfolding closed_alone
closed_if_open_keeps None m = refl
closed_if_open_keeps (Some c) m = refl

dropped_for_keeps : (c : Client) (m : Machine) → Keeps m (dropped_for c m).machine
unfolding dropped_for
dropped_for_keeps (by_udp addr port) m = refl
dropped_for_keeps (by_tcp number) m = closed_if_open_keeps (connection number m) m

settled_keeps : (o : Outcome) (c : Client) (serial now : ℕ) (q : Query) (m : Machine) → Keeps m (settled o c serial now q m).machine
unfolding settled
settled_keeps (waits a) c serial now q m = refl
settled_keeps (replied r) c serial now q m = replied_keeps c serial now r m
settled_keeps (dropped cause) c serial now q m = dropped_for_keeps c (record m { dropped = m.dropped + 1 })

closed_by_keeps : (o : Option (Picked Active)) (cause : CloseCause) (c : Connection) (m : Machine) → Keeps m (closed_by o cause c m).machine
unfolding closed_by closed_alone
closed_by_keeps None cause c m = refl
closed_by_keeps (Some p) cause c m = refl

closed_keeps : (cause : CloseCause) (c : Connection) (m : Machine) → Keeps m (closed_with cause c m).machine
unfolding closed_with
closed_keeps cause c m = closed_by_keeps (pick (λ a. is_on c.number a.client) m.queries) cause c m

cond_keeps : (m : Machine) (b : Bool) (s t : Stepped) → Keeps m s.machine → Keeps m t.machine → Keeps m (cond b s t).machine
cond_keeps m true s t d e = d
cond_keeps m false s t d e = e

-- A query

turned_keeps : (i : Input) (p : Point) (c : Client) (serial : ℕ) (q : Query) (m : Machine) → Keeps m (turned i p c serial q m).machine
unfolding turned turned_by
turned_keeps i p c serial q m =
    let t = turn (setting_of i c m) p (record { query = q; cache = m.cache; links = m.links }) in
    settled_keeps (outcome_or t.outcome) c serial i.event.now t.state.query (record m { cache = t.state.cache; links = t.state.links })
    ∙ turn_size (setting_of i c m) p (record { query = q; cache = m.cache; links = m.links })

begun_keeps : (i : Input) (c : Client) (addr : List ℕ) (port : ℕ) (r : Request) (m : Machine) → Keeps m (begun i c addr port r m).machine
unfolding begun
begun_keeps i c addr port r m = turned_keeps i at_begin c (m.accepted + 1) (query_for r) (record m { accepted = m.accepted + 1 })

progressed_keeps : (p : Progress) (i : Input) (q : Active) (m : Machine) → Keeps m (progressed p i q m).machine
unfolding progressed
progressed_keeps (waiting a) i q m = refl
progressed_keeps (packet p) i q m = turned_keeps i (at_heard p) q.client q.serial q.query m
progressed_keeps failed i q m = turned_keeps i at_failed q.client q.serial q.query m
progressed_keeps no_port i q m = turned_keeps i at_no_port q.client q.serial q.query m

given_keeps : (o : Option (Picked Active)) (i : Input) (m : Machine) → Keeps m (given_to o i m).machine
unfolding given_to progressed_by
given_keeps None i m = refl
given_keeps (Some p) i m =
    let f = after_event i.event p.it.attempt (occasion_of i m) in
    progressed_keeps f.progress i p.it (record m { queries = p.others; links = f.links })

-- Requests and connections

displaced_keeps : (o : Option (Picked Active)) (m : Machine) → Keeps m (displaced_query o m).machine
unfolding displaced_query
displaced_keeps None m = refl
displaced_keeps (Some p) m = refl

room_keeps : (m : Machine) → Keeps m (with_room m).machine
unfolding with_room
room_keeps m = cond_keeps m (leb 200 (length (udp_queries m.queries))) _ _ (displaced_keeps (pick (λ a. is_udp a.client) m.queries) m) refl

request_by_keeps : (o : Option Request) (i : Input) (m : Machine) → Keeps m (request_by o i m).machine
unfolding request_by accepted_udp
request_by_keeps None i m = refl
request_by_keeps (Some r) i m =
    begun_keeps i (by_udp i.event.addr i.event.port) i.event.addr i.event.port r (with_room m).machine ∙ room_keeps m

request_keeps : (i : Input) (m : Machine) → Keeps m (request_step i m).machine
unfolding request_step
request_keeps i m = cond_keeps m (ltb 1023 (length i.event.bytes) || is_kept_out i) _ _ refl (request_by_keeps (request_of i.event.bytes) i m)

asked_by_keeps : (o : Option Request) (i : Input) (c : Connection) (m : Machine) → Keeps m (asked_by o i c m).machine
unfolding asked_by
asked_by_keeps None i c m = closed_keeps close_proto c m
asked_by_keeps (Some r) i c m = begun_keeps i (by_tcp c.number) c.addr c.port r m

asked_keeps : (i : Input) (c : Connection) (m : Machine) → Keeps m (asked i c m).machine
unfolding asked
asked_keeps i c m = asked_by_keeps (request_of (first_message c.gathered)) i c _

displaced_connection_keeps : (cs : List Connection) (m : Machine) → Keeps m (displaced_connection cs m).machine
unfolding displaced_connection
displaced_connection_keeps [] m = refl
displaced_connection_keeps (c ∷ cs) m = closed_keeps close_displaced c m

place_keeps : (m : Machine) → Keeps m (with_place m).machine
unfolding with_place
place_keeps m = cond_keeps m (leb 20 (length m.connections)) _ _ (displaced_connection_keeps m.connections m) refl

opened_keeps : (i : Input) (m : Machine) → Keeps m (opened i (with_place m)).machine
unfolding opened
opened_keeps i m = place_keeps m

conn_up_keeps : (o : Option Connection) (i : Input) (m : Machine) → Keeps m (conn_up_by o i m).machine
unfolding conn_up_by
conn_up_keeps (Some c) i m = refl
conn_up_keeps None i m = cond_keeps m (is_kept_out i) _ _ refl (opened_keeps i m)

gathered_keeps : (c : Connection) (i : Input) (m : Machine) → Keeps m (gathered_by c i m).machine
unfolding gathered_by
gathered_keeps c i m = cond_keeps m (is_ready m c) _ _ (asked_keeps i c m) refl

conn_bytes_keeps : (o : Option Connection) (i : Input) (m : Machine) → Keeps m (conn_bytes_by o i m).machine
unfolding conn_bytes_by
conn_bytes_keeps None i m = refl
conn_bytes_keeps (Some c) i m =
    cond_keeps m (ltb 65537 (length c.gathered + length i.event.bytes)) _ _ (closed_keeps close_long c m)
    (gathered_keeps (record c { gathered = c.gathered ++ i.event.bytes }) i _)

conn_down_keeps : (o : Option Connection) (m : Machine) → Keeps m (conn_down_by o m).machine
unfolding conn_down_by
conn_down_keeps None m = refl
conn_down_keeps (Some c) m = closed_keeps close_closed c m

-- Steps

due_step_keeps : (h : Holder) (i : Input) (m : Machine) → Keeps m (due_step h i m).machine
unfolding due_step
due_step_keeps (of_query a) i m = given_keeps (pick (λ b. eqb b.serial a.serial) m.queries) i m
due_step_keeps (of_connection c) i m = closed_keeps close_timeout c m

due_keeps : (o : Option Holder) (i : Input) (m : Machine) → Keeps m (due_by o i m).machine
unfolding due_by
due_keeps None i m = refl
due_keeps (Some h) i m = cond_keeps m (leb (deadline_of h) i.event.now) _ _ (due_step_keeps h i m) refl

tick_keeps : (o : Option Connection) (i : Input) (m : Machine) → Keeps m (tick_by o i m).machine
unfolding tick_by
tick_keeps (Some c) i m = asked_keeps i c m
tick_keeps None i m = due_keeps (earliest (holders m)) i m

link_keeps : (i : Input) (m : Machine) → Keeps m (link_step i m).machine
unfolding link_step
link_keeps i m = given_keeps (pick (λ a. eqb a.attempt.link i.event.id) m.queries) i m

step_by_keeps : (k : Kind) (i : Input) (m : Machine) → Keeps m (step_by k i m).machine
unfolding step_by
step_by_keeps tick i m = tick_keeps (first_ready m) i m
step_by_keeps request i m = request_keeps i m
step_by_keeps datagram i m = link_keeps i m
step_by_keeps link_up i m = link_keeps i m
step_by_keeps link_bytes i m = link_keeps i m
step_by_keeps link_down i m = link_keeps i m
step_by_keeps bind_refused i m = link_keeps i m
step_by_keeps conn_up i m = conn_up_keeps (connection i.event.id m) i m
step_by_keeps conn_bytes i m = conn_bytes_keeps (connection i.event.id m) i m
step_by_keeps conn_down i m = conn_down_keeps (connection i.event.id m) m

step_keeps : (rules : Rules) (m : Machine) (e : Event) (draws : List ℕ) → Keeps m (step rules m e draws).machine
unfolding step
step_keeps rules m e draws = step_by_keeps e.kind (record { rules = rules; event = e; draws = draws }) m

-- Runs

taken_keeps : (rules : Rules) (draws : ℕ → List ℕ) (n : ℕ) (m : Machine) (es : List Event) → Keeps m (last_of m (taken_from rules draws n m es))
unfolding taken_from last_of
taken_keeps rules draws n m [] = refl
taken_keeps rules draws n m (e ∷ es) =
    taken_keeps rules draws (n + 1) (step rules m e (draws n)).machine es ∙ step_keeps rules m e (draws n)

pub run_size : (rules : Rules) (seed : List ℕ) (first : Cache) (events : List Event) → (last_of (opening first) (seeded_run rules seed first events)).cache.size ≡ first.size
unfolding seeded_run run
run_size rules seed first events = taken_keeps rules (draws_of seed) 0 (opening first) events
