-- The machine looks at nothing of an event that its kind doesn't have.
use Rattle.std.proofs.Common.{◌≡◌, ℕ, ◌+◌, cond, List, [], ◌∷◌, ◌++◌, length, map, flat_map, refl, ap, ◌∙◌, Option, Some, None}
use Rattle.std.specs.Prelude.{◌&&◌, ◌||◌, ◌==◌, not, nat_le, nat_lt}
use Rattle.dc_model.specs.Cache.{Cache}
use Rattle.dc_model.specs.Event.{Event, line, Kind, tick, request, datagram, link_up, link_bytes, link_down, bind_refused, conn_up, conn_bytes, conn_down}
use Rattle.dc_model.specs.Line.{line_starting, close_long}
use Rattle.dc_model.specs.Message.{Request, request_of}
use Rattle.dc_model.specs.Places.{no_address}
use Rattle.dc_model.specs.Rules.{Rules, permitted}
use Rattle.dc_model.specs.Transmission.{Attempt, Occasion, Progress, waiting, packet, failed, no_port, after_kind, after_event, after_link_event}
use Rattle.dc_machine.specs.Query.{Query}
use Rattle.dc_machine.specs.Turn.{Point}
use Rattle.dc_machine.specs.Machine.{Client, Active, Connection, Machine, Input, Stepped, Picked, after, did, turned, begun, progressed, progressed_by, given_to, occasion_of, is_refused, with_room, accepted_udp, request_by, request_step, with_connection, asked_by, asked, opened, conn_up_by, is_ready, gathered_by, conn_bytes_by, closed_with, Holder, of_query, of_connection, due_step, due_by, deadline_of, tick_by, link_step, step_by, step}
use Rattle.dc_machine.specs.Run.{taken_from, seeded_run, run, actions_of, opening}
use Rattle.dc_record.specs.Plain.{plain}

module _ (rules : Rules) (draws : List ℕ) where
  -- What a step goes by at this event.
  abbrev at : Event → Input
  at e = record { rules = rules; event = e; draws = draws }

  -- Another event of the same moment.
  abbrev other : Event → Kind → ℕ → List ℕ → ℕ → List ℕ → Event
  other e kind id addr port bytes = record { now = e.now; kind = kind; id = id; addr = addr; port = port; bytes = bytes }

  -- A turn knows the moment alone.

  turned_other : (e : Event) (kind : Kind) (id : ℕ) (addr : List ℕ) (port : ℕ) (bytes : List ℕ) (p : Point) (client : Client) (serial : ℕ) (q : Query) (m : Machine)
      → turned (at (other e kind id addr port bytes)) p client serial q m ≡ turned (at e) p client serial q m
  unfolding turned
  turned_other e kind id addr port bytes p client serial q m = refl

  begun_other : (e : Event) (kind : Kind) (id : ℕ) (addr : List ℕ) (port : ℕ) (bytes : List ℕ) (client : Client) (from : List ℕ) (at_port : ℕ) (r : Request) (m : Machine)
      → begun (at (other e kind id addr port bytes)) client from at_port r m ≡ begun (at e) client from at_port r m
  unfolding begun turned
  begun_other e kind id addr port bytes client from at_port r m = refl

  asked_by_other : (e : Event) (kind : Kind) (id : ℕ) (addr : List ℕ) (port : ℕ) (bytes : List ℕ) (o : Option Request) (c : Connection) (m : Machine)
      → asked_by o (at (other e kind id addr port bytes)) c m ≡ asked_by o (at e) c m
  unfolding asked_by
  asked_by_other e kind id addr port bytes None c m = refl
  asked_by_other e kind id addr port bytes (Some r) c m = begun_other e kind id addr port bytes _ c.addr c.port r m

  asked_other : (e : Event) (kind : Kind) (id : ℕ) (addr : List ℕ) (port : ℕ) (bytes : List ℕ) (c : Connection) (m : Machine)
      → asked (at (other e kind id addr port bytes)) c m ≡ asked (at e) c m
  unfolding asked
  asked_other e kind id addr port bytes c m = asked_by_other e kind id addr port bytes _ c _

  progressed_other : (e : Event) (kind : Kind) (id : ℕ) (addr : List ℕ) (port : ℕ) (bytes : List ℕ) (f : Progress) (q : Active) (m : Machine)
      → progressed f (at (other e kind id addr port bytes)) q m ≡ progressed f (at e) q m
  unfolding progressed
  progressed_other e kind id addr port bytes (waiting a) q m = refl
  progressed_other e kind id addr port bytes (packet p) q m = turned_other e kind id addr port bytes _ q.client q.serial q.query m
  progressed_other e kind id addr port bytes failed q m = turned_other e kind id addr port bytes _ q.client q.serial q.query m
  progressed_other e kind id addr port bytes no_port q m = turned_other e kind id addr port bytes _ q.client q.serial q.query m

  -- An event of a link that means the same to a transmission.
  given_other : (e : Event) (kind : Kind) (id : ℕ) (addr : List ℕ) (port : ℕ) (bytes : List ℕ) → ((a : Attempt) (o : Occasion) → after_event (other e kind id addr port bytes) a o ≡ after_event e a o)
      → (o : Option (Picked Active)) (m : Machine) → given_to o (at (other e kind id addr port bytes)) m ≡ given_to o (at e) m
  unfolding given_to progressed_by
  given_other e kind id addr port bytes same None m = refl
  given_other e kind id addr port bytes same (Some p) m =
      ap (λ f. after f.actions (progressed f.progress (at (other e kind id addr port bytes)) p.it (record (record m { queries = p.others }) { links = f.links })))
      (same p.it.attempt (occasion_of (at e) (record m { queries = p.others })))
      ∙ ap (after _) (progressed_other e kind id addr port bytes _ p.it _)

  -- An event of these parts.
  abbrev event_with : Kind → ℕ → ℕ → List ℕ → ℕ → List ℕ → Event
  event_with kind now id addr port bytes = record { now = now; kind = kind; id = id; addr = addr; port = port; bytes = bytes }

  -- A tick

  tick_heard : (now id : ℕ) (addr : List ℕ) (port : ℕ) (bytes : List ℕ) (a : Attempt) (o : Occasion)
      → after_event (event_with tick now 0 no_address 0 []) a o ≡ after_event (event_with tick now id addr port bytes) a o
  unfolding after_event after_kind
  tick_heard now id addr port bytes a o = refl

  due_step_plain : (now id : ℕ) (addr : List ℕ) (port : ℕ) (bytes : List ℕ) (h : Holder) (m : Machine)
      → due_step h (at (event_with tick now 0 no_address 0 [])) m ≡ due_step h (at (event_with tick now id addr port bytes)) m
  unfolding due_step
  due_step_plain now id addr port bytes (of_query a) m =
      given_other (event_with tick now id addr port bytes) tick 0 no_address 0 [] (tick_heard now id addr port bytes) _ m
  due_step_plain now id addr port bytes (of_connection c) m = refl

  due_plain : (now id : ℕ) (addr : List ℕ) (port : ℕ) (bytes : List ℕ) (o : Option Holder) (m : Machine)
      → due_by o (at (event_with tick now 0 no_address 0 [])) m ≡ due_by o (at (event_with tick now id addr port bytes)) m
  unfolding due_by
  due_plain now id addr port bytes None m = refl
  due_plain now id addr port bytes (Some h) m = ap (λ s. cond (nat_le (deadline_of h) now) s (did [] m)) (due_step_plain now id addr port bytes h m)

  tick_plain : (now id : ℕ) (addr : List ℕ) (port : ℕ) (bytes : List ℕ) (o : Option Connection) (m : Machine)
      → tick_by o (at (event_with tick now 0 no_address 0 [])) m ≡ tick_by o (at (event_with tick now id addr port bytes)) m
  unfolding tick_by
  tick_plain now id addr port bytes None m = due_plain now id addr port bytes _ m
  tick_plain now id addr port bytes (Some c) m = asked_other (event_with tick now id addr port bytes) tick 0 no_address 0 [] c m

  -- A request

  request_by_plain : (now id : ℕ) (addr : List ℕ) (port : ℕ) (bytes : List ℕ) (o : Option Request) (m : Machine)
      → request_by o (at (event_with request now 0 addr port bytes)) m ≡ request_by o (at (event_with request now id addr port bytes)) m
  unfolding request_by accepted_udp
  request_by_plain now id addr port bytes None m = refl
  request_by_plain now id addr port bytes (Some r) m =
      ap (after (with_room m).actions) (begun_other (event_with request now id addr port bytes) request 0 addr port bytes _ addr port r (with_room m).machine)

  request_plain : (now id : ℕ) (addr : List ℕ) (port : ℕ) (bytes : List ℕ) (m : Machine)
      → request_step (at (event_with request now 0 addr port bytes)) m ≡ request_step (at (event_with request now id addr port bytes)) m
  unfolding request_step is_refused
  request_plain now id addr port bytes m =
      ap (λ s. cond (nat_lt 1023 (length bytes) || ((nat_lt port 1024 && not (port == 53)) || not (permitted rules.permits addr))) (did [] m) s)
      (request_by_plain now id addr port bytes (request_of bytes) m)

  -- A link's event that has no bytes

  up_heard : (now id : ℕ) (addr : List ℕ) (port : ℕ) (bytes : List ℕ) (a : Attempt) (o : Occasion)
      → after_event (event_with link_up now id no_address 0 []) a o ≡ after_event (event_with link_up now id addr port bytes) a o
  unfolding after_event after_kind after_link_event
  up_heard now id addr port bytes a o = refl

  down_heard : (now id : ℕ) (addr : List ℕ) (port : ℕ) (bytes : List ℕ) (a : Attempt) (o : Occasion)
      → after_event (event_with link_down now id no_address 0 []) a o ≡ after_event (event_with link_down now id addr port bytes) a o
  unfolding after_event after_kind after_link_event
  down_heard now id addr port bytes a o = refl

  refused_heard : (now id : ℕ) (addr : List ℕ) (port : ℕ) (bytes : List ℕ) (a : Attempt) (o : Occasion)
      → after_event (event_with bind_refused now id no_address 0 []) a o ≡ after_event (event_with bind_refused now id addr port bytes) a o
  unfolding after_event after_kind after_link_event
  refused_heard now id addr port bytes a o = refl

  link_plain : (kind : Kind) (now id : ℕ) (addr : List ℕ) (port : ℕ) (bytes : List ℕ)
      → ((a : Attempt) (o : Occasion) → after_event (event_with kind now id no_address 0 []) a o ≡ after_event (event_with kind now id addr port bytes) a o)
      → (m : Machine) → link_step (at (event_with kind now id no_address 0 [])) m ≡ link_step (at (event_with kind now id addr port bytes)) m
  unfolding link_step
  link_plain kind now id addr port bytes same m = given_other (event_with kind now id addr port bytes) kind id no_address 0 [] same _ m

  -- A client's connection

  conn_up_plain : (now id : ℕ) (addr : List ℕ) (port : ℕ) (bytes : List ℕ) (o : Option Connection) (m : Machine)
      → conn_up_by o (at (event_with conn_up now id addr port [])) m ≡ conn_up_by o (at (event_with conn_up now id addr port bytes)) m
  unfolding conn_up_by is_refused opened
  conn_up_plain now id addr port bytes None m = refl
  conn_up_plain now id addr port bytes (Some c) m = refl

  gathered_plain : (now id : ℕ) (addr : List ℕ) (port : ℕ) (bytes : List ℕ) (c : Connection) (m : Machine)
      → gathered_by c (at (event_with conn_bytes now id no_address 0 bytes)) m ≡ gathered_by c (at (event_with conn_bytes now id addr port bytes)) m
  unfolding gathered_by
  gathered_plain now id addr port bytes c m =
      ap (λ s. cond (is_ready m c) s (did [] m)) (asked_other (event_with conn_bytes now id addr port bytes) conn_bytes id no_address 0 bytes c m)

  conn_bytes_plain : (now id : ℕ) (addr : List ℕ) (port : ℕ) (bytes : List ℕ) (o : Option Connection) (m : Machine)
      → conn_bytes_by o (at (event_with conn_bytes now id no_address 0 bytes)) m ≡ conn_bytes_by o (at (event_with conn_bytes now id addr port bytes)) m
  unfolding conn_bytes_by
  conn_bytes_plain now id addr port bytes None m = refl
  conn_bytes_plain now id addr port bytes (Some c) m =
      let d = record c { gathered = c.gathered ++ bytes } in
      ap (λ s. cond (nat_lt 65537 (length c.gathered + length bytes)) (closed_with close_long c m) s)
      (gathered_plain now id addr port bytes d (record m { connections = with_connection d m.connections }))

  -- Each kind

  each_plain : (kind : Kind) (now id : ℕ) (addr : List ℕ) (port : ℕ) (bytes : List ℕ) (m : Machine)
      → step_by kind (at (plain (event_with kind now id addr port bytes))) m ≡ step_by kind (at (event_with kind now id addr port bytes)) m
  unfolding step_by
  each_plain tick now id addr port bytes m = tick_plain now id addr port bytes _ m
  each_plain request now id addr port bytes m = request_plain now id addr port bytes m
  each_plain datagram now id addr port bytes m = refl
  each_plain link_up now id addr port bytes m = link_plain link_up now id addr port bytes (up_heard now id addr port bytes) m
  each_plain link_bytes now id addr port bytes m = refl
  each_plain link_down now id addr port bytes m = link_plain link_down now id addr port bytes (down_heard now id addr port bytes) m
  each_plain bind_refused now id addr port bytes m = link_plain bind_refused now id addr port bytes (refused_heard now id addr port bytes) m
  each_plain conn_up now id addr port bytes m = conn_up_plain now id addr port bytes _ m
  each_plain conn_bytes now id addr port bytes m = conn_bytes_plain now id addr port bytes _ m
  each_plain conn_down now id addr port bytes m = refl

pub step_plain : (rules : Rules) (m : Machine) (e : Event) (draws : List ℕ) → step rules m (plain e) draws ≡ step rules m e draws
unfolding step
step_plain rules m e draws = each_plain rules draws e.kind e.now e.id e.addr e.port e.bytes m

-- Whole runs

taken_plain : (rules : Rules) (draws : ℕ → List ℕ) (n : ℕ) (m : Machine) (es : List Event)
    → flat_map (λ t. t.stepped.actions) (taken_from rules draws n m (map plain es)) ≡ flat_map (λ t. t.stepped.actions) (taken_from rules draws n m es)
unfolding taken_from
taken_plain rules draws n m [] = refl
taken_plain rules draws n m (e ∷ es) =
    ap (λ (s : Stepped). s.actions ++ flat_map (λ t. t.stepped.actions) (taken_from rules draws (n + 1) s.machine (map plain es))) (step_plain rules m e (draws n))
    ∙ ap (λ l. (step rules m e (draws n)).actions ++ l) (taken_plain rules draws (n + 1) (step rules m e (draws n)).machine es)

-- What the machine does at events and at the plain ones is the same.
pub runs_plain : (rules : Rules) (seed : List ℕ) (cache : Cache) (es : List Event) → actions_of (seeded_run rules seed cache (map plain es)) ≡ actions_of (seeded_run rules seed cache es)
unfolding seeded_run run actions_of
runs_plain rules seed cache es = ap (λ l. line line_starting ∷ l) (taken_plain rules _ 0 (opening cache) es)
