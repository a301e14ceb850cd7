-- How queries end, and connections with them.
use Rattle.std.proofs.Common.{◌≡◌, ℕ, zero, suc, ◌+◌, ◌-◌, ◌<◌, List, [], ◌∷◌, ◌++◌, length, Option, Some, None, IsSome, refl, sym, ap, subst, ◌∙◌, true≢false, arith}
use Rattle.std.specs.Prelude.{find}
use Rattle.std.specs.List.{slice_get, remove, position}
use Rattle.std.proofs.lemmas.List.{length-append}
use Rattle.dc_model.specs.Cache.{Cache}
use Rattle.dc_model.specs.Event.{Action, line, link_close}
use Rattle.dc_model.specs.Line.{DropCause, CloseCause, close_drop, line_drop, line_tcpclose}
use Rattle.dc_model.specs.Reply.{Reply, reply_bytes, tcp_bytes}
use Rattle.dc_model.specs.Message.{u16}
use Rattle.dc_model.specs.Transmission.{Attempt, waiting}
use Rattle.dc_transmit.specs.Standing.{Standing, standing_at, stopped}
use Rattle.dc_machine.specs.Query.{Query}
use Rattle.dc_machine.specs.Turn.{Outcome, waits, replied, dropped}
use Rattle.dc_machine.specs.Machine.{Machine, Client, Active, Connection, Picked, Stepped, pick, is_on, did, after, drop_actions, drop_cause, closed_alone, closed_by, closed_with, closed_if_open, replied_to, dropped_for, settled, with_query, by_udp, by_tcp}
use Rattle.dc_reply.specs.Draft.{draft_of}
use Rattle.dc_frames.specs.View.{query_of}
use Rattle.dc_desk.specs.Steps.{cause_of}
use Rattle.dc_desk.specs.declared.outcome.Cause.{Cause}
use Rattle.dc_desk.specs.declared.outcome.Outcome.{Outcome as Answer}
use Rattle.dc_desk.specs.declared.outcome.Outcome.TheVariants.{Waiting, Replied, Dropped}
use Rattle.dc_resolve.specs.Steps.{Ends}
use Rattle.dc_active.specs.Roll.{Roll}
use Rattle.dc_active.specs.View.{attempt_or, active_of, client_of}
use Rattle.dc_active.specs.declared.work.Taken.{Taken}
use Rattle.dc_active.proofs.PickLemmas.{pick_at, pick_none}
use Rattle.dc_connections.specs.Places.{connection_at, has_number}
use Rattle.dc_clients.specs.View.{machine_of, rules_of, Took}
use Rattle.dc_clients.specs.declared.clients.Clients.{Clients}
use Rattle.dc_clients.proofs.TookLemmas.{took_as, took_on}

-- Connections

closed_same_by : (o : Option (Picked Active)) (cause : CloseCause) (c : Connection) (gathered : List ℕ) (m : Machine) → closed_by o cause c m ≡ closed_by o cause (record c { gathered = gathered }) m
unfolding closed_by closed_alone
closed_same_by None cause c gathered m = refl
closed_same_by (Some p) cause c gathered m = refl

-- The bytes gathered make no difference to how a connection is closed.
pub closed_same : (cause : CloseCause) (c : Connection) (gathered : List ℕ) (m : Machine) → closed_with cause c m ≡ closed_with cause (record c { gathered = gathered }) m
unfolding closed_with
closed_same cause c gathered m = closed_same_by (pick (λ a. is_on c.number a.client) m.queries) cause c gathered m

-- The line of a connection that is closed.
pub closing_line : (text out a b : List ℕ) (p q : ℕ) (cause : CloseCause) → text ≡ out → out ≡ line_tcpclose a p cause → a ≡ b → p ≡ q → text ≡ line_tcpclose b q cause
closing_line text out a b p q cause d e f h = d ∙ e ∙ ap (λ x. line_tcpclose x p cause) f ∙ ap (λ x. line_tcpclose b x cause) h

-- A connection without a query is closed alone.
pub closed_none : (cause : CloseCause) (c : Connection) (m : Machine) → None ≡ position (λ a. is_on c.number a.client) m.queries → closed_with cause c m ≡ closed_alone cause c m
unfolding closed_with closed_by
closed_none cause c m h = ap (λ o. closed_by o cause c m) (pick_none (λ (a : Active). is_on c.number a.client) m.queries (sym h))

-- The query that is found is dropped before.
pub closed_some : (cause : CloseCause) (c : Connection) (m : Machine) (place : ℕ) (a : Active) → Some place ≡ position (λ a. is_on c.number a.client) m.queries → slice_get m.queries place ≡ Some a
    → closed_with cause c m ≡ after (drop_actions (drop_cause cause) a) (closed_alone cause c (record m { queries = remove m.queries place; dropped = m.dropped + 1 }))
unfolding closed_with closed_by
closed_some cause c m place a h k = ap (λ o. closed_by o cause c m) (pick_at (λ (b : Active). is_on c.number b.client) m.queries place a (sym h) k)

-- What stands at a place within.
pub stands : {A : Type 0} (xs : List A) (i : ℕ) → i < length xs → (x : A) × (slice_get xs i ≡ Some x)
stands [] i h = absurd (omega (arith, h))
stands (x ∷ xs) zero h = (x, refl)
stands (x ∷ xs) (suc i) h = stands xs i (omega (arith, h))

-- Queries

-- The link of an attempt that is made is closed.
pub stopped_is : (o : Option Attempt) → IsSome o → stopped o ≡ link_close (attempt_or o).link ∷ []
unfolding stopped
stopped_is None h = absurd (true≢false (sym h))
stopped_is (Some a) h = refl

pub same_active : (o : Option Active) (a b : Active) → o ≡ Some a → o ≡ Some b → a ≡ b
same_active o a b h k = cc

-- The connection that is found is closed.
pub dropped_open : (number i : ℕ) (m : Machine) → Some (connection_at m.connections i) ≡ find (has_number number) m.connections
    → dropped_for (by_tcp number) m ≡ closed_alone close_drop (connection_at m.connections i) m
unfolding dropped_for
dropped_open number i m h = ap (λ o. closed_if_open o m) (sym h)

-- None is found.
pub dropped_gone : (number : ℕ) (m : Machine) → None ≡ find (has_number number) m.connections → dropped_for (by_tcp number) m ≡ did [] m
unfolding dropped_for
dropped_gone number m h = ap (λ o. closed_if_open o m) (sym h)

pub dropped_udp : (addr : List ℕ) (port : ℕ) (m : Machine) → dropped_for (by_udp addr port) m ≡ did [] m
unfolding dropped_for
dropped_udp addr port m = refl

two_bytes : (n : ℕ) → length (u16 n) ≡ 2
two_bytes n = refl

-- A message in a stream has two bytes of its length in front.
pub framed_length : (r : Reply) (bytes : List ℕ) (n : ℕ) → bytes ≡ tcp_bytes r → n ≡ length bytes - 2 → n ≡ length (reply_bytes r)
unfolding tcp_bytes
framed_length r bytes n h k =
    let whole : length bytes ≡ 2 + length (reply_bytes r) = ap (λ bs. length bs) h ∙ length-append (u16 (length (reply_bytes r))) (reply_bytes r) ∙ ap (λ x. x + length (reply_bytes r)) (two_bytes (length (reply_bytes r))) in
    omega (arith, whole, k)

-- Outcomes

-- A query that waits stands among the active ones with its attempt.
pub settled_waits : (o : Outcome) (a : Attempt) (w : Standing) (client : Client) (serial now : ℕ) (q : Query) (m : Machine) → o ≡ waits a → w ≡ standing_at (waiting a)
    → settled o client serial now q m ≡ did [] (record m { queries = with_query (record { serial = serial; client = client; query = q; attempt = attempt_or w.attempt }) m.queries })
unfolding settled
settled_waits o a w client serial now q m e f =
    ap (λ x. settled x client serial now q m) e
    ∙ ap (λ (b : Attempt). did [] (record m { queries = with_query (record { serial = serial; client = client; query = q; attempt = b }) m.queries })) (sym (ap (λ (x : Standing). attempt_or x.attempt) f))

pub settled_replied : (o : Outcome) (r : Reply) (client : Client) (serial now : ℕ) (q : Query) (m : Machine) → o ≡ replied r → settled o client serial now q m ≡ replied_to client serial now r m
unfolding settled
settled_replied o r client serial now q m e = ap (λ x. settled x client serial now q m) e

pub settled_dropped : (o : Outcome) (cause : DropCause) (client : Client) (serial now : ℕ) (q : Query) (m : Machine) → o ≡ dropped cause
    → settled o client serial now q m ≡ after (line (line_drop serial cause) ∷ []) (dropped_for client (record m { dropped = m.dropped + 1 }))
unfolding settled
settled_dropped o cause client serial now q m e = ap (λ x. settled x client serial now q m) e

module _ {S O : Type 0} (acted : O → List Action → O → Type 0) (cache : S → Cache) where
  -- A step looks at the rules alone of the clients that it begins with.
  pub took_from : {a b : O} {c d e : Clients S} {s : Stepped} → rules_of d ≡ rules_of c → Took acted cache a d b e s → Took acted cache a c b e s
  took_from r h = record { acts = h.acts; machine = h.machine; rules = h.rules ∙ r }

  -- The same step from states that are called otherwise.
  pub took_with : {a a' b : O} {c c' d : Clients S} (next : Clients S → Stepped) → a ≡ a' → c ≡ c' → Took acted cache a c b d (next c) → Took acted cache a' c' b d (next c')
  took_with {a} {a'} {b} {c} {c'} {d} next e f h =
      subst (λ (x : Clients S). Took acted cache a' x b d (next x)) f (subst (λ (x : O). Took acted cache x c b d (next c)) e h)

  -- A connection with a query is closed: the query is dropped, and then the connection is closed alone.
  pub closing_some : (both : (a b c : O) (xs ys : List Action) → acted a xs b → acted b ys c → acted a (xs ++ ys) c)
      {x y z : O} {c d e : Clients S} (cause : CloseCause) (i n place : ℕ) (a : Active)
      → Some place ≡ position (λ b. is_on n b.client) c.queries.queries → n ≡ (connection_at c.connections i).number → slice_get c.queries.queries place ≡ Some a
      → Took acted cache x c y d (did (drop_actions (drop_cause cause) a) (record (machine_of cache c) { queries = remove c.queries.queries place; dropped = c.desk.counts.dropped + 1 }))
      → d.connections ≡ c.connections
      → Took acted cache y d z e (closed_alone cause (connection_at d.connections i) (machine_of cache d))
      → Took acted cache x c z e (closed_with cause (connection_at c.connections i) (machine_of cache c))
  closing_some both {x} {y} {z} {c} {d} {e} cause i n place a h l k first same last =
      let there : Some place ≡ position (λ b. is_on (connection_at c.connections i).number b.client) c.queries.queries =
      h ∙ ap (λ v. position (λ (b : Active). is_on v b.client) c.queries.queries) l in
      let rest = subst (λ cs. Took acted cache y d z e (closed_alone cause (connection_at cs i) (machine_of cache d))) same last in
      took_as acted cache _ _ (closed_some cause (connection_at c.connections i) (machine_of cache c) place a there k)
      (took_on acted cache both (closed_alone cause (connection_at c.connections i)) first rest)

  -- A connection without a query is closed.
  pub closing_none : {x z : O} {c e : Clients S} (cause : CloseCause) (i n : ℕ)
      → None ≡ position (λ b. is_on n b.client) c.queries.queries → n ≡ (connection_at c.connections i).number
      → Took acted cache x c z e (closed_alone cause (connection_at c.connections i) (machine_of cache c))
      → Took acted cache x c z e (closed_with cause (connection_at c.connections i) (machine_of cache c))
  closing_none {x} {z} {c} {e} cause i n h l last =
      let none : None ≡ position (λ b. is_on (connection_at c.connections i).number b.client) c.queries.queries =
      h ∙ ap (λ v. position (λ (b : Active). is_on v b.client) c.queries.queries) l in
      took_as acted cache _ _ (closed_none cause (connection_at c.connections i) (machine_of cache c) none) last

  -- A query that was dropped has its line, and then what follows for its client.
  pub giving_up : (both : (a b c : O) (xs ys : List Action) → acted a xs b → acted b ys c → acted a (xs ++ ys) c)
      {x y z : O} {c d e : Clients S} (text out : List ℕ) (serial : ℕ) (cause : DropCause) (s t : Stepped)
      → text ≡ out → out ≡ line_drop serial cause → acted x (line text ∷ []) y → s ≡ t → rules_of d ≡ rules_of c
      → Took acted cache y d z e t → Took acted cache x c z e (after (line (line_drop serial cause) ∷ []) s)
  giving_up both {x} {y} {z} {c} {d} {e} text out serial cause s t h k l f r last =
      let wrote : acted x (line (line_drop serial cause) ∷ []) y = subst (λ (bs : List ℕ). acted x (line bs ∷ []) y) (h ∙ k) l in
      let rest : Took acted cache y d z e s = took_as acted cache s t f last in
      record { acts = both _ _ _ _ _ wrote rest.acts; machine = rest.machine; rules = rest.rules ∙ r }

  -- A query that waits was put among the active ones.
  pub settling_waits : (none : (a : O) → acted a [] a) (x : O) (c : Clients S) (t : Taken) (answer : Answer) (o : Outcome) (now : ℕ) (queries : Roll)
      → answer ≡ Waiting → Ends answer c.desk.reply t.work.value.sender o → queries ≡ record c.queries { queries = with_query (active_of t) c.queries.queries }
      → Took acted cache x c x (record c { queries = queries }) (settled o (client_of t.client) t.serial now (query_of t.work.value.query) (machine_of cache c))
  settling_waits none x c t answer o now queries h e f =
      let ends : Ends Waiting c.desk.reply t.work.value.sender o = subst (λ (y : Answer). Ends y c.desk.reply t.work.value.sender o) h e in
      let m : Machine = machine_of cache c in
      took_as acted cache _ (did [] (record m { queries = with_query (active_of t) c.queries.queries }))
      (settled_waits o ends.0 t.work.value.sender (client_of t.client) t.serial now (query_of t.work.value.query) m ends.1 ends.2)
      (record { acts = none x; machine = ap (λ (qs : List Active). record m { queries = qs }) (ap (λ (r : Roll). r.queries) f); rules = refl })

  -- A query that is replied to is none of the active ones, whose number stays.
  pub settling_replies : {x y : O} {e : Clients S} (c : Clients S) (t : Taken) (answer : Answer) (o : Outcome) (now : ℕ) (queries : Roll)
      → answer ≡ Replied → Ends answer c.desk.reply t.work.value.sender o → queries.queries ≡ c.queries.queries
      → ((r : Reply) → c.desk.reply ≡ draft_of r → Took acted cache x (record c { queries = queries }) y e (replied_to (client_of t.client) t.serial now r (machine_of cache (record c { queries = queries }))))
      → Took acted cache x c y e (settled o (client_of t.client) t.serial now (query_of t.work.value.query) (machine_of cache c))
  settling_replies c t answer o now queries h e f k =
      let ends : Ends Replied c.desk.reply t.work.value.sender o = subst (λ (y : Answer). Ends y c.desk.reply t.work.value.sender o) h e in
      let m : Machine = machine_of cache c in
      took_as acted cache _ _
      (settled_replied o ends.0 (client_of t.client) t.serial now (query_of t.work.value.query) m ends.1
      ∙ ap (λ (qs : List Active). replied_to (client_of t.client) t.serial now ends.0 (record m { queries = qs })) (sym f))
      (took_from refl (k ends.0 ends.2))

  -- The same of one that is dropped.
  pub settling_drops : {x y : O} {e : Clients S} (c : Clients S) (t : Taken) (answer : Answer) (o : Outcome) (now : ℕ) (queries : Roll) (cause : Cause) (word : DropCause)
      → answer ≡ Dropped cause → Ends answer c.desk.reply t.work.value.sender o → queries.queries ≡ c.queries.queries → word ≡ cause_of cause
      → Took acted cache x (record c { queries = queries }) y e
      (after (line (line_drop t.serial word) ∷ []) (dropped_for (client_of t.client) (record (machine_of cache c) { queries = queries.queries; dropped = c.desk.counts.dropped + 1 })))
      → Took acted cache x c y e (settled o (client_of t.client) t.serial now (query_of t.work.value.query) (machine_of cache c))
  settling_drops c t answer o now queries cause word h e f l k =
      let ends : Ends (Dropped cause) c.desk.reply t.work.value.sender o = subst (λ (y : Answer). Ends y c.desk.reply t.work.value.sender o) h e in
      let m : Machine = machine_of cache c in
      took_as acted cache _ _
      (settled_dropped o (cause_of cause) (client_of t.client) t.serial now (query_of t.work.value.query) m ends.0
      ∙ ap (λ (w : DropCause). after (line (line_drop t.serial w) ∷ []) (dropped_for (client_of t.client) (record m { dropped = m.dropped + 1 }))) (sym l)
      ∙ ap (λ (qs : List Active). after (line (line_drop t.serial word) ∷ []) (dropped_for (client_of t.client) (record m { queries = qs; dropped = m.dropped + 1 }))) (sym f))
      (took_from refl k)
