-- Steps of clients' connections, in the machine's words.
use Rattle.std.proofs.Common.{◌≡◌, ℕ, ◌+◌, ◌<◌, ◌≤◌, Bool, true, false, not, ◌&&◌, List, [], ◌∷◌, ◌++◌, length, Option, Some, None, option_map, nat_le, nat_lt, refl, sym, ap, subst, ◌∙◌, arith, is_some, find, true≢false}
use Rattle.std.specs.Prelude.{if◌then◌else◌}
use Rattle.std.specs.List.{list_any}
use Rattle.std.proofs.lemmas.Bool.Decides.{nat_tests}
use Rattle.dc_model.specs.Cache.{Cache}
use Rattle.dc_model.specs.Event.{Action, conn_close, line}
use Rattle.dc_model.specs.Line.{CloseCause, close_displaced, close_closed, close_proto, close_long, line_tcpopen}
use Rattle.dc_model.specs.Message.{Request, request_of}
use Rattle.dc_model.specs.Transmission.{is_whole}
use Rattle.dc_machine.specs.Machine.{Machine, Active, Connection, by_tcp, Input, Stepped, Picked, pick, is_on, did, after, with_connection, without_connection, has_query, is_ready, is_refused, first_message, closed_alone, closed_by, closed_with, begun, asked, asked_by, displaced_connection, with_place, opened, conn_up_by, gathered_by, conn_bytes_by, conn_down_by}
use Rattle.dc_connections.specs.Places.{connection_at, has_number, with_more, with_less}
use Rattle.dc_connections.proofs.PlaceLemmas.{still_none}
use Rattle.dc_clients.proofs.TookLemmas.{took_as}
use Rattle.dc_clients.proofs.SettleLemmas.{closed_same, took_from}
use Rattle.dc_clients.specs.View.{machine_of, Took}
use Rattle.dc_clients.specs.declared.clients.Clients.{Clients}

-- Ready connections

and_true : (b : Bool) → b ≡ (b && true)
and_true true = refl
and_true false = refl

and_false : (b : Bool) → false ≡ (b && false)
and_false true = refl
and_false false = refl

-- Where a whole request came, a connection is ready unless a query is on it.
pub ready_free : (m : Machine) (c : Connection) (n : ℕ) (busy whole : Bool) → whole ≡ is_whole c.gathered → whole ≡ true → n ≡ c.number
    → busy ≡ list_any (λ a. is_on n a.client) m.queries → not busy ≡ is_ready m c
unfolding is_ready
ready_free m c n busy whole w t e b =
    ap not (b ∙ ap (λ k. list_any (λ (a : Active). is_on k a.client) m.queries) e)
    ∙ (and_true (not (has_query m c)) ∙ ap (λ x. not (has_query m c) && x) (sym t ∙ w))

-- Where none came, it isn't.
pub ready_not : (m : Machine) (c : Connection) (whole : Bool) → whole ≡ is_whole c.gathered → whole ≡ false → whole ≡ is_ready m c
unfolding is_ready
ready_not m c whole w f = f ∙ (and_false (not (has_query m c)) ∙ ap (λ x. not (has_query m c) && x) (sym f ∙ w))

-- Connections that are closed and found

closed_by_left : (o : Option (Picked Active)) (cause : CloseCause) (c : Connection) (m : Machine)
    → (closed_by o cause c m).machine.connections ≡ without_connection c.number m.connections
unfolding closed_by closed_alone
closed_by_left None cause c m = refl
closed_by_left (Some p) cause c m = refl

-- The connections that are left are the others.
closed_left : (cause : CloseCause) (c : Connection) (m : Machine) → (closed_with cause c m).machine.connections ≡ without_connection c.number m.connections
unfolding closed_with
closed_left cause c m = closed_by_left (pick (λ a. is_on c.number a.client) m.queries) cause c m

-- A connection is found by its number.
pub found_of : (cs : List Connection) (o : Option ℕ) (n k i : ℕ) → option_map (connection_at cs) o ≡ find (has_number n) cs → n ≡ k → o ≡ Some i
    → Some (connection_at cs i) ≡ find (has_number k) cs
found_of cs o n k i f e h = sym (ap (option_map (connection_at cs)) h) ∙ (f ∙ ap (λ j. find (has_number j) cs) e)

-- None has the number.
pub missing_of : (cs : List Connection) (o : Option ℕ) (n k : ℕ) → option_map (connection_at cs) o ≡ find (has_number n) cs → n ≡ k → o ≡ None
    → None ≡ find (has_number k) cs
missing_of cs o n k f e h = sym (ap (option_map (connection_at cs)) h) ∙ (f ∙ ap (λ j. find (has_number j) cs) e)

-- A client that closes its connection

-- Its connection stands there.
pub down_at : (o : Option Connection) (c : Connection) (m : Machine) → Some c ≡ o → conn_down_by o m ≡ closed_with close_closed c m
unfolding conn_down_by
down_at o c m e = sym (ap (λ x. conn_down_by x m) e)

-- It has none.
pub down_none : (o : Option Connection) (m : Machine) → None ≡ o → conn_down_by o m ≡ did [] m
unfolding conn_down_by
down_none o m e = sym (ap (λ x. conn_down_by x m) e)

-- Bytes of a client

more_than : (a b : ℕ) → a < b → nat_lt a b ≡ true
more_than a b h = grind (arith, nat_tests)

no_more_than : (a b : ℕ) → b ≤ a → nat_lt a b ≡ false
no_more_than a b h = grind (arith, nat_tests)

-- They come on no connection.
pub bytes_none : (o : Option Connection) (i : Input) (m : Machine) → None ≡ o → conn_bytes_by o i m ≡ did [] m
unfolding conn_bytes_by
bytes_none o i m e = sym (ap (λ x. conn_bytes_by x i m) e)

-- They are too many.
pub bytes_long : (o : Option Connection) (c : Connection) (i : Input) (m : Machine) (n k : ℕ) → Some c ≡ o → n ≡ length c.gathered → k ≡ length i.event.bytes → 65537 < n + k
    → conn_bytes_by o i m ≡ closed_with close_long c m
unfolding conn_bytes_by
bytes_long o c i m n k e f g h =
    let t : nat_lt 65537 (length c.gathered + length i.event.bytes) ≡ true = more_than 65537 (length c.gathered + length i.event.bytes) (omega (arith, f, g, h)) in
    sym (ap (λ x. conn_bytes_by x i m) e) ∙ rw t refl

bytes_few : (o : Option Connection) (c : Connection) (i : Input) (m : Machine) (n k : ℕ) → Some c ≡ o → n ≡ length c.gathered → k ≡ length i.event.bytes → n + k ≤ 65537
    → conn_bytes_by o i m ≡ gathered_by (with_more i.event.bytes c) i (record m { connections = with_connection (with_more i.event.bytes c) m.connections })
unfolding conn_bytes_by
bytes_few o c i m n k e f g h =
    let t : nat_lt 65537 (length c.gathered + length i.event.bytes) ≡ false = no_more_than 65537 (length c.gathered + length i.event.bytes) (omega (arith, f, g, h)) in
    sym (ap (λ x. conn_bytes_by x i m) e) ∙ rw t refl

-- They are gathered, and the connection stands at a place.
pub record Gathered (o : Option Connection) (c d : Connection) (cs : List Connection) (n : ℕ) (bytes : List ℕ) (i : Input) (m : Machine) : Type 0 where
  pub found : Some c ≡ o
  pub count : n ≡ length c.gathered
  pub bytes_are : bytes ≡ i.event.bytes
  pub few : n + length bytes ≤ 65537
  pub connections : cs ≡ with_connection (with_more bytes c) m.connections
  pub there : d ≡ with_more bytes c

bytes_by : (o : Option Connection) (c d : Connection) (cs : List Connection) (n : ℕ) (bytes : List ℕ) (i : Input) (m : Machine) → Gathered o c d cs n bytes i m
    → conn_bytes_by o i m ≡ gathered_by d i (record m { connections = cs })
bytes_by o c d cs n bytes i m h =
    let more : with_more bytes c ≡ with_more i.event.bytes c = ap (λ (b : List ℕ). with_more b c) h.bytes_are in
    let list : cs ≡ with_connection (with_more i.event.bytes c) m.connections = h.connections ∙ ap (λ x. with_connection x m.connections) more in
    let first : gathered_by d i (record m { connections = cs }) ≡ gathered_by (with_more i.event.bytes c) i (record m { connections = cs }) =
    ap (λ x. gathered_by x i (record m { connections = cs })) (h.there ∙ more) in
    let second : gathered_by (with_more i.event.bytes c) i (record m { connections = cs })
    ≡ gathered_by (with_more i.event.bytes c) i (record m { connections = with_connection (with_more i.event.bytes c) m.connections }) =
    ap (λ (ds : List Connection). gathered_by (with_more i.event.bytes c) i (record m { connections = ds })) list in
    bytes_few o c i m n (length bytes) h.found h.count (ap length h.bytes_are) h.few ∙ sym (first ∙ second)

gathered_ready : (c : Connection) (i : Input) (m : Machine) → is_ready m c ≡ true → gathered_by c i m ≡ asked i c m
unfolding gathered_by
gathered_ready c i m h = rw h refl

gathered_waits : (c : Connection) (i : Input) (m : Machine) → is_ready m c ≡ false → gathered_by c i m ≡ did [] m
unfolding gathered_by
gathered_waits c i m h = rw h refl

-- The connection is ready now.
pub bytes_ask : (o : Option Connection) (c d : Connection) (cs : List Connection) (n : ℕ) (bytes : List ℕ) (i : Input) (m : Machine) (ready : Bool) → Gathered o c d cs n bytes i m
    → ready ≡ is_ready (record m { connections = cs }) d → ready ≡ true → conn_bytes_by o i m ≡ asked i d (record m { connections = cs })
bytes_ask o c d cs n bytes i m ready h r t = bytes_by o c d cs n bytes i m h ∙ gathered_ready d i (record m { connections = cs }) (sym r ∙ t)

-- It isn't.
pub bytes_wait : (o : Option Connection) (c d : Connection) (cs : List Connection) (n : ℕ) (bytes : List ℕ) (i : Input) (m : Machine) (ready : Bool) → Gathered o c d cs n bytes i m
    → ready ≡ is_ready (record m { connections = cs }) d → ready ≡ false → conn_bytes_by o i m ≡ did [] (record m { connections = cs })
bytes_wait o c d cs n bytes i m ready h r f = bytes_by o c d cs n bytes i m h ∙ gathered_waits d i (record m { connections = cs }) (sym r ∙ f)

-- The first request of a connection

asked_as : (i : Input) (c : Connection) (m : Machine) (cs : List Connection) (o : Option Request) (message : List ℕ) → cs ≡ with_connection (with_less c) m.connections
    → message ≡ first_message c.gathered → o ≡ request_of message → asked i c m ≡ asked_by o i c (record m { connections = cs })
unfolding asked
asked_as i c m cs o message h e r =
    ap (λ x. asked_by x i c (record m { connections = with_connection (with_less c) m.connections })) (sym (r ∙ ap request_of e))
    ∙ ap (λ (ds : List Connection). asked_by o i c (record m { connections = ds })) (sym h)

begun_as : (i : Input) (c : Connection) (n : ℕ) (addr : List ℕ) (port : ℕ) (r : Request) (m : Machine) → n ≡ c.number → addr ≡ c.addr → port ≡ c.port
    → begun i (by_tcp c.number) c.addr c.port r m ≡ begun i (by_tcp n) addr port r m
begun_as i c n addr port r m e f g = rw (e, f, g) refl

asked_some : (i : Input) (c : Connection) (r : Request) (m : Machine) → asked_by (Some r) i c m ≡ begun i (by_tcp c.number) c.addr c.port r m
unfolding asked_by
asked_some i c r m = refl

asked_none : (i : Input) (c : Connection) (m : Machine) → asked_by None i c m ≡ closed_with close_proto c m
unfolding asked_by
asked_none i c m = refl

-- It is one, and is accepted.
pub asks : (i : Input) (c : Connection) (m : Machine) (cs : List Connection) (r : Request) (message : List ℕ) (n : ℕ) (addr : List ℕ) (port : ℕ)
    → cs ≡ with_connection (with_less c) m.connections → message ≡ first_message c.gathered → Some r ≡ request_of message → n ≡ c.number → addr ≡ c.addr → port ≡ c.port
    → asked i c m ≡ begun i (by_tcp n) addr port r (record m { connections = cs })
asks i c m cs r message n addr port h e f g k l =
    asked_as i c m cs (Some r) message h e f ∙ (asked_some i c r (record m { connections = cs }) ∙ begun_as i c n addr port r (record m { connections = cs }) g k l)

-- It is none: the connection, as it stands at its place now, is closed.
pub asks_nothing : (i : Input) (c d : Connection) (m : Machine) (cs : List Connection) (message : List ℕ)
    → cs ≡ with_connection (with_less c) m.connections → d ≡ with_less c → message ≡ first_message c.gathered → None ≡ request_of message
    → asked i c m ≡ closed_with close_proto d (record m { connections = cs })
asks_nothing i c d m cs message h k e f =
    asked_as i c m cs None message h e f
    ∙ (asked_none i c (record m { connections = cs })
    ∙ (closed_same close_proto c (with_less c).gathered (record m { connections = cs })
    ∙ sym (ap (λ x. closed_with close_proto x (record m { connections = cs })) k)))

-- Place for one more

at_least : (a b : ℕ) → a ≤ b → nat_le a b ≡ true
at_least a b h = grind (arith, nat_tests)

below : (a b : ℕ) → b < a → nat_le a b ≡ false
below a b h = grind (arith, nat_tests)

first_displaced : (cs : List Connection) (m : Machine) → 0 < length cs → displaced_connection cs m ≡ closed_with close_displaced (connection_at cs 0) m
unfolding displaced_connection connection_at
first_displaced [] m h = absurd (omega (arith, h))
first_displaced (c ∷ cs) m h = refl

-- Where 20 are open, the first is closed.
pub place_made : (m : Machine) (n : ℕ) → n ≡ length m.connections → 20 ≤ n → with_place m ≡ closed_with close_displaced (connection_at m.connections 0) m
unfolding with_place
place_made m n e h =
    let t : nat_le 20 (length m.connections) ≡ true = at_least 20 (length m.connections) (omega (arith, e, h)) in
    let first : displaced_connection m.connections m ≡ closed_with close_displaced (connection_at m.connections 0) m = first_displaced m.connections m (omega (arith, e, h)) in
    ap (λ b. if b then displaced_connection m.connections m else did [] m) t ∙ first

-- Else none is.
pub place_there : (m : Machine) (n : ℕ) → n ≡ length m.connections → n < 20 → with_place m ≡ did [] m
unfolding with_place
place_there m n e h =
    let t : nat_le 20 (length m.connections) ≡ false = below 20 (length m.connections) (omega (arith, e, h)) in
    ap (λ b. if b then displaced_connection m.connections m else did [] m) t

displaced_new : (cs : List Connection) (m : Machine) (n : ℕ) → find (has_number n) m.connections ≡ None → find (has_number n) (displaced_connection cs m).machine.connections ≡ None
unfolding displaced_connection
displaced_new [] m n h = h
displaced_new (c ∷ cs) m n h = ap (find (has_number n)) (closed_left close_displaced c m) ∙ still_none n c.number m.connections h

place_by : (b : Bool) (m : Machine) (n : ℕ) → find (has_number n) m.connections ≡ None
    → find (has_number n) (if b then displaced_connection m.connections m else did [] m).machine.connections ≡ None
place_by true m n h = displaced_new m.connections m n h
place_by false m n h = h

-- A number that isn't in use still isn't.
pub place_new : (m m' : Machine) (n k : ℕ) → n ≡ k → m' ≡ (with_place m).machine → None ≡ find (has_number k) m.connections → find (has_number n) m'.connections ≡ None
unfolding with_place
place_new m m' n k e s h =
    ap (λ (x : Machine). find (has_number n) x.connections) s
    ∙ place_by (nat_le 20 (length m.connections)) m n (ap (λ j. find (has_number j) m.connections) e ∙ sym h)

-- A client that opens a connection

used_by : (o : Option ℕ) (f : ℕ → Connection) (i : Input) (m : Machine) → is_some o ≡ true → conn_up_by (option_map f o) i m ≡ did [] m
unfolding conn_up_by
used_by None f i m h = absurd (true≢false (sym h))
used_by (Some x) f i m h = refl

-- The number is in use.
pub up_used : (cs : List Connection) (o : Option ℕ) (n k : ℕ) (i : Input) (m : Machine) → option_map (connection_at cs) o ≡ find (has_number n) cs → n ≡ k → is_some o ≡ true
    → conn_up_by (find (has_number k) cs) i m ≡ did [] m
up_used cs o n k i m f e h =
    sym (ap (λ x. conn_up_by x i m) (f ∙ ap (λ j. find (has_number j) cs) e)) ∙ used_by o (connection_at cs) i m h

-- It isn't.
pub none_is : (o : Option ℕ) → is_some o ≡ false → o ≡ None
none_is None h = refl
none_is (Some x) h = absurd (true≢false h)

-- Who opens it isn't served.
pub up_refused : (o : Option Connection) (i : Input) (m : Machine) (n : ℕ) (refused : Bool) → None ≡ o → n ≡ i.event.id → refused ≡ is_refused i → refused ≡ true
    → conn_up_by o i m ≡ did (conn_close n ∷ []) m
unfolding conn_up_by
up_refused o i m n refused e k r t =
    sym (ap (λ x. conn_up_by x i m) e)
    ∙ (ap (λ b. if b then did (conn_close i.event.id ∷ []) m else opened i (with_place m)) (sym r ∙ t) ∙ ap (λ (j : ℕ). did (conn_close j ∷ []) m) (sym k))

-- It is opened behind the others.
abbrev pub opened_more : Connection → List ℕ → Machine → Stepped
opened_more c text m = did (line text ∷ []) (record m { connections = m.connections ++ (c ∷ []) })

pub up_opened : (o : Option Connection) (i : Input) (m : Machine) (refused : Bool) → None ≡ o → refused ≡ is_refused i → refused ≡ false
    → conn_up_by o i m
    ≡ after (with_place m).actions
    (opened_more (record { number = i.event.id; addr = i.event.addr; port = i.event.port; gathered = []; deadline = i.event.now + 10000 }) (line_tcpopen i.event.addr i.event.port) (with_place m).machine)
unfolding conn_up_by opened
up_opened o i m refused e r f =
    sym (ap (λ x. conn_up_by x i m) e)
    ∙ ap (λ b. if b then did (conn_close i.event.id ∷ []) m else opened i (with_place m)) (sym r ∙ f)

module _ {S O : Type 0} (acted : O → List Action → O → Type 0) (cache : S → Cache) where
  -- A step behind a change of the connections.
  pub took_behind : {a b : O} {d : Clients S} {s t : Stepped} (c : Clients S) (cs : List Connection) → s ≡ t → Took acted cache a (record c { connections = cs }) b d t → Took acted cache a c b d s
  took_behind {a} {b} {d} {s} {t} c cs e h = took_as acted cache s t e (took_from acted cache refl h)

  -- Nothing was done but to the connections.
  pub took_changed : (none : (a : O) → acted a [] a) (a : O) (c : Clients S) (cs : List Connection)
      → Took acted cache a c a (record c { connections = cs }) (did [] (record (machine_of cache c) { connections = cs }))
  took_changed none a c cs = record { acts = none a; machine = refl; rules = refl }

  -- A connection was opened.
  pub took_opened : {a b : O} (c : Clients S) (opened : Connection) (cs : List Connection) (text : List ℕ) (want : List ℕ) → acted a (line text ∷ []) b → text ≡ want
      → cs ≡ c.connections ++ (opened ∷ []) → Took acted cache a c b (record c { connections = cs }) (opened_more opened want (machine_of cache c))
  took_opened {a} {b} c opened cs text want h e k = record {
    acts = subst (λ (x : List ℕ). acted a (line x ∷ []) b) e h;
    machine = ap (λ (ds : List Connection). machine_of cache (record c { connections = ds })) k;
    rules = refl;
  }
