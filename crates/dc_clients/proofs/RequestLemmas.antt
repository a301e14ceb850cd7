-- Turns of queries, as the machine has them.
use Rattle.std.proofs.Common.{◌≡◌, ℕ, zero, suc, ◌+◌, ◌≤◌, ◌<◌, Bool, true, false, List, [], ◌∷◌, ◌++◌, length, Option, Some, None, refl, ap, sym, ◌∙◌, subst, arith, append_assoc, true≢false}
use Rattle.std.proofs.lemmas.Bool.Decides.{nat_tests}
use Rattle.std.proofs.lemmas.List.{append-nil}
use Rattle.std.proofs.lemmas.List.Edits.{length-remove}
use Rattle.std.specs.Prelude.{IsTrue, IsSome, if◌then◌else◌, ◌==◌, ◌&&◌, ◌||◌, not, nat_le, nat_lt}
use Rattle.std.specs.List.{slice_get, remove, position}
use Rattle.dc_model.specs.Cache.{Cache}
use Rattle.dc_model.specs.Event.{Event, Action, line}
use Rattle.dc_model.specs.Line.{line_query, displaced}
use Rattle.dc_model.specs.Message.{Request, request_of}
use Rattle.dc_model.specs.Rules.{Rules, permitted}
use Rattle.dc_model.specs.Transmission.{Attempt, Progress, waiting, packet, failed, no_port, Occasion, After, after_event}
use Rattle.dc_model.specs.Reply.{Reply}
use Rattle.dc_reply.specs.Draft.{Draft, draft_of}
use Rattle.dc_frames.specs.View.{query_of}
use Rattle.dc_frames.specs.declared.query.Query.{Query as CodeQuery}
use Rattle.dc_transmit.specs.Attempts.{occasion}
use Rattle.dc_transmit.specs.Standing.{Standing, followed}
use Rattle.dc_machine.specs.Query.{Query, query_for}
use Rattle.dc_machine.specs.Turn as turn
use Rattle.dc_machine.specs.Turn.{Setting, State, Point, at_begin, at_look, at_heard, at_failed, at_no_port, Turned, before, turn as turn_from, waits}
use Rattle.dc_machine.specs.Good.{IsGood, AreShort}
use Rattle.dc_machine.specs.Kept.{AllOf, IsWithin, IsSound}
use Rattle.dc_machine.specs.Machine.{Machine, Input, Stepped, Client, by_udp, Active, Connection, did, after, settled, outcome_or, turned_by, turned, begun, progressed, progressed_by, drop_actions, displaced_query, with_room, accepted_udp, request_by, request_step, given_to, link_step, is_refused, setting_of, occasion_of, udp_queries, one_if, is_udp}
use Rattle.dc_machine.proofs.Rows.{turn_waits}
use Rattle.dc_desk.specs.View as desk
use Rattle.dc_desk.specs.declared.desk.Counts.{Counts}
use Rattle.dc_desk.specs.declared.outcome.Outcome.{Outcome}
use Rattle.dc_desk.specs.declared.outcome.Outcome.TheVariants.{Waiting, Replied, Dropped}
use Rattle.dc_resolve.specs.Steps.{Ends}
use Rattle.dc_resolve.specs.Turns as resolve
use Rattle.dc_resolve.specs.Turns.{TookTurned, turned_after, with_links}
use Rattle.dc_active.specs.Roll.{Roll}
use Rattle.dc_active.specs.View.{active, attempt_or}
use Rattle.dc_active.specs.declared.work.Work.{Work}
use Rattle.dc_active.proofs.PickLemmas.{pick_at, pick_none}
use Rattle.dc_clients.specs.Endings.{EndsWell}
use Rattle.dc_clients.specs.View.{machine_of, input_of, rules_of, AreBelow, Took}
use Rattle.dc_clients.specs.declared.clients.Clients.{Clients}
use Rattle.dc_clients.proofs.TookLemmas.{took_as, took_on}

-- What a turn goes by

-- The desk's counts are those of the machine.
pub record AreCounted (client : Client) (m : Machine) (c : Counts) : Type 0 where
  pub accepted : c.accepted ≡ m.accepted
  pub udp : c.udp ≡ length (udp_queries m.queries) + one_if (is_udp client)
  pub tcp : c.tcp ≡ length m.connections

-- A turn at the desk goes by what one of the machine does, but for the permissions.
setting_is : (i : Input) (client : Client) (m : Machine) (c : Counts) → AreCounted client m c
    → desk.setting_of i.rules.zones i.rules.forward c i.event.now i.draws ≡ setting_of i client m
unfolding desk.setting_of
setting_is i client m c h =
    let of : ℕ → ℕ → ℕ → Setting = λ a u t. record { zones = i.rules.zones; forward = i.rules.forward; draws = i.draws; now = i.event.now; accepted = a; udp = u; tcp = t } in
    ap (λ a. of a c.udp c.tcp) h.accepted
    ∙ ap (λ u. of m.accepted u c.tcp) h.udp
    ∙ ap (λ t. of m.accepted (length (udp_queries m.queries) + one_if (is_udp client)) t) h.tcp

-- So both come to the same.
turn_is : (i : Input) (client : Client) (m : Machine) (c : Counts) → AreCounted client m c → (p : Point) (s : State)
    → turn_from (desk.setting_of i.rules.zones i.rules.forward c i.event.now i.draws) p s ≡ turn_from (setting_of i client m) p s
turn_is i client m c h p s = ap (λ g. turn_from g p s) (setting_is i client m c h)

-- And what follows an event.
after_is : (f : After) (i : Input) (client : Client) (m : Machine) (c : Counts) → AreCounted client m c → (s : State)
    → turned_after f (desk.setting_of i.rules.zones i.rules.forward c i.event.now i.draws) s ≡ turned_after f (setting_of i client m) s
unfolding turned_after
after_is f i client m c h s =
    ap (λ g. before [] f.actions (resolve.turned_by f.progress g (with_links f.links s))) (setting_is i client m c h)

-- Good queries

-- A query of a request is good for its beginning.
pub begun_good : (r : Request) → IsGood at_begin (query_for r)
unfolding AreShort
begun_good r = record { least = omega arith; most = omega arith; turns = omega arith; short = tt }

-- A good query that waits behind an event is good for its next turn.
leaves_by : (pr : Progress) (g : Setting) (s : State) (a : Attempt) → IsGood at_look s.query → Some (waits a) ≡ (resolve.turned_by pr g s).outcome → IsGood at_look (resolve.turned_by pr g s).state.query
unfolding resolve.turned_by
leaves_by (waiting b) g s a h e = h
leaves_by (packet p) g s a h e = (turn_waits g (at_heard p) s a (record { least = h.least; most = h.most; turns = h.turns; short = h.short }) e).0
leaves_by failed g s a h e = (turn_waits g at_failed s a (record { least = h.least; most = h.most; turns = h.turns; short = h.short }) e).0
leaves_by no_port g s a h e = (turn_waits g at_no_port s a (record { least = h.least; most = h.most; turns = h.turns; short = h.short }) e).0

pub leaves_after : (f : After) (g : Setting) (s : State) (a : Attempt) → IsGood at_look s.query → Some (waits a) ≡ (turned_after f g s).outcome → IsGood at_look (turned_after f g s).state.query
unfolding turned_after
leaves_after f g s a h e = leaves_by f.progress g (with_links f.links s) a h e

got_by : {A : Type 0} (P : A → Type 0) (xs : List A) (i : ℕ) (x : A) → slice_get xs i ≡ Some x → AllOf P xs → P x
unfolding AllOf
got_by P [] i x h k = cc
got_by P (y ∷ ys) zero x h k = let same : y ≡ x = cc in subst P same k.0
got_by P (y ∷ ys) (suc i) x h k = got_by P ys i x h k.1

-- An active query of a sound core is good for its next turn.
pub active_good : (m : Machine) (i : ℕ) (a : Active) → IsSound m → slice_get m.queries i ≡ Some a → IsGood at_look a.query
active_good m i a h k = (got_by (IsWithin m.accepted m.links m.connections) m.queries i a k h.each).good

waiting_well : (o : Option Attempt) (a : Attempt) → o ≡ Some a → IsSome o
waiting_well o a e = subst (λ x. IsSome x) (sym e) refl

begun_true : (d : Draft) (r : Reply) → d ≡ draft_of r → IsTrue d.begun
unfolding draft_of
begun_true d r e = ap (λ (x : Draft). x.begun) e

-- The query of a turn that ended waits, or is over.
pub ends_well : {O : Type 0} (acted : O → List Action → O → Type 0) {a b : O} (t : Turned) (s : State) (d : Draft) (w : Work) (answer : Outcome) → TookTurned acted a b t s d w.sender answer → s.query ≡ query_of w.query
    → ((x : Attempt) → Some (waits x) ≡ t.outcome → IsGood at_look t.state.query) → EndsWell answer d w
ends_well acted t s d w Waiting h e k =
    let x : Attempt = h.ends.0 in
    let same : t.state.query ≡ query_of w.query = ap (λ (y : State). y.query) (sym h.state) ∙ e in
    let good : IsGood at_look (query_of w.query) = subst (λ y. IsGood at_look y) same (k x (ap (λ y. Some y) (sym h.ends.1) ∙ h.same)) in
    let asks : w.sender.attempt ≡ Some x = ap (λ (y : Standing). y.attempt) h.ends.2 in
    record { asking = waiting_well w.sender.attempt x asks; frame = omega (arith, good.least); turns = good.turns }
ends_well acted t s d w Replied h e k = (begun_true d h.ends.0 h.ends.2, h.ends.3)
ends_well acted t s d w (Dropped cause) h e k = h.ends.1

-- The turn of a query that an event came to, in the machine's words

followed_is : (o : Option Attempt) (event : Event) (occasion : Occasion) → IsSome o → followed o event occasion ≡ after_event event (attempt_or o) occasion
unfolding followed
followed_is None event occasion h = absurd (true≢false (sym h))
followed_is (Some a) event occasion h = refl

same_there : (queries : List Active) (i : ℕ) (a b : Active) → slice_get queries i ≡ Some a → slice_get queries i ≡ Some b → a ≡ b
same_there queries i a b h k = cc

behind_both : (xs ys zs : List Action) → xs ++ (ys ++ zs) ≡ (xs ++ ys) ++ zs
behind_both xs ys zs = sym (append_assoc xs ys zs)

given_by : (pr : Progress) (actions : List Action) (links : ℕ) (i : Input) (q : Active) (m : Machine)
    → (after actions (progressed pr i q (record m { links = links }))).actions
    ≡ (turned_by (before [] actions (resolve.turned_by pr (setting_of i q.client m) (record { query = q.query; cache = m.cache; links = links }))) q.client q.serial i.event.now m).actions
unfolding progressed turned turned_by resolve.turned_by settled
given_by (waiting a) actions links i q m = rw (append-nil (actions ++ [])) refl
given_by (packet p) actions links i q m = behind_both actions _ _
given_by failed actions links i q m = behind_both actions _ _
given_by no_port actions links i q m = behind_both actions _ _

left_by : (pr : Progress) (actions : List Action) (links : ℕ) (i : Input) (q : Active) (m : Machine)
    → (after actions (progressed pr i q (record m { links = links }))).machine
    ≡ (turned_by (before [] actions (resolve.turned_by pr (setting_of i q.client m) (record { query = q.query; cache = m.cache; links = links }))) q.client q.serial i.event.now m).machine
unfolding progressed turned turned_by resolve.turned_by settled
left_by (waiting a) actions links i q m = refl
left_by (packet p) actions links i q m = refl
left_by failed actions links i q m = refl
left_by no_port actions links i q m = refl

-- Counts

-- Other counts of the same queries are below the same bound, and a greater one.
pub below_as : (n k : ℕ) (c d : Counts) → n ≤ k → d.accepted ≡ c.accepted → d.sent ≡ c.sent → d.dropped ≡ c.dropped → AreBelow n c → AreBelow k d
below_as n k c d m e f g h = record { accepted = omega (arith, h.accepted); sent = omega (arith, h.sent); dropped = omega (arith, h.dropped) }

-- Room for one more

-- What stands at a place.
pub found_there : {A : Type 0} (xs : List A) (i : ℕ) → i < length xs → (x : A) × (slice_get xs i ≡ Some x)
found_there [] i h = absurd (omega (arith, h))
found_there (x ∷ xs) zero h = (x, refl)
found_there (x ∷ xs) (suc i) h = found_there xs i (omega (arith, h))

room_by : (n : ℕ) (b : Bool) (s t : Stepped) → nat_le 200 n ≡ b → n < 200 → (if b then s else t) ≡ t
room_by n true s t e h = absurd (grind (arith, nat_tests))
room_by n false s t e h = refl

full_by : (n : ℕ) (b : Bool) (s t : Stepped) → nat_le 200 n ≡ b → 200 ≤ n → (if b then s else t) ≡ s
full_by n true s t e h = refl
full_by n false s t e h = absurd (grind (arith, nat_tests))

same_by : (b : Bool) (s t : Stepped) → s ≡ t → (if b then s else t) ≡ t
same_by true s t e = e
same_by false s t e = refl

-- Where fewer than 200 queries came over UDP, nothing is done.
pub has_room : (m : Machine) → length (udp_queries m.queries) < 200 → with_room m ≡ did [] m
unfolding with_room
has_room m h = room_by (length (udp_queries m.queries)) (nat_le 200 (length (udp_queries m.queries))) _ _ refl h

-- Nor where none did.
pub displaces_none : (m : Machine) → position (λ (a : Active). is_udp a.client) m.queries ≡ None → with_room m ≡ did [] m
unfolding with_room displaced_query
displaces_none m h = same_by (nat_le 200 (length (udp_queries m.queries))) _ _ (ap (λ o. displaced_query o m) (pick_none (λ (a : Active). is_udp a.client) m.queries h))

-- Where 200 did, the first of them is dropped.
pub displaces : (m : Machine) (i : ℕ) (a : Active) → 200 ≤ length (udp_queries m.queries) → position (λ (b : Active). is_udp b.client) m.queries ≡ Some i → slice_get m.queries i ≡ Some a
    → with_room m ≡ did (drop_actions displaced a) (record m { queries = remove m.queries i; dropped = m.dropped + 1 })
unfolding with_room displaced_query
displaces m i a h k l =
    full_by (length (udp_queries m.queries)) (nat_le 200 (length (udp_queries m.queries))) _ _ refl h
    ∙ ap (λ o. displaced_query o m) (pick_at (λ (b : Active). is_udp b.client) m.queries i a k l)

-- Requests

or_first : (b c : Bool) → b ≡ true → true ≡ (b || c)
or_first b c h = rw h refl

or_second : (b c d : Bool) → b ≡ false → c ≡ d → c ≡ (b || d)
or_second b c d h k = rw h k

-- Who has a privileged port isn't served.
pub refuses_port : (i : Input) (port : ℕ) (b : Bool) → port ≡ i.event.port → b ≡ (nat_lt port 1024 && not (port == 53)) → b ≡ true → b ≡ is_refused i
unfolding is_refused
refuses_port i port b e h k =
    let same : (nat_lt i.event.port 1024 && not (i.event.port == 53)) ≡ true = ap (λ n. nat_lt n 1024 && not (n == 53)) (sym e) ∙ sym h ∙ k in
    k ∙ or_first (nat_lt i.event.port 1024 && not (i.event.port == 53)) (not (permitted i.rules.permits i.event.addr)) same

-- And of the others, whose address isn't permitted.
pub refuses_addr : (i : Input) (port : ℕ) (addr : List ℕ) (b p : Bool) → port ≡ i.event.port → addr ≡ i.event.addr → b ≡ (nat_lt port 1024 && not (port == 53)) → b ≡ false
    → p ≡ permitted i.rules.permits addr → not p ≡ is_refused i
unfolding is_refused
refuses_addr i port addr b p e f h k l =
    let other : (nat_lt i.event.port 1024 && not (i.event.port == 53)) ≡ false = ap (λ n. nat_lt n 1024 && not (n == 53)) (sym e) ∙ sym h ∙ k in
    or_second (nat_lt i.event.port 1024 && not (i.event.port == 53)) (not p) (not (permitted i.rules.permits i.event.addr)) other
    (ap (λ q. not q) (l ∙ ap (λ x. permitted i.rules.permits x) f))

heeds_by : (b c : Bool) (s t : Stepped) → b ≡ false → c ≡ false → (if b || c then s else t) ≡ t
heeds_by true c s t h k = cc
heeds_by false true s t h k = cc
heeds_by false false s t h k = refl

skips_first : (b c : Bool) (s t : Stepped) → b ≡ true → (if b || c then s else t) ≡ s
skips_first b c s t h = rw h refl

skips_second : (b c : Bool) (s t : Stepped) → c ≡ true → (if b || c then s else t) ≡ s
skips_second true c s t h = refl
skips_second false c s t h = rw h refl

is_long : (n : ℕ) (b : Bool) → nat_lt 1023 n ≡ b → 1023 < n → b ≡ true
is_long n true e h = refl
is_long n false e h = absurd (grind (arith, nat_tests))

not_long : (n : ℕ) (b : Bool) → nat_lt 1023 n ≡ b → n ≤ 1023 → b ≡ false
not_long n false e h = refl
not_long n true e h = absurd (grind (arith, nat_tests))

-- A long datagram is ignored.
pub too_long : (i : Input) (m : Machine) → 1023 < length i.event.bytes → request_step i m ≡ did [] m
unfolding request_step
too_long i m h = skips_first (nat_lt 1023 (length i.event.bytes)) (is_refused i) _ _ (is_long (length i.event.bytes) (nat_lt 1023 (length i.event.bytes)) refl h)

-- So is one of who isn't served.
pub not_served : (i : Input) (m : Machine) → true ≡ is_refused i → request_step i m ≡ did [] m
unfolding request_step
not_served i m h = skips_second (nat_lt 1023 (length i.event.bytes)) (is_refused i) _ _ (sym h)

-- Every other one is read.
pub heeds : (i : Input) (m : Machine) → length i.event.bytes ≤ 1023 → false ≡ is_refused i → request_step i m ≡ request_by (request_of i.event.bytes) i m
unfolding request_step
heeds i m h k = heeds_by (nat_lt 1023 (length i.event.bytes)) (is_refused i) _ _ (not_long (length i.event.bytes) (nat_lt 1023 (length i.event.bytes)) refl h) (sym k)

-- And ignored where it is no request.
pub no_request : (i : Input) (m : Machine) → length i.event.bytes ≤ 1023 → false ≡ is_refused i → request_of i.event.bytes ≡ None → request_step i m ≡ did [] m
unfolding request_by
no_request i m h k e = heeds i m h k ∙ ap (λ o. request_by o i m) e

-- Links

-- No query waits on the link.
pub nobody_waits : (i : Input) (m : Machine) → position (λ (a : Active). a.attempt.link == i.event.id) m.queries ≡ None → link_step i m ≡ did [] m
unfolding link_step given_to
nobody_waits i m h = ap (λ o. given_to o i m) (pick_none (λ (a : Active). a.attempt.link == i.event.id) m.queries h)

-- A query waits on it.
pub one_waits : (i : Input) (m : Machine) (place : ℕ) (a : Active) → position (λ (b : Active). b.attempt.link == i.event.id) m.queries ≡ Some place → slice_get m.queries place ≡ Some a
    → link_step i m ≡ progressed_by (after_event i.event a.attempt (occasion_of i m)) i a (record m { queries = remove m.queries place })
unfolding link_step given_to
one_waits i m place a h k = ap (λ o. given_to o i m) (pick_at (λ (b : Active). b.attempt.link == i.event.id) m.queries place a h k)

-- What a turn leaves

module _ {S : Type 0} where
  -- The clients with the desk's counts for a turn of a query of this client.
  abbrev counted : Client → Clients S → Clients S
  counted client c = record c { desk = record c.desk { counts = record c.desk.counts { udp = length (udp_queries c.queries.queries) + one_if (is_udp client); tcp = length c.connections } } }

  -- A turn leaves all but the cache and the links.
  machine_left : (cache : S → Cache) (c c' : Clients S) → c'.desk.counts ≡ c.desk.counts → c'.queries.queries ≡ c.queries.queries → c'.connections ≡ c.connections
      → machine_of cache c' ≡ record (machine_of cache c) { cache = cache c'.desk.store; links = c'.desk.link }
  machine_left cache c c' h k l =
      let of : List Active → List Connection → Counts → Machine =
      λ q n x. record { cache = cache c'.desk.store; queries = q; connections = n; accepted = x.accepted; sent = x.sent; dropped = x.dropped; links = c'.desk.link } in
      ap (λ q. of q c'.connections c'.desk.counts) k ∙ ap (λ n. of c.queries.queries n c'.desk.counts) l ∙ ap (λ x. of c.queries.queries c.connections x) h

  -- And the rules.
  rules_left : (c c' : Clients S) (now : ℕ) (draws : List ℕ) → desk.setting_of c'.desk.zones c'.desk.forward c'.desk.counts now draws ≡ desk.setting_of c.desk.zones c.desk.forward c.desk.counts now draws
      → c'.permit ≡ c.permit → rules_of c' ≡ rules_of c
  unfolding desk.setting_of
  rules_left c c' now draws h k =
      ap (λ (g : Setting). let r : Rules = record { zones = g.zones; permits = c'.permit; forward = g.forward } in r) h
      ∙ ap (λ p. let r : Rules = record { zones = c.desk.zones; permits = p; forward = c.desk.forward } in r) k

  -- A turn at the desk left the clients so.
  pub record Left (now : ℕ) (draws : List ℕ) (c c' : Clients S) : Type 0 where
    pub counts : c'.desk.counts ≡ c.desk.counts
    pub setting : desk.setting_of c'.desk.zones c'.desk.forward c'.desk.counts now draws ≡ desk.setting_of c.desk.zones c.desk.forward c.desk.counts now draws
    pub permit : c'.permit ≡ c.permit
    pub queries : c'.queries.queries ≡ c.queries.queries
    pub connections : c'.connections ≡ c.connections

  -- The counts stay below a bound.
  pub below_left : (n k : ℕ) {c0 c1 : Clients S} (client : Client) (x : Counts) → n ≤ k → c1 ≡ counted client c0 → x ≡ c1.desk.counts → AreBelow n c0.desk.counts → AreBelow k x
  below_left n k {c0} {c1} client x m e f h =
      below_as n k c0.desk.counts x m
      (ap (λ (y : Counts). y.accepted) f ∙ ap (λ (y : Clients S). y.desk.counts.accepted) e)
      (ap (λ (y : Counts). y.sent) f ∙ ap (λ (y : Clients S). y.desk.counts.sent) e)
      (ap (λ (y : Counts). y.dropped) f ∙ ap (λ (y : Clients S). y.desk.counts.dropped) e) h

-- Steps

module _ {S O : Type 0} (acted : O → List Action → O → Type 0) (cache : S → Cache) (both : (a b c : O) (xs ys : List Action) → acted a xs b → acted b ys c → acted a (xs ++ ys) c) where
  -- The same actions and core make the same step.
  took_like : {a b : O} {c d : Clients S} (s t : Stepped) → s.actions ≡ t.actions → s.machine ≡ t.machine → Took acted cache a c b d t → Took acted cache a c b d s
  took_like {a} {b} {c} {d} s t e f h = record { acts = subst (λ x. acted a x b) (sym e) h.acts; machine = h.machine ∙ sym f; rules = h.rules }

  -- What comes after a turn.
  settled_as : {b e : O} {c d : Clients S} (client : Client) (serial now : ℕ) (m : Machine) (s t : State) (o : turn.Outcome) (p : Option turn.Outcome) → s ≡ t → Some o ≡ p
      → Took acted cache b c e d (settled o client serial now s.query (record m { cache = s.cache; links = s.links }))
      → Took acted cache b c e d (settled (outcome_or p) client serial now t.query (record m { cache = t.cache; links = t.links }))
  settled_as {b} {e} {c} {d} client serial now m s t o p h k next =
      subst (λ (y : Option turn.Outcome). Took acted cache b c e d (settled (outcome_or y) client serial now t.query (record m { cache = t.cache; links = t.links }))) k
      (subst (λ (x : State). Took acted cache b c e d (settled o client serial now x.query (record m { cache = x.cache; links = x.links }))) h next)

  -- A turn was taken, and its outcome settled.
  took_turn : {a b e : O} {c0 c d : Clients S} (t : Turned) (s : State) (draft : Draft) (w : Standing) (answer : Outcome) (client : Client) (serial now : ℕ) (m : Machine)
      → TookTurned acted a b t s draft w answer → rules_of c ≡ rules_of c0
      → ((o : turn.Outcome) → Ends answer draft w o → Took acted cache b c e d (settled o client serial now s.query (record m { cache = s.cache; links = s.links })))
      → Took acted cache a c0 e d (turned_by t client serial now m)
  unfolding turned_by
  took_turn {a} {b} {e} {c0} {c} {d} t s draft w answer client serial now m h r next =
      let k = settled_as client serial now m s t.state h.outcome t.outcome h.state h.same (next h.outcome h.ends) in
      record { acts = both a b e _ _ h.acts k.acts; machine = k.machine; rules = k.rules ∙ r }

  -- A query has a turn from a point on.
  pub took_turned : {a b e : O} {c0 c d : Clients S} (i : Input) (p : Point) (client : Client) (serial : ℕ) (q : Query) (m : Machine) (counts : Counts) (s : State) (draft : Draft) (w : Standing) (answer : Outcome)
      → AreCounted client m counts
      → TookTurned acted a b (turn_from (desk.setting_of i.rules.zones i.rules.forward counts i.event.now i.draws) p (record { query = q; cache = m.cache; links = m.links })) s draft w answer
      → rules_of c ≡ rules_of c0
      → ((o : turn.Outcome) → Ends answer draft w o → Took acted cache b c e d (settled o client serial i.event.now s.query (record m { cache = s.cache; links = s.links })))
      → Took acted cache a c0 e d (turned i p client serial q m)
  unfolding turned
  took_turned {a} {b} {e} {c0} {c} {d} i p client serial q m counts s draft w answer n h r next =
      let t = subst (λ (x : Turned). TookTurned acted a b x s draft w answer) (turn_is i client m counts n p (record { query = q; cache = m.cache; links = m.links })) h in
      took_turn _ s draft w answer client serial i.event.now m t r next

  -- An event comes to the transmission of a query, and what follows is done.
  pub took_given : {a b e : O} {c0 c d : Clients S} (f : After) (i : Input) (q : Active) (m : Machine) (counts : Counts) (s : State) (draft : Draft) (w : Standing) (answer : Outcome)
      → AreCounted q.client m counts
      → TookTurned acted a b (turned_after f (desk.setting_of i.rules.zones i.rules.forward counts i.event.now i.draws) (record { query = q.query; cache = m.cache; links = m.links })) s draft w answer
      → rules_of c ≡ rules_of c0
      → ((o : turn.Outcome) → Ends answer draft w o → Took acted cache b c e d (settled o q.client q.serial i.event.now s.query (record m { cache = s.cache; links = s.links })))
      → Took acted cache a c0 e d (progressed_by f i q m)
  unfolding progressed_by turned_after
  took_given {a} {b} {e} {c0} {c} {d} f i q m counts s draft w answer n h r next =
      let from : State = record { query = q.query; cache = m.cache; links = m.links } in
      let t = subst (λ (x : Turned). TookTurned acted a b x s draft w answer) (after_is f i q.client m counts n from) h in
      took_like _ _ (given_by f.progress f.actions f.links i q m) (left_by f.progress f.actions f.links i q m)
      (took_turn (turned_after f (setting_of i q.client m) from) s draft w answer q.client q.serial i.event.now m t r next)

  begun_at : {a b e : O} {c0 c d : Clients S} (event : Event) (draws : List ℕ) (client : Client) (serial : ℕ) (r : Request) (q : CodeQuery) (w : Standing) (answer : Outcome)
      → Left event.now draws (counted client c0) c
      → TookTurned acted a b (turn_from (desk.setting_of c0.desk.zones c0.desk.forward (counted client c0).desk.counts event.now draws) at_begin (resolve.begins r cache c0.desk)) (desk.at cache q c.desk) c.desk.reply w answer
      → ((o : turn.Outcome) → Ends answer c.desk.reply w o → Took acted cache b c e d (settled o client serial event.now (query_of q) (machine_of cache c)))
      → Took acted cache a c0 e d (turned (input_of c0 event draws) at_begin client serial (query_for r) (machine_of cache c0))
  begun_at {a} {b} {e} {c0} {c} {d} event draws client serial r q w answer l h next =
      took_turned {c0 = c0} {c = c} {d = d} (input_of c0 event draws) at_begin client serial (query_for r) (machine_of cache c0) (counted client c0).desk.counts (desk.at cache q c.desk) c.desk.reply w answer
      (record { accepted = refl; udp = refl; tcp = refl }) h (rules_left (counted client c0) c event.now draws l.setting l.permit)
      (λ o k. subst (λ (m : Machine). Took acted cache b c e d (settled o client serial event.now (query_of q) m)) (machine_left cache (counted client c0) c l.counts l.queries l.connections) (next o k))

  -- A query began, had its first turn, and its outcome was settled.
  pub took_begun : {a b e : O} {c0 c1 c d : Clients S} (event : Event) (draws : List ℕ) (now : ℕ) (client : Client) (serial : ℕ) (r : Request) (q : CodeQuery) (w : Standing) (answer : Outcome)
      → now ≡ event.now → c1 ≡ counted client c0 → Left now draws c1 c
      → TookTurned acted a b (turn_from (desk.setting_of c1.desk.zones c1.desk.forward c1.desk.counts now draws) at_begin (resolve.begins r cache c1.desk)) (desk.at cache q c.desk) c.desk.reply w answer
      → ((o : turn.Outcome) → Ends answer c.desk.reply w o → Took acted cache b c e d (settled o client serial now (query_of q) (machine_of cache c)))
      → Took acted cache a c0 e d (turned (input_of c0 event draws) at_begin client serial (query_for r) (machine_of cache c0))
  took_begun {a} {b} {e} {c0} {c1} {c} {d} event draws now client serial r q w answer n k =
      let Of : ℕ → Clients S → Type 0 = λ t x. Left t draws x c
      → TookTurned acted a b (turn_from (desk.setting_of x.desk.zones x.desk.forward x.desk.counts t draws) at_begin (resolve.begins r cache x.desk)) (desk.at cache q c.desk) c.desk.reply w answer
      → ((o : turn.Outcome) → Ends answer c.desk.reply w o → Took acted cache b c e d (settled o client serial t (query_of q) (machine_of cache c)))
      → Took acted cache a c0 e d (turned (input_of c0 event draws) at_begin client serial (query_for r) (machine_of cache c0)) in
      subst (λ (t : ℕ). Of t c1) (sym n) (subst (λ (x : Clients S). Of event.now x) (sym k) (begun_at event draws client serial r q w answer))

  given_at : {a b e : O} {c0 c d : Clients S} (event : Event) (draws : List ℕ) (f : After) (x : Active) (q : CodeQuery) (w : Standing) (answer : Outcome)
      → Left event.now draws (counted x.client c0) c
      → TookTurned acted a b (turned_after f (desk.setting_of c0.desk.zones c0.desk.forward (counted x.client c0).desk.counts event.now draws) (record { query = x.query; cache = cache c0.desk.store; links = c0.desk.link })) (desk.at cache q c.desk) c.desk.reply w answer
      → ((o : turn.Outcome) → Ends answer c.desk.reply w o → Took acted cache b c e d (settled o x.client x.serial event.now (query_of q) (machine_of cache c)))
      → Took acted cache a c0 e d (progressed_by f (input_of c0 event draws) x (machine_of cache c0))
  given_at {a} {b} {e} {c0} {c} {d} event draws f x q w answer l h next =
      took_given {c0 = c0} {c = c} {d = d} f (input_of c0 event draws) x (machine_of cache c0) (counted x.client c0).desk.counts (desk.at cache q c.desk) c.desk.reply w answer
      (record { accepted = refl; udp = refl; tcp = refl }) h (rules_left (counted x.client c0) c event.now draws l.setting l.permit)
      (λ o k. subst (λ (m : Machine). Took acted cache b c e d (settled o x.client x.serial event.now (query_of q) m)) (machine_left cache (counted x.client c0) c l.counts l.queries l.connections) (next o k))

  -- The same, where the query was taken out of a roll before.
  given_out : {a b e : O} {c0 c1 c d : Clients S} (event : Event) (draws : List ℕ) (now i : ℕ) (roll : Roll) (f : After) (x : Active) (q : CodeQuery) (w : Standing) (answer : Outcome)
      → now ≡ event.now → roll ≡ record c0.queries { queries = remove c0.queries.queries i } → c1 ≡ counted x.client (record c0 { queries = roll }) → Left event.now draws c1 c
      → TookTurned acted a b (turned_after f (desk.setting_of c1.desk.zones c1.desk.forward c1.desk.counts event.now draws) (record { query = x.query; cache = cache c1.desk.store; links = c1.desk.link })) (desk.at cache q c.desk) c.desk.reply w answer
      → ((o : turn.Outcome) → Ends answer c.desk.reply w o → Took acted cache b c e d (settled o x.client x.serial now (query_of q) (machine_of cache c)))
      → Took acted cache a c0 e d (progressed_by f (input_of c0 event draws) x (record (machine_of cache c0) { queries = remove c0.queries.queries i }))
  given_out {a} {b} {e} {c0} {c1} {c} {d} event draws now i roll f x q w answer n r k =
      let Of : ℕ → Clients S → Type 0 = λ t y. Left event.now draws y c
      → TookTurned acted a b (turned_after f (desk.setting_of y.desk.zones y.desk.forward y.desk.counts event.now draws) (record { query = x.query; cache = cache y.desk.store; links = y.desk.link })) (desk.at cache q c.desk) c.desk.reply w answer
      → ((o : turn.Outcome) → Ends answer c.desk.reply w o → Took acted cache b c e d (settled o x.client x.serial t (query_of q) (machine_of cache c)))
      → Took acted cache a c0 e d (progressed_by f (input_of c0 event draws) x (record (machine_of cache c0) { queries = remove c0.queries.queries i })) in
      let out : Roll = record c0.queries { queries = remove c0.queries.queries i } in
      let now_is : Of event.now (counted x.client (record c0 { queries = out })) = λ l h next.
      let it : Took acted cache a (record c0 { queries = out }) e d (progressed_by f (input_of c0 event draws) x (record (machine_of cache c0) { queries = remove c0.queries.queries i }))
      = given_at {c0 = record c0 { queries = out }} {c = c} {d = d} event draws f x q w answer l h next in
      record { acts = it.acts; machine = it.machine; rules = it.rules } in
      subst (λ (t : ℕ). Of t c1) (sym n)
      (subst (λ (y : Clients S). Of event.now y) (sym k) (subst (λ (y : Roll). Of event.now (counted x.client (record c0 { queries = y }))) (sym r) now_is))

  -- A query was taken out, an event came to its transmission, and the outcome was settled.
  pub took_event : {a b e : O} {c0 c1 c d : Clients S} (event : Event) (draws : List ℕ) (now i : ℕ) (roll : Roll) (serial : ℕ) (client : Client) (v : Work) (q : CodeQuery) (w : Standing) (answer : Outcome)
      → now ≡ event.now → roll ≡ record c0.queries { queries = remove c0.queries.queries i } → c1 ≡ counted client (record c0 { queries = roll }) → Left event.now draws c1 c
      → IsSome v.sender.attempt → slice_get c0.queries.queries i ≡ Some (active serial client v)
      → TookTurned acted a b (turned_after (followed v.sender.attempt event (occasion event.now draws c1.desk.link)) (desk.setting_of c1.desk.zones c1.desk.forward c1.desk.counts event.now draws) (desk.at cache v.query c1.desk)) (desk.at cache q c.desk) c.desk.reply w answer
      → ((o : turn.Outcome) → Ends answer c.desk.reply w o → Took acted cache b c e d (settled o client serial now (query_of q) (machine_of cache c)))
      → (x : Active) → slice_get c0.queries.queries i ≡ Some x
      → Took acted cache a c0 e d (progressed_by (after_event event x.attempt (occasion_of (input_of c0 event draws) (machine_of cache c0))) (input_of c0 event draws) x (record (machine_of cache c0) { queries = remove c0.queries.queries i }))
  took_event {a} {b} {e} {c0} {c1} {c} {d} event draws now i roll serial client v q w answer n r k l asks here h next x there =
      let own : Active = active serial client v in
      let Of : Active → Type 0 = λ y. Took acted cache a c0 e d (progressed_by (after_event event y.attempt (occasion_of (input_of c0 event draws) (machine_of cache c0))) (input_of c0 event draws) y (record (machine_of cache c0) { queries = remove c0.queries.queries i })) in
      let links : c1.desk.link ≡ c0.desk.link = ap (λ (y : Clients S). y.desk.link) k in
      let f : After = after_event event own.attempt (occasion event.now draws c0.desk.link) in
      let same : followed v.sender.attempt event (occasion event.now draws c1.desk.link) ≡ f =
      ap (λ m. followed v.sender.attempt event (occasion event.now draws m)) links ∙ followed_is v.sender.attempt event (occasion event.now draws c0.desk.link) asks in
      let took : TookTurned acted a b (turned_after f (desk.setting_of c1.desk.zones c1.desk.forward c1.desk.counts event.now draws) (desk.at cache v.query c1.desk)) (desk.at cache q c.desk) c.desk.reply w answer
      = subst (λ (y : After). TookTurned acted a b (turned_after y (desk.setting_of c1.desk.zones c1.desk.forward c1.desk.counts event.now draws) (desk.at cache v.query c1.desk)) (desk.at cache q c.desk) c.desk.reply w answer) same h in
      subst Of (same_there c0.queries.queries i own x here there) (given_out {c0 = c0} {c1 = c1} {c = c} {d = d} event draws now i roll f own q w answer n r k l took next)

  -- A request was accepted, and its query began.
  pub took_accepted : {a b e : O} {c d : Clients S} (event : Event) (draws : List ℕ) (client : Client) (addr : List ℕ) (port : ℕ) (r : Request) (text : List ℕ)
      → text ≡ line_query (c.desk.counts.accepted + 1) addr port r.id r.kind r.name → acted a (line text ∷ []) b
      → (let c' : Clients S = record c { desk = record c.desk { counts = record c.desk.counts { accepted = c.desk.counts.accepted + 1 } } } in
      Took acted cache b c' e d (turned (input_of c' event draws) at_begin client (c.desk.counts.accepted + 1) (query_for r) (machine_of cache c')))
      → Took acted cache a c e d (begun (input_of c event draws) client addr port r (machine_of cache c))
  unfolding begun
  took_accepted {a} {b} {e} event draws client addr port r text same h k =
      record { acts = both a b e _ _ (subst (λ x. acted a (line x ∷ []) b) same h) k.acts; machine = k.machine; rules = k.rules }

  -- There was room, or room was made, and then a request over UDP was accepted.
  pub took_request : {a b e : O} {c c' d : Clients S} (event : Event) (draws : List ℕ) (r : Request) (addr : List ℕ) (port : ℕ) → addr ≡ event.addr → port ≡ event.port
      → length event.bytes ≤ 1023 → false ≡ is_refused (input_of c event draws) → request_of event.bytes ≡ Some r
      → Took acted cache a c b c' (with_room (machine_of cache c))
      → Took acted cache b c' e d (begun (input_of c' event draws) (by_udp addr port) addr port r (machine_of cache c'))
      → Took acted cache a c e d (request_step (input_of c event draws) (machine_of cache c))
  unfolding request_by accepted_udp
  took_request {a} {b} {e} {c} {c'} {d} event draws r addr port x p few served is h k =
      let i : Input = input_of c event draws in
      let same : request_step i (machine_of cache c) ≡ accepted_udp i r (with_room (machine_of cache c)) =
      heeds i (machine_of cache c) few served ∙ ap (λ o. request_by o i (machine_of cache c)) is in
      let there : Took acted cache b c' e d (begun (input_of c' event draws) (by_udp event.addr event.port) event.addr event.port r (machine_of cache c'))
      = subst (λ y. Took acted cache b c' e d (begun (input_of c' event draws) (by_udp event.addr y) event.addr y r (machine_of cache c'))) p
      (subst (λ y. Took acted cache b c' e d (begun (input_of c' event draws) (by_udp y port) y port r (machine_of cache c'))) x k) in
      let here : Took acted cache b c' e d (begun i (by_udp event.addr event.port) event.addr event.port r (machine_of cache c'))
      = subst (λ (y : Rules). let j : Input = record { rules = y; event = event; draws = draws } in
      Took acted cache b c' e d (begun j (by_udp event.addr event.port) event.addr event.port r (machine_of cache c'))) h.rules there in
      took_as acted cache _ _ same (took_on acted cache both (λ m. begun i (by_udp event.addr event.port) event.addr event.port r m) h here)

-- What is left where a query was dropped

module _ {S : Type 0} (cache : S → Cache) (c c' : Clients S) (i : ℕ) where
  -- The core with one query less, which was dropped.
  abbrev without_one : Machine
  without_one = record (machine_of cache c) { queries = remove c.queries.queries i; dropped = c.desk.counts.dropped + 1 }

  -- No more queries than before.
  pub left_fewer : i < length c.queries.queries → machine_of cache c' ≡ without_one → length c'.queries.queries ≤ length c.queries.queries
  left_fewer h e =
      let same : c'.queries.queries ≡ remove c.queries.queries i = ap (λ (m : Machine). m.queries) e in
      rw same (omega (arith, length-remove c.queries.queries i h))

  -- As many links as before.
  pub left_links : machine_of cache c' ≡ without_one → c'.desk.link ≡ c.desk.link
  left_links e = ap (λ (m : Machine). m.links) e

  -- The counts rise by one at most.
  pub left_below : (n k : ℕ) → n < k → AreBelow n c.desk.counts → machine_of cache c' ≡ without_one → AreBelow k c'.desk.counts
  left_below n k m h e =
      let accepted : c'.desk.counts.accepted ≡ c.desk.counts.accepted = ap (λ (x : Machine). x.accepted) e in
      let sent : c'.desk.counts.sent ≡ c.desk.counts.sent = ap (λ (x : Machine). x.sent) e in
      let dropped : c'.desk.counts.dropped ≡ c.desk.counts.dropped + 1 = ap (λ (x : Machine). x.dropped) e in
      record { accepted = omega (arith, h.accepted); sent = omega (arith, h.sent); dropped = omega (arith, h.dropped) }
