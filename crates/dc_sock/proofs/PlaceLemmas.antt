-- What the calls of each exchange do at the places of clients' connections.
use Rattle.std.specs.Prelude.{◌≡◌, ◌≤◌, ◌<◌, ◌==◌, nat_le, ℕ, Bool, true, false, if◌then◌else◌, List, [], ◌∷◌, ◌++◌, length, take, drop, slice_get, slice_set, is_none, refl}
use Rattle.std.proofs.Common.{inl, inr, sym, subst, ◌∙◌, ap, append_assoc, arith, suc}
use Rattle.std.proofs.lemmas.List.{append-nil, take-append-drop}
use Rattle.std.proofs.Common.{length-append, length-drop}
use Rattle.std.proofs.lemmas.Bool.{leb-false}
use Rattle.std.proofs.lemmas.Option.{slice_get_within, get_or_from_slice_get}
use Rattle.std.specs.declared.option.Option.{Option}
use Rattle.std.specs.declared.option.Option.TheVariants.{None, Some}
use Rattle.dc_model.specs.Event.{Action, reply, conn_reply, conn_close, udp, tcp, link_write, link_close, line}
use Rattle.dc_system.specs.Call.{Call, part_bytes}
use Rattle.dc_system.specs.Call as call
use Rattle.dc_system.specs.declared.answers.Accepted.{Accepted}
use Rattle.dc_system.specs.declared.answers.Accepted.TheVariants as accepted
use Rattle.dc_system.specs.declared.answers.Part.{Part}
use Rattle.dc_system.specs.declared.answers.Part.TheVariants as part
use Rattle.slab.specs.Slab.{Slab}
use Rattle.dc_sock.specs.declared.found.Step.{Step}
use Rattle.dc_sock.specs.declared.found.Step.TheVariants as step
use Rattle.dc_sock.specs.declared.link.Link.{Link}
use Rattle.dc_sock.specs.declared.link.Opening.{Opening}
use Rattle.dc_sock.specs.declared.link.Opening.TheVariants as opening
use Rattle.dc_sock.specs.declared.link.Way.{Way}
use Rattle.dc_sock.specs.declared.link.Way.TheVariants.{Udp, Connecting, Connected, Missing}
use Rattle.dc_sock.specs.declared.place.Place.{Place}
use Rattle.dc_sock.specs.declared.place.Place.TheVariants as place
use Rattle.dc_sock.specs.declared.seat.Conn.{Conn}
use Rattle.dc_sock.specs.declared.seat.Seat.{Seat}
use Rattle.dc_sock.specs.Numbers.{StepNumbers}
use Rattle.dc_sock.specs.ClientCalls.{Hearing, refused, deaf, both, listen_calls, HearsRequests, AcceptGives, Accepts, NoneHas, HearsSeat, GoesSeat, Replies, seat_socket}
use Rattle.dc_sock.specs.Edge.{Edge, QuietAccept, QuietRead, QuietWrite, QuietCall, QuietStep, Looks}
use Rattle.dc_sock.proofs.RoundLemmas.{passes_same}
use Rattle.dc_sock.specs.LinkCalls.{udp_calls, close_calls, write_calls, took_all, HearsWay}
use Rattle.dc_sock.specs.Links.{Goes, LooksAt, link_socket}
use Rattle.dc_sock.specs.Log.{Gathered, PrintsText, PutsLineIf, LinesIf}
use Rattle.dc_sock.specs.SeatCalls.{free_seat, holds_conn, left_by, behind, fitting, put_calls, put_rest, after_put, replied_conn, conn_after, flush_rest, flush_calls, PutsConn, PutsSeat, ReadsBehind, LooksAtConn, LooksAtSeat}
use Rattle.dc_sock.specs.Streams.{taken_of, takes, StaysOpen, reply_to}
use Rattle.dc_sock.specs.World.{Makes}
use Rattle.dc_sock.proofs.SeatLemmas.{each_append}
use Rattle.dc_sock.proofs.StreamLemmas.{differs, same_self, told_same, told_other, IsPlace, IsMissed, MissesAll, MissesOthers, takes_both, open_both, open_split, Keeps, Shuts, Moves, rests, comes, idles, keeps, shuts}

-- Nothing is given.
abbrev pub no_bytes : ℕ → List ℕ
no_bytes n = []

abbrev pub StepsBy : Edge → List Call → (ℕ → List ℕ) → Edge → Type 0
StepsBy a calls given b = Moves a.seats a.next_conn calls given b.seats b.next_conn

abbrev pub Steps : Edge → List Call → Edge → Type 0
Steps a calls b = StepsBy a calls no_bytes b

both_miss : (xs ys : List Call) → MissesAll xs → MissesAll ys → MissesAll (xs ++ ys)
both_miss xs ys m n = λ s p. each_append (IsMissed s) xs ys (m s p) (n s p)

pub all_as : (calls xs : List Call) → calls ≡ xs → MissesAll xs → MissesAll calls
all_as calls xs e m = subst MissesAll (sym e) m

pub rest_steps : (a b : Edge) (calls : List Call) → MissesAll calls → b.seats ≡ a.seats → b.next_conn ≡ a.next_conn → Steps a calls b
rest_steps a b calls m p q = rests m p q (λ index seat conn there is. refl)

same_steps : (a b : Edge) (calls : List Call) → MissesAll calls → b ≡ record a { round = b.round } → Steps a calls b
same_steps a b calls m e = rest_steps a b calls m (ap (λ (x : Edge). x.seats) e) (ap (λ (x : Edge). x.next_conn) e)

-- From a state that differs only in what is looked at in turn.
steps_from : (a m b : Edge) (calls : List Call) → m ≡ record a { round = m.round } → Steps m calls b → Steps a calls b
steps_from a m b calls e s =
    subst (λ (l : List Seat). Moves l a.next_conn calls no_bytes b.seats b.next_conn) (ap (λ (x : Edge). x.seats) e)
    (subst (λ (n : ℕ). Moves m.seats n calls no_bytes b.seats b.next_conn) (ap (λ (x : Edge). x.next_conn) e) s)

-- A write to the stream of a place, and what it took.
write_took : (s : ℕ) (bytes : List ℕ) (answer : Option ℕ) → takes s (call.write s bytes answer ∷ []) ≡ taken_of bytes answer
write_took s bytes answer = ap (λ (b : Bool). (if b then taken_of bytes answer else []) ++ []) (same_self s) ∙ append-nil (taken_of bytes answer)

write_misses : (own : ℕ) (bytes : List ℕ) (answer : Option ℕ) → MissesOthers own (call.write own bytes answer ∷ [])
write_misses own bytes answer = λ s far. ((refl, ap (λ (b : Bool). if b then taken_of bytes answer else []) (differs own s (λ e. far (sym e)))), tt)

close_misses : (own : ℕ) → MissesOthers own (call.close own ∷ [])
close_misses own = λ s far. ((differs own s (λ e. far (sym e)), refl), tt)

-- What was taken of what waits no longer waits.
flows : (t k d w lost g : List ℕ) → k ++ d ≡ w → t ++ (w ++ lost) ≡ g → (t ++ k) ++ (d ++ lost) ≡ g
flows t k d w lost g e p = append_assoc t k (d ++ lost) ∙ (ap (λ (l : List ℕ). t ++ l) (sym (append_assoc k d lost) ∙ ap (λ (l : List ℕ). l ++ lost) e) ∙ p)

-- Quiet calls.
accept_steps : (a : Edge) (l s : ℕ) (answer : Accepted) (b : Edge) → QuietAccept a s answer b → Steps a (call.accept l s answer ∷ []) b
accept_steps a l s accepted.Nothing b p = rest_steps a b _ (λ q i. ((refl, refl), tt)) (ap (λ (x : Edge). x.seats) p) (ap (λ (x : Edge). x.next_conn) p)
accept_steps a l s accepted.Aborted b p = rest_steps a b _ (λ q i. ((refl, refl), tt)) (ap (λ (x : Edge). x.seats) p) (ap (λ (x : Edge). x.next_conn) p)
accept_steps a l s accepted.Failed b p = rest_steps a b _ (λ q i. ((refl, refl), tt)) (ap (λ (x : Edge). x.seats) p) (ap (λ (x : Edge). x.next_conn) p)
accept_steps a l s (accepted.Connection peer) b p = rest_steps a b _ (λ q i. ((refl, refl), tt)) (ap (λ (x : Edge). x.seats) p.1.1) (ap (λ (x : Edge). x.next_conn) p.1.1)

read_steps : (a : Edge) (s : ℕ) (answer : Part) (bytes : List ℕ) (b : Edge) → QuietRead a s answer b → Steps a (call.read s answer bytes ∷ []) b
read_steps a s part.Nothing bytes b p = same_steps a b _ (λ q i. ((refl, refl), tt)) p
read_steps a s (part.Bytes len) bytes b p = absurd p
read_steps a s part.End bytes b p =
    keeps p.0 p.1 p.2 (record { conn = Some (record p.2 { ended = true }); backlog = p.1.backlog }) (record p.2 { ended = true }) p.3.0 p.3.1.0 (λ q far. ((refl, refl), tt))
    (record {
      is = refl;
      named = refl;
      stays = (refl, tt);
      balance = λ t g x. (x.0, (ap (λ (l : List ℕ). l ++ (p.1.backlog ++ x.0)) (append-nil t) ∙ (x.1.0 ∙ sym (append-nil g)), x.1.1));
      why = λ t g x bad. inl bad;
    })
    (ap (λ (x : Edge). x.seats) p.3.1.1.1.1)
    (ap (λ (x : Edge). x.next_conn) p.3.1.1.1.1)
    (λ n far. refl)
read_steps a s part.Failed bytes b p = absurd p

write_at : (c : Option Conn) (a b : Edge) (index : ℕ) (seat : Seat) (taken : ℕ) → seat.conn ≡ c → slice_get a.seats index ≡ Some seat → b ≡ record a { seats = slice_set a.seats index (record { conn = seat.conn; backlog = drop taken seat.backlog }); round = b.round } → Steps a (call.write (seat_socket index) seat.backlog (Some taken) ∷ []) b
write_at None a b index seat taken is there e =
    idles index seat (record { conn = seat.conn; backlog = drop taken seat.backlog }) there is is (write_misses (seat_socket index) seat.backlog (Some taken))
    (ap (λ (x : Edge). x.seats) e) (ap (λ (x : Edge). x.next_conn) e) (λ n. refl)
write_at (Some conn) a b index seat taken is there e =
    keeps index seat conn (record { conn = seat.conn; backlog = drop taken seat.backlog }) conn there is (write_misses (seat_socket index) seat.backlog (Some taken))
    (record {
      is = is;
      named = refl;
      stays = (refl, tt);
      why = λ t g x bad. inl bad;
      balance = λ t g x. (
        x.0,
        (
          ap (λ (l : List ℕ). (t ++ l) ++ (drop taken seat.backlog ++ x.0)) (write_took (seat_socket index) seat.backlog (Some taken))
              ∙ (flows t (take taken seat.backlog) (drop taken seat.backlog) seat.backlog x.0 g (take-append-drop taken seat.backlog) x.1.0 ∙ sym (append-nil g)),
          x.1.1,
        ),
      );
    })
    (ap (λ (x : Edge). x.seats) e) (ap (λ (x : Edge). x.next_conn) e) (λ n far. refl)

write_steps : (a : Edge) (s : ℕ) (bytes : List ℕ) (answer : Option ℕ) (b : Edge) → QuietWrite a s bytes answer b → Steps a (call.write s bytes answer ∷ []) b
write_steps a s bytes answer b p =
    let e : b ≡ record a { seats = slice_set a.seats p.0 (record { conn = p.1.conn; backlog = drop p.2 p.1.backlog }); round = b.round } =
    p.3.1.1.1.1 ∙ ap (λ (l : List ℕ). record a { seats = slice_set a.seats p.0 (record { conn = p.1.conn; backlog = drop p.2 l }); round = b.round }) p.3.1.1.0 in
    subst (λ (k : ℕ). Steps a (call.write k bytes answer ∷ []) b) (sym p.3.1.0)
    (subst (λ (l : List ℕ). Steps a (call.write (seat_socket p.0) l answer ∷ []) b) (sym p.3.1.1.0)
    (subst (λ (o : Option ℕ). Steps a (call.write (seat_socket p.0) p.1.backlog o ∷ []) b) (sym p.3.1.1.1.0) (write_at p.1.conn a b p.0 p.1 p.2 refl p.3.0 e)))

call_steps : (wake : Option ℕ) (a : Edge) (x : Call) (b : Edge) → QuietCall wake a x b → Steps a (x ∷ []) b
call_steps wake a (call.bind s addr port answer) b p = absurd p
call_steps wake a (call.connect s addr port answer) b p = absurd p
call_steps wake a (call.send s bytes answer) b p = absurd p
call_steps wake a (call.send_to s addr port bytes answer) b p = absurd p
call_steps wake a (call.receive s answer bytes) b p = same_steps a b _ (λ q i. ((refl, refl), tt)) p.1
call_steps wake a (call.listen s addr port answer) b p = absurd p
call_steps wake a (call.accept l s answer) b p = accept_steps a l s answer b p
call_steps wake a (call.begin s addr port server to answer) b p = absurd p
call_steps wake a (call.stands s answer) b p = same_steps a b _ (λ q i. ((refl, refl), tt)) p.1
call_steps wake a (call.read s answer bytes) b p = read_steps a s answer bytes b p
call_steps wake a (call.write s bytes answer) b p = write_steps a s bytes answer b p
call_steps wake a (call.close s) b p = same_steps a b _ (λ q i. ((differs s q (λ e. let spare = p.0 in let under = i.1 in omega arith), refl), tt)) p.1
call_steps wake a (call.wait pause answer) b p = rest_steps a b _ (λ q i. ((refl, refl), tt)) (ap (λ (x : Edge). x.seats) p.1) (ap (λ (x : Edge). x.next_conn) p.1)
call_steps wake a (call.ready answer) b p = same_steps a b _ (λ q i. ((refl, refl), tt)) p
call_steps wake a (call.now answer) b p = rest_steps a b _ (λ q i. ((refl, refl), tt)) (ap (λ (x : Edge). x.seats) p) (ap (λ (x : Edge). x.next_conn) p)
call_steps wake a (call.print bytes ok) b p = rest_steps a b _ (λ q i. ((refl, refl), tt)) (ap (λ (x : Edge). x.seats) p.1) (ap (λ (x : Edge). x.next_conn) p.1)

-- Sources that are passed over before it change no place.
pub quiet_steps : (wake : Option ℕ) (a : Edge) (x : Call) (b : Edge) → QuietStep wake a x b → Steps a (x ∷ []) b
quiet_steps wake a x b q = steps_from a q.0 b (x ∷ []) (passes_same a q.0 q.1.0) (call_steps wake q.0 x b q.1.1.0)

-- Looks at the clients' sockets.
requests_miss : (hears : Bool) (calls : List Call) (gave : Step) (buffer : List ℕ) → HearsRequests hears calls gave buffer → MissesAll calls
requests_miss true calls gave buffer h = all_as calls _ h.1.0 (λ s p. ((refl, refl), tt))
requests_miss false calls gave buffer h = all_as calls [] h.0 (λ s p. tt)

none_is : (c : Option Conn) → is_none c ≡ true → c ≡ None
none_is None p = refl
none_is (Some conn) p = cc

still_next : (gave : Step) (before after id : ℕ) → gave ≡ step.Nothing → StepNumbers gave before after id → after ≡ before
still_next gave before after id e n = subst (λ (g : Step). StepNumbers g before after id) e n

gives_steps : (answer : Accepted) (a b : Edge) (calls : List Call) (id : ℕ) (gave : Step) → AcceptGives answer a.seats a.next_conn a.clock calls gave b.seats b.retry → StepNumbers gave a.next_conn b.next_conn id → Steps a calls b
gives_steps accepted.Nothing a b calls id gave h n = rest_steps a b calls (all_as calls _ h.1.0 (λ s p. ((refl, refl), tt))) h.1.1.1.0 (still_next gave a.next_conn b.next_conn id h.1.1.0 n)
gives_steps accepted.Aborted a b calls id gave h n = rest_steps a b calls (all_as calls _ h.1.0 (λ s p. ((refl, refl), tt))) h.1.1.1.0 (still_next gave a.next_conn b.next_conn id h.1.1.0 n)
gives_steps accepted.Failed a b calls id gave h n = rest_steps a b calls (all_as calls _ h.1.0 (λ s p. ((refl, refl), tt))) h.1.1.1.0 (still_next gave a.next_conn b.next_conn id h.1.1.0 n)
gives_steps (accepted.Connection peer) a b calls id gave h n = elim h [
  | inl kept ↦
      let numbers = subst (λ (g : Step). StepNumbers g a.next_conn b.next_conn id) kept.2.1.1.1.0 n in
      comes kept.0 kept.1 kept.2.0 (none_is kept.1.conn kept.2.1.0) (all_as calls _ kept.2.1.1.0 (λ s p. ((refl, refl), tt))) kept.2.1.1.1.1.0 numbers.1 (λ m. refl)
  | inr closed ↦
      rest_steps a b calls (all_as calls _ closed.1.0 (λ s p. ((refl, refl), ((differs 250 s (λ e. let under = p.1 in omega arith), refl), tt)))) closed.1.1.1.0 (still_next gave a.next_conn b.next_conn id closed.1.1.0 n)
]

accepts_steps : (hears : Bool) (a b : Edge) (calls : List Call) (id : ℕ) (gave : Step) → Accepts hears a.seats a.next_conn a.clock a.retry calls gave b.seats b.retry → StepNumbers gave a.next_conn b.next_conn id → Steps a calls b
accepts_steps true a b calls id gave h n = gives_steps h.0 a b calls id gave h.1 n
accepts_steps false a b calls id gave h n = rest_steps a b calls (all_as calls [] h.0 (λ s p. tt)) h.1.1.0 (still_next gave a.next_conn b.next_conn id h.1.0 n)

-- A look at a connection: what was written before its stream was read.
pub record Flushes (s : ℕ) (waiting : List ℕ) (calls : List Call) : Type 0 where
  pub stays : StaysOpen s calls
  pub misses : MissesOthers s calls
  pub front : (lost : List ℕ) × (takes s calls ++ lost ≡ waiting)

flushes : (empty : Bool) (s : ℕ) (waiting : List ℕ) (answer : Option ℕ) → Flushes s waiting (if empty then [] else call.write s waiting answer ∷ [])
flushes true s waiting answer = record { stays = tt; misses = λ q far. tt; front = (waiting, refl) }
flushes false s waiting None = record {
  stays = (refl, tt);
  misses = write_misses s waiting None;
  front = (waiting, ap (λ (l : List ℕ). l ++ waiting) (write_took s waiting None));
}
flushes false s waiting (Some taken) = record {
  stays = (refl, tt);
  misses = write_misses s waiting (Some taken);
  front = (drop taken waiting, ap (λ (l : List ℕ). l ++ drop taken waiting) (write_took s waiting (Some taken)) ∙ take-append-drop taken waiting);
}

flush_leaves : (empty : Bool) (s : ℕ) (waiting : List ℕ) (answer : Option ℕ) (rest : List ℕ) → (if empty then Some waiting else left_by waiting answer) ≡ Some rest → takes s (if empty then [] else call.write s waiting answer ∷ []) ++ rest ≡ waiting
flush_leaves true s waiting answer rest e = cc
flush_leaves false s waiting None rest e = cc
flush_leaves false s waiting (Some taken) rest e =
    let same : rest ≡ drop taken waiting = (cc) in
    ap (λ (l : List ℕ). l ++ rest) (write_took s waiting (Some taken)) ∙ (ap (λ (l : List ℕ). take taken waiting ++ l) same ∙ take-append-drop taken waiting)

-- Its socket is closed behind that.
cut_at : (s : ℕ) (ys : List Call) → takes s (call.close s ∷ ys) ≡ []
cut_at s ys = ap (λ (b : Bool). if b then [] else [] ++ takes s ys) (same_self s)

shuts_behind : (s : ℕ) (seat : Seat) (calls : List Call) → Flushes s seat.backlog calls → Shuts s seat (calls ++ call.close s ∷ [])
shuts_behind s seat calls f =
    let all : (ys : List Call) → takes s (calls ++ (call.close s ∷ ys)) ≡ takes s calls = λ ys. takes_both s calls (call.close s ∷ ys) f.stays ∙ (ap (λ (l : List ℕ). takes s calls ++ l) (cut_at s ys) ∙ append-nil (takes s calls)) in
    record {
      cut = λ ys. ap (λ (cs : List Call). takes s cs) (append_assoc calls (call.close s ∷ []) ys) ∙ (all ys ∙ sym (all []));
      shut = λ o. told_other s s (open_split s calls (call.close s ∷ []) o).1.0 refl;
      front = (f.front.0, ap (λ (l : List ℕ). l ++ f.front.0) (all []) ∙ f.front.1);
    }

misses_both : (s : ℕ) (xs ys : List Call) → MissesOthers s xs → MissesOthers s ys → MissesOthers s (xs ++ ys)
misses_both s xs ys m n = λ q far. each_append (IsMissed q) xs ys (m q far) (n q far)

shut_step : (index : ℕ) (seat : Seat) (conn : Conn) (old new : List Seat) (next : ℕ) (heard closed calls : List Call) → slice_get old index ≡ Some seat → seat.conn ≡ Some conn → Flushes (seat_socket index) seat.backlog heard → closed ≡ call.close (seat_socket index) ∷ [] → calls ≡ heard ++ closed → new ≡ slice_set old index free_seat → Moves old next calls no_bytes new next
shut_step index seat conn old new next heard closed calls there is f c whole e =
    let all : calls ≡ heard ++ call.close (seat_socket index) ∷ [] = whole ∙ ap (λ (cs : List Call). heard ++ cs) c in
    subst (λ (cs : List Call). Moves old next cs no_bytes new next) (sym all)
    (shuts index seat conn there is (misses_both (seat_socket index) heard (call.close (seat_socket index) ∷ []) f.misses (close_misses (seat_socket index))) (shuts_behind (seat_socket index) seat heard f) e refl (λ n. refl))

keep_step : (index : ℕ) (seat : Seat) (conn : Conn) (became : Seat) (now : Conn) (old new : List Seat) (next : ℕ) (heard closed calls : List Call) → slice_get old index ≡ Some seat → seat.conn ≡ Some conn → MissesOthers (seat_socket index) heard → Keeps (seat_socket index) seat conn [] heard became now → closed ≡ [] → calls ≡ heard ++ closed → new ≡ slice_set old index became → Moves old next calls no_bytes new next
keep_step index seat conn became now old new next heard closed calls there is m k c whole e =
    let all : calls ≡ heard = whole ∙ (ap (λ (cs : List Call). heard ++ cs) c ∙ append-nil heard) in
    subst (λ (cs : List Call). Moves old next cs no_bytes new next) (sym all) (keeps index seat conn became now there is m k e refl (λ n far. refl))

goes_steps : (gave : Step) (index : ℕ) (seat : Seat) (conn : Conn) (became : Seat) (now : Conn) (old new : List Seat) (next : ℕ) (heard closed calls : List Call) → slice_get old index ≡ Some seat → seat.conn ≡ Some conn → Flushes (seat_socket index) seat.backlog heard → Keeps (seat_socket index) seat conn [] heard became now → calls ≡ heard ++ closed → GoesSeat gave index became old closed new → Moves old next calls no_bytes new next
goes_steps step.Nothing index seat conn became now old new next heard closed calls there is f k whole g = keep_step index seat conn became now old new next heard closed calls there is f.misses k g.0 whole g.1
goes_steps (step.Event found) index seat conn became now old new next heard closed calls there is f k whole g = keep_step index seat conn became now old new next heard closed calls there is f.misses k g.0 whole g.1
goes_steps (step.Last found) index seat conn became now old new next heard closed calls there is f k whole g = shut_step index seat conn old new next heard closed calls there is f g.0 whole g.1

after_named : (conn : Conn) (answer : Part) (bytes : List ℕ) → ((conn_after conn answer bytes).number ≡ conn.number) × ((conn_after conn answer bytes).failed ≡ conn.failed)
after_named conn part.Nothing bytes = (refl, refl)
after_named conn (part.Bytes len) bytes = (refl, refl)
after_named conn part.End bytes = (refl, refl)
after_named conn part.Failed bytes = (refl, refl)

-- A stream that was flushed and read.
read_flushes : (s : ℕ) (waiting : List ℕ) (flushed : List Call) (answer : Part) (bytes : List ℕ) → Flushes s waiting flushed → (takes s (flushed ++ call.read s answer bytes ∷ []) ≡ takes s flushed) × Flushes s waiting (flushed ++ call.read s answer bytes ∷ [])
read_flushes s waiting flushed answer bytes f =
    let all : takes s (flushed ++ call.read s answer bytes ∷ []) ≡ takes s flushed = takes_both s flushed (call.read s answer bytes ∷ []) f.stays ∙ append-nil (takes s flushed) in (
      all,
      record {
        stays = open_both s flushed (call.read s answer bytes ∷ []) f.stays (refl, tt);
        misses = misses_both s flushed (call.read s answer bytes ∷ []) f.misses (λ q far. ((refl, refl), tt));
        front = (f.front.0, ap (λ (l : List ℕ). l ++ f.front.0) all ∙ f.front.1);
      },
    )

reads_steps : (left : Option (List ℕ)) (index : ℕ) (seat : Seat) (conn : Conn) (became : Seat) (old new : List Seat) (next : ℕ) (flushed heard closed calls : List Call) (gave : Step) (buffer : List ℕ) → slice_get old index ≡ Some seat → seat.conn ≡ Some conn → Flushes (seat_socket index) seat.backlog flushed → ((rest : List ℕ) → left ≡ Some rest → takes (seat_socket index) flushed ++ rest ≡ seat.backlog) → ReadsBehind (seat_socket index) conn left flushed heard gave buffer became → calls ≡ heard ++ closed → GoesSeat gave index became old closed new → Moves old next calls no_bytes new next
reads_steps None index seat conn became old new next flushed heard closed calls gave buffer there is f leaves r whole g =
    let last = subst (λ (x : Step). GoesSeat x index became old closed new) r.1 g in
    shut_step index seat conn old new next flushed closed calls there is f last.0 (whole ∙ ap (λ (cs : List Call). cs ++ closed) r.0) last.1
reads_steps (Some rest) index seat conn became old new next flushed heard closed calls gave buffer there is f leaves r whole g =
    let bytes : List ℕ = part_bytes r.0 buffer in
    let more = read_flushes (seat_socket index) seat.backlog flushed r.0 (part_bytes r.0 buffer) f in
    let named = after_named conn r.0 (part_bytes r.0 buffer) in
    let one : Keeps (seat_socket index) seat conn [] (flushed ++ call.read (seat_socket index) r.0 (part_bytes r.0 buffer) ∷ []) became (conn_after conn r.0 (part_bytes r.0 buffer)) = record {
      is = ap (λ (x : Seat). x.conn) r.1.1.1;
      named = named.0;
      stays = more.1.stays;
      why = λ t g x bad. inl (sym named.1 ∙ bad);
      balance = λ t g x. (
        x.0,
        (
          ap (λ (l : List ℕ). (t ++ l) ++ (became.backlog ++ x.0)) more.0
              ∙ (ap (λ (l : List ℕ). (t ++ takes (seat_socket index) flushed) ++ (l ++ x.0)) (ap (λ (z : Seat). z.backlog) r.1.1.1)
              ∙ (flows t (takes (seat_socket index) flushed) rest seat.backlog x.0 g (leaves rest refl) x.1.0 ∙ sym (append-nil g))),
          λ fine. x.1.1 (sym named.1 ∙ fine),
        ),
      );
    } in
    goes_steps gave index seat conn became (conn_after conn r.0 (part_bytes r.0 buffer)) old new next (flushed ++ call.read (seat_socket index) r.0 (part_bytes r.0 buffer) ∷ []) closed calls there is more.1 one (whole ∙ ap (λ (cs : List Call). cs ++ closed) r.1.0) g

conn_steps : (failed : Bool) (index : ℕ) (seat : Seat) (conn : Conn) (became : Seat) (old new : List Seat) (next : ℕ) (heard closed calls : List Call) (gave : Step) (buffer : List ℕ) → slice_get old index ≡ Some seat → seat.conn ≡ Some conn → LooksAtConn (seat_socket index) conn seat.backlog failed heard gave buffer became → calls ≡ heard ++ closed → GoesSeat gave index became old closed new → Moves old next calls no_bytes new next
conn_steps true index seat conn became old new next heard closed calls gave buffer there is l whole g =
    let last = subst (λ (x : Step). GoesSeat x index became old closed new) l.1 g in
    shut_step index seat conn old new next [] closed calls there is (flushes true (seat_socket index) seat.backlog None) last.0 (whole ∙ ap (λ (cs : List Call). cs ++ closed) l.0) last.1
conn_steps false index seat conn became old new next heard closed calls gave buffer there is l whole g =
    reads_steps (flush_rest seat.backlog l.0) index seat conn became old new next (flush_calls (seat_socket index) seat.backlog l.0) heard closed calls gave buffer there is
    (flushes (length seat.backlog == 0) (seat_socket index) seat.backlog l.0)
    (λ rest e. flush_leaves (length seat.backlog == 0) (seat_socket index) seat.backlog l.0 rest e) l.1 whole g

seat_steps : (c : Option Conn) (index : ℕ) (seat became : Seat) (old new : List Seat) (next : ℕ) (heard closed calls : List Call) (id : ℕ) (gave : Step) (buffer : List ℕ) → slice_get old index ≡ Some seat → seat.conn ≡ c → LooksAtSeat (seat_socket index) seat c heard id gave buffer became → calls ≡ heard ++ closed → GoesSeat gave index became old closed new → Moves old next calls no_bytes new next
seat_steps None index seat became old new next heard closed calls id gave buffer there is l whole g =
    let none = subst (λ (x : Step). GoesSeat x index became old closed new) l.1.0 g in
    let all : calls ≡ [] = whole ∙ (ap (λ (cs : List Call). cs ++ closed) l.0 ∙ none.0) in
    subst (λ (cs : List Call). Moves old next cs no_bytes new next) (sym all)
    (idles index seat became there is (ap (λ (x : Seat). x.conn) l.1.1 ∙ is) (λ q far. tt) none.1 refl (λ n. refl))
seat_steps (Some conn) index seat became old new next heard closed calls id gave buffer there is l whole g = conn_steps conn.failed index seat conn became old new next heard closed calls gave buffer there is l.1 whole g

seats_steps : (index : ℕ) (old new : List Seat) (next : ℕ) (calls : List Call) (id : ℕ) (gave : Step) (buffer : List ℕ) → HearsSeat index old calls id gave buffer new → Moves old next calls no_bytes new next
seats_steps index old new next calls id gave buffer h = elim h [
  | inl none ↦ rests (all_as calls [] none.0 (λ s p. tt)) none.1.1.0 refl (λ i seat conn there is. refl)
  | inr there ↦ let l = there.1 in seat_steps there.0.conn index there.0 l.after old new next l.heard l.closed calls id gave buffer l.there refl l.looks l.whole l.goes
]

-- Links.
link_far : (key s : ℕ) → IsPlace s → link_socket key ≡ s → ⊥
link_far key s p e = let under = p.1 in absurd (omega arith)

link_close_misses : (key : ℕ) → MissesAll (call.close (link_socket key) ∷ [])
link_close_misses key = λ s p. ((differs (link_socket key) s (link_far key s p), refl), tt)

close_miss : (way : Way) (key : ℕ) → MissesAll (close_calls (link_socket key) way)
close_miss Udp key = link_close_misses key
close_miss Connecting key = link_close_misses key
close_miss Connected key = link_close_misses key
close_miss (Missing cause) key = λ s p. tt

way_miss : (way : Way) (socket : ℕ) (server : List ℕ) (calls : List Call) (gave : Step) (buffer : List ℕ) → HearsWay socket server way calls gave buffer → MissesAll calls
way_miss Udp socket server calls gave buffer h = all_as calls _ h.1.0 (λ s p. ((refl, refl), tt))
way_miss Connecting socket server calls gave buffer h = all_as calls _ h.1.0 (λ s p. ((refl, refl), tt))
way_miss Connected socket server calls gave buffer h = all_as calls _ h.1.0 (λ s p. ((refl, refl), tt))
way_miss (Missing cause) socket server calls gave buffer h = all_as calls [] h.0 (λ s p. tt)

goes_miss : (gave : Step) (key : ℕ) (link : Link) (old : Slab Link) (calls : List Call) (new : Slab Link) → Goes gave key link old calls new → MissesAll calls
goes_miss step.Nothing key link old calls new h = all_as calls [] h.0 (λ s p. tt)
goes_miss (step.Event found) key link old calls new h = all_as calls [] h.0 (λ s p. tt)
goes_miss (step.Last found) key link old calls new h = all_as calls _ h.0 (close_miss link.way key)

link_miss : (key : ℕ) (old : Slab Link) (calls : List Call) (id : ℕ) (gave : Step) (buffer : List ℕ) (new : Slab Link) → LooksAt key old calls id gave buffer new → MissesAll calls
link_miss key old calls id gave buffer new h = elim h [
  | inl none ↦ all_as calls [] none.1.0 (λ s p. tt)
  | inr there ↦
      let l = there.1 in
      all_as calls (l.heard ++ l.closed) l.whole (both_miss l.heard l.closed (way_miss there.0.way (link_socket key) there.0.server l.heard gave buffer l.hears) (goes_miss gave key there.0 old l.closed new l.goes))
]

pub looks_steps : (source : Place) (a : Edge) (calls : List Call) (id : ℕ) (gave : Step) (buffer : List ℕ) (b : Edge) → Looks source a calls id gave buffer b → Steps a calls b
looks_steps place.Datagrams a calls id gave buffer b h = same_steps a b calls (requests_miss a.hears calls gave buffer h.0) h.1.1
looks_steps place.Listener a calls id gave buffer b h = accepts_steps a.hears a b calls id gave h.0 h.1.0
looks_steps (place.Seat index) a calls id gave buffer b h =
    subst (λ (n : ℕ). Moves a.seats a.next_conn calls no_bytes b.seats n) (sym (ap (λ (x : Edge). x.next_conn) h.1)) (seats_steps index a.seats b.seats a.next_conn calls id gave buffer h.0)
looks_steps (place.Link key) a calls id gave buffer b h =
    rest_steps a b calls (link_miss key a.links calls id gave buffer b.links h.0) (ap (λ (x : Edge). x.seats) h.1) (ap (λ (x : Edge). x.next_conn) h.1)

-- Actions: links and the log.
udp_miss : (o : Opening) (key : ℕ) (from : List ℕ) (port : ℕ) (server query : List ℕ) → MissesAll (udp_calls (link_socket key) from port server query o)
udp_miss (opening.Refused cause) key from port server query = λ s p. ((refl, refl), tt)
udp_miss opening.Unconnected key from port server query = λ s p. ((refl, refl), ((refl, refl), link_close_misses key s p))
udp_miss opening.Unsent key from port server query = λ s p. ((refl, refl), ((refl, refl), ((refl, refl), link_close_misses key s p)))
udp_miss opening.Sent key from port server query = λ s p. ((refl, refl), ((refl, refl), ((refl, refl), tt)))

rest_miss : (all : Bool) (key : ℕ) → MissesAll (if all then [] else call.close (link_socket key) ∷ [])
rest_miss true key = λ s p. tt
rest_miss false key = link_close_misses key

link_write_missed : (key : ℕ) (bytes : List ℕ) (answer : Option ℕ) (s : ℕ) → IsPlace s → IsMissed s (call.write (link_socket key) bytes answer)
link_write_missed key bytes answer s p = (refl, ap (λ (b : Bool). if b then taken_of bytes answer else []) (differs (link_socket key) s (link_far key s p)))

write_miss : (way : Way) (key : ℕ) (bytes : List ℕ) (answer : Option ℕ) → MissesAll (write_calls (link_socket key) bytes way answer)
write_miss Udp key bytes answer = link_close_misses key
write_miss Connecting key bytes answer = λ s p. (link_write_missed key bytes answer s p, rest_miss (took_all (length bytes) answer) key s p)
write_miss Connected key bytes answer = λ s p. (link_write_missed key bytes answer s p, rest_miss (took_all (length bytes) answer) key s p)
write_miss (Missing cause) key bytes answer = λ s p. tt

text_miss : (text : List ℕ) (old : Gathered) (calls : List Call) (new : Gathered) → PrintsText text old calls new → MissesAll calls
text_miss [] old calls new p = all_as calls [] p.0 (λ s i. tt)
text_miss (x ∷ xs) old calls new p = all_as calls _ p.1.0 (λ s i. ((refl, refl), tt))

puts_miss : (room : Bool) (text : List ℕ) (old : Gathered) (calls : List Call) (new : Gathered) → PutsLineIf room text old calls new → MissesAll calls
puts_miss true text old calls new p = all_as calls [] p.0 (λ s i. tt)
puts_miss false text old calls new p = elim p [
  | inl failed ↦ all_as calls _ failed.0 (λ s i. ((refl, refl), tt))
  | inr whole ↦ all_as calls _ whole.1.0 (λ s i. ((refl, refl), ((refl, refl), tt)))
]

lines_miss : (room : Bool) (text : List ℕ) (old : Gathered) (calls : List Call) (new : Gathered) → LinesIf room text old calls new → MissesAll calls
lines_miss true text old calls new p = puts_miss _ text old calls new p
lines_miss false text old calls new p = all_as calls (p.1 ++ p.2) p.3.0 (both_miss p.1 p.2 (text_miss old.text old p.1 p.0 p.3.1.0) (puts_miss _ text p.0 p.2 new p.3.1.1))

replies_miss : (addr : List ℕ) (port : ℕ) (bytes : List ℕ) (hears : Bool) (calls : List Call) → Replies addr port bytes hears calls → MissesAll calls
replies_miss addr port bytes true calls r = all_as calls _ r.1 (λ s p. ((refl, refl), tt))
replies_miss addr port bytes false calls r = all_as calls [] r (λ s p. tt)

pub hearing_miss : (h : Hearing) (addr : List ℕ) (port : ℕ) → MissesAll (listen_calls addr port h)
hearing_miss (refused cause) addr port = λ s p. ((refl, refl), tt)
hearing_miss deaf addr port = λ s p. ((refl, refl), ((refl, refl), ((differs 0 s (λ e. let over = p.0 in omega arith), refl), tt)))
hearing_miss both addr port = λ s p. ((refl, refl), ((refl, refl), tt))

-- Bytes that are given to a connection.
empty_is : (w : List ℕ) → (length w == 0) ≡ true → w ≡ []
empty_is [] e = refl
empty_is (x ∷ xs) e = let no : suc (length xs) ≡ 0 = told_same (suc (length xs)) 0 e in absurd (omega arith)

gives_more : (t k v lost w bytes g had : List ℕ) → t ++ (w ++ had) ≡ g → had ≡ [] → k ++ (v ++ lost) ≡ w ++ bytes → (t ++ k) ++ (v ++ lost) ≡ g ++ bytes
gives_more t k v lost w bytes g had e none fact =
    append_assoc t k (v ++ lost)
    ∙ (ap (λ (l : List ℕ). t ++ l) fact
    ∙ (sym (append_assoc t w bytes) ∙ ap (λ (l : List ℕ). l ++ bytes) (ap (λ (l : List ℕ). t ++ l) (sym (append-nil w) ∙ ap (λ (l : List ℕ). w ++ l) (sym none)) ∙ e)))

abbrev KeepsSome : (s : ℕ) (seat : Seat) (conn : Conn) (bytes : List ℕ) (calls : List Call) (became : Seat) → Type 0
KeepsSome s seat conn bytes calls became = (now : Conn) × Keeps s seat conn bytes calls became now

-- It was written at once, as far as it was taken; what wasn't waits or is lost.
over_room : (waits given : List ℕ) → nat_le (length waits) 65537 ≡ false → length waits ≤ length given → 65537 < length given
over_room waits given e p = let over : 65537 < length waits = leb-false (length waits) 65537 e in omega arith

rest_within : (taken : ℕ) (t w lost bytes g : List ℕ) → t ++ (w ++ lost) ≡ g → length (w ++ drop taken bytes) ≤ length (g ++ bytes)
rest_within taken t w lost bytes g e = omega (arith, length-append t (w ++ lost), length-append w lost, ap (λ (l : List ℕ). length l) e, length-append w (drop taken bytes), length-append g bytes, length-drop taken bytes)

all_within : (t w lost bytes g : List ℕ) → t ++ (w ++ lost) ≡ g → length (w ++ bytes) ≤ length (g ++ bytes)
all_within t w lost bytes g e = omega (arith, length-append t (w ++ lost), length-append w lost, ap (λ (l : List ℕ). length l) e, length-append w bytes, length-append g bytes)

written_keeps : (fits : Bool) (s : ℕ) (seat : Seat) (conn : Conn) (bytes : List ℕ) (taken : ℕ) → nat_le (length (seat.backlog ++ drop taken bytes)) 65537 ≡ fits → conn.failed ≡ false → seat.backlog ≡ [] → KeepsSome s seat conn bytes (call.write s bytes (Some taken) ∷ []) (after_put seat conn (if fits then Some (seat.backlog ++ drop taken bytes) else None))
written_keeps true s seat conn bytes taken fit well empty = (
  replied_conn conn true,
  record {
    is = refl;
    named = refl;
    stays = (refl, tt);
    why = λ t g x bad. inl bad;
    balance = λ t g x. (
      [],
      (
        ap (λ (l : List ℕ). (t ++ l) ++ ((seat.backlog ++ drop taken bytes) ++ [])) (write_took s bytes (Some taken))
            ∙ gives_more t (take taken bytes) (seat.backlog ++ drop taken bytes) [] seat.backlog bytes g x.0 x.1.0 (x.1.1 well)
            (ap (λ (l : List ℕ). take taken bytes ++ ((l ++ drop taken bytes) ++ [])) empty
            ∙ (ap (λ (l : List ℕ). take taken bytes ++ l) (append-nil (drop taken bytes)) ∙ (take-append-drop taken bytes ∙ ap (λ (l : List ℕ). l ++ bytes) (sym empty)))),
        λ e. refl,
      ),
    );
  },
)
written_keeps false s seat conn bytes taken fit well empty = (
  replied_conn conn false,
  record {
    is = refl;
    named = refl;
    stays = (refl, tt);
    why = λ t g x bad. inr (inr (over_room (seat.backlog ++ drop taken bytes) (g ++ bytes) fit (rest_within taken t seat.backlog x.0 bytes g x.1.0)));
    balance = λ t g x. (
      drop taken bytes,
      (
        ap (λ (l : List ℕ). (t ++ l) ++ (seat.backlog ++ drop taken bytes)) (write_took s bytes (Some taken))
            ∙ gives_more t (take taken bytes) seat.backlog (drop taken bytes) seat.backlog bytes g x.0 x.1.0 (x.1.1 well)
            (ap (λ (l : List ℕ). take taken bytes ++ (l ++ drop taken bytes)) empty ∙ (take-append-drop taken bytes ∙ ap (λ (l : List ℕ). l ++ bytes) (sym empty))),
        λ e. let no : true ≡ false = e in (cc),
      ),
    );
  },
)

-- It waits behind the others, or is lost.
waits_keeps : (fits : Bool) (s : ℕ) (seat : Seat) (conn : Conn) (bytes : List ℕ) → nat_le (length (seat.backlog ++ bytes)) 65537 ≡ fits → conn.failed ≡ false → KeepsSome s seat conn bytes [] (after_put seat conn (if fits then Some (seat.backlog ++ bytes) else None))
waits_keeps true s seat conn bytes fit well = (
  replied_conn conn true,
  record {
    is = refl;
    named = refl;
    stays = tt;
    why = λ t g x bad. inl bad;
    balance = λ t g x. ([], (gives_more t [] (seat.backlog ++ bytes) [] seat.backlog bytes g x.0 x.1.0 (x.1.1 well) (append-nil (seat.backlog ++ bytes)), λ e. refl));
  },
)
waits_keeps false s seat conn bytes fit well = (
  replied_conn conn false,
  record {
    is = refl;
    named = refl;
    stays = tt;
    why = λ t g x bad. inr (inr (over_room (seat.backlog ++ bytes) (g ++ bytes) fit (all_within t seat.backlog x.0 bytes g x.1.0)));
    balance = λ t g x. (bytes, (gives_more t [] seat.backlog bytes seat.backlog bytes g x.0 x.1.0 (x.1.1 well) refl, λ e. let no : true ≡ false = e in (cc)));
  },
)

put_keeps : (empty : Bool) (s : ℕ) (seat : Seat) (conn : Conn) (bytes : List ℕ) (answer : Option ℕ) → (length seat.backlog == 0) ≡ empty → conn.failed ≡ false → KeepsSome s seat conn bytes (if empty then call.write s bytes answer ∷ [] else []) (after_put seat conn (if empty then behind seat.backlog (left_by bytes answer) else fitting (seat.backlog ++ bytes)))
put_keeps true s seat conn bytes None e well = (
  replied_conn conn false,
  record {
    is = refl;
    named = refl;
    stays = (refl, tt);
    why = λ t g x bad. inr (inl ([], bytes, [], refl));
    balance = λ t g x. (
      bytes,
      (
        ap (λ (l : List ℕ). (t ++ l) ++ (seat.backlog ++ bytes)) (write_took s bytes None) ∙ gives_more t [] seat.backlog bytes seat.backlog bytes g x.0 x.1.0 (x.1.1 well) refl,
        λ f. let no : true ≡ false = f in (cc),
      ),
    );
  },
)
put_keeps true s seat conn bytes (Some taken) e well = written_keeps (nat_le (length (seat.backlog ++ drop taken bytes)) 65537) s seat conn bytes taken refl well (empty_is seat.backlog e)
put_keeps false s seat conn bytes answer e well = waits_keeps (nat_le (length (seat.backlog ++ bytes)) 65537) s seat conn bytes refl well

put_misses : (empty : Bool) (s : ℕ) (bytes : List ℕ) (answer : Option ℕ) → MissesOthers s (if empty then call.write s bytes answer ∷ [] else [])
put_misses true s bytes answer = write_misses s bytes answer
put_misses false s bytes answer = λ q far. tt

-- What one number is given, and no other.
abbrev given_to : (number : ℕ) (bytes : List ℕ) → ℕ → List ℕ
given_to number bytes n = if number == n then bytes else []

given_other : (number : ℕ) (bytes : List ℕ) (n : ℕ) → (n ≡ number → ⊥) → given_to number bytes n ≡ []
given_other number bytes n far = ap (λ (b : Bool). if b then bytes else []) (differs number n (λ e. far (sym e)))

given_it : (number : ℕ) (bytes : List ℕ) (n : ℕ) → n ≡ number → given_to number bytes n ≡ bytes
given_it number bytes n e = ap (λ (k : ℕ). if number == k then bytes else []) e ∙ ap (λ (b : Bool). if b then bytes else []) (same_self number)

puts_steps : (failed : Bool) (number index : ℕ) (seat : Seat) (conn : Conn) (bytes : List ℕ) (calls : List Call) (became : Seat) (old new : List Seat) (next : ℕ) → conn.failed ≡ failed → slice_get old index ≡ Some seat → seat.conn ≡ Some conn → conn.number ≡ number → PutsConn failed (seat_socket index) seat conn bytes calls became → new ≡ slice_set old index became → Moves old next calls (given_to number bytes) new next
puts_steps true number index seat conn bytes calls became old new next bad there is named p e =
    subst (λ (cs : List Call). Moves old next cs (given_to number bytes) new next) (sym p.0)
    (keeps index seat conn seat conn there is (λ q far. tt)
    (subst (λ (l : List ℕ). Keeps (seat_socket index) seat conn l [] seat conn) (sym (given_it number bytes conn.number named)) (record {
      is = is;
      named = refl;
      stays = tt;
      why = λ t g x f. inl f;
      balance = λ t g x. (
        x.0 ++ bytes,
        (
          ap (λ (l : List ℕ). l ++ (seat.backlog ++ (x.0 ++ bytes))) (append-nil t)
              ∙ (ap (λ (l : List ℕ). t ++ l) (sym (append_assoc seat.backlog x.0 bytes)) ∙ (sym (append_assoc t (seat.backlog ++ x.0) bytes) ∙ ap (λ (l : List ℕ). l ++ bytes) x.1.0)),
          λ f. let no : true ≡ false = sym bad ∙ f in (cc),
        ),
      );
    }))
    (e ∙ ap (λ (x : Seat). slice_set old index x) p.1) refl (λ n far. given_other number bytes n (λ same. far (same ∙ sym named))))
puts_steps false number index seat conn bytes calls became old new next well there is named p e =
    let k = put_keeps (length seat.backlog == 0) (seat_socket index) seat conn bytes p.0 refl well in
    subst (λ (cs : List Call). Moves old next cs (given_to number bytes) new next) (sym p.1.0)
    (keeps index seat conn (after_put seat conn (put_rest seat.backlog bytes p.0)) k.0 there is (put_misses (length seat.backlog == 0) (seat_socket index) bytes p.0)
    (subst (λ (l : List ℕ). Keeps (seat_socket index) seat conn l (put_calls (seat_socket index) seat.backlog bytes p.0) (after_put seat conn (put_rest seat.backlog bytes p.0)) k.0) (sym (given_it number bytes conn.number named)) k.1)
    (e ∙ ap (λ (x : Seat). slice_set old index x) p.1.1) refl (λ n far. given_other number bytes n (λ same. far (same ∙ sym named))))

none_at : (number : ℕ) (seats : List Seat) (index : ℕ) (seat : Seat) → NoneHas number seats → slice_get seats index ≡ Some seat → holds_conn number seat.conn ≡ false
none_at number seats index seat none there =
    subst (λ (x : Seat). holds_conn number x.conn ≡ false) (get_or_from_slice_get seats index seat seat there) (none index seat (slice_get_within seats index seat there))

not_it : (number : ℕ) (c : Option Conn) (conn : Conn) → c ≡ Some conn → holds_conn number c ≡ false → conn.number ≡ number → ⊥
not_it number c conn is none same = told_other conn.number number (sym (ap (λ (x : Option Conn). holds_conn number x) is) ∙ none) same

seat_puts : (c : Option Conn) (number index : ℕ) (seat : Seat) (bytes : List ℕ) (calls : List Call) (became : Seat) (old new : List Seat) (next : ℕ) → seat.conn ≡ c → slice_get old index ≡ Some seat → holds_conn number c ≡ true → PutsSeat c (seat_socket index) seat bytes calls became → new ≡ slice_set old index became → Moves old next calls (given_to number bytes) new next
seat_puts None number index seat bytes calls became old new next is there has p e = cc
seat_puts (Some conn) number index seat bytes calls became old new next is there has p e = puts_steps conn.failed number index seat conn bytes calls became old new next refl there is (told_same conn.number number has) p e

seat_closes : (c : Option Conn) (number index : ℕ) (seat : Seat) (calls : List Call) (old new : List Seat) (next : ℕ) → seat.conn ≡ c → slice_get old index ≡ Some seat → holds_conn number c ≡ true → calls ≡ call.close (seat_socket index) ∷ [] → new ≡ slice_set old index free_seat → Moves old next calls no_bytes new next
seat_closes None number index seat calls old new next is there has c e = cc
seat_closes (Some conn) number index seat calls old new next is there has c e = shut_step index seat conn old new next [] calls calls there is (flushes true (seat_socket index) seat.backlog None) c refl e

pub makes_steps : (x : Action) (a : Edge) (calls : List Call) (b : Edge) → Makes x a calls b → StepsBy a calls (λ n. reply_to n x) b
makes_steps (reply addr port bytes) a calls b m =
    rest_steps a b calls (replies_miss addr port bytes a.hears calls m.0) (ap (λ (x : Edge). x.seats) m.1) (ap (λ (x : Edge). x.next_conn) m.1)
makes_steps (conn_reply conn bytes) a calls b m =
    subst (λ (n : ℕ). Moves a.seats a.next_conn calls (given_to conn bytes) b.seats n) (sym (ap (λ (x : Edge). x.next_conn) m.1)) (elim m.0 [
      | inl none ↦ rests (all_as calls [] none.1.0 (λ s p. tt)) none.1.1.0 refl (λ index seat c there is. given_other conn bytes c.number (not_it conn seat.conn c is (none_at conn a.seats index seat none.0 there)))
      | inr there ↦ seat_puts there.1.conn conn there.0 there.1 bytes calls there.2 a.seats b.seats a.next_conn refl there.3.0.0 there.3.0.1 there.3.1.0 there.3.1.1.0
    ])
makes_steps (conn_close conn) a calls b m =
    subst (λ (n : ℕ). Moves a.seats a.next_conn calls no_bytes b.seats n) (sym (ap (λ (x : Edge). x.next_conn) m.1)) (elim m.0 [
      | inl none ↦ rests (all_as calls [] none.1.0 (λ s p. tt)) none.1.1 refl (λ index seat c there is. refl)
      | inr there ↦ seat_closes there.1.conn conn there.0 there.1 calls a.seats b.seats a.next_conn refl there.2.0.0 there.2.0.1 there.2.1.0 there.2.1.1
    ])
makes_steps (udp link port server query) a calls b m =
    let missed : MissesAll calls = elim m.0 [
      | inl full ↦ all_as calls [] full.1.0 (λ s p. tt)
      | inr made ↦ all_as calls _ made.1.0 (udp_miss made.0 a.links.vacant_key a.from port server query)
    ] in
    rest_steps a b calls missed (ap (λ (x : Edge). x.seats) m.1) (ap (λ (x : Edge). x.next_conn) m.1)
makes_steps (tcp link port server) a calls b m =
    let missed : MissesAll calls = elim m.0 [
      | inl full ↦ all_as calls [] full.1.0 (λ s p. tt)
      | inr made ↦ all_as calls _ made.1.0 (λ s p. ((refl, refl), tt))
    ] in
    rest_steps a b calls missed (ap (λ (x : Edge). x.seats) m.1) (ap (λ (x : Edge). x.next_conn) m.1)
makes_steps (link_write link bytes) a calls b m =
    let missed : MissesAll calls = elim m.0 [
      | inl none ↦ all_as calls [] none.1.0 (λ s p. tt)
      | inr there ↦ all_as calls _ there.3.1.1.0 (write_miss there.1.way there.0 bytes there.2)
    ] in
    rest_steps a b calls missed (ap (λ (x : Edge). x.seats) m.1) (ap (λ (x : Edge). x.next_conn) m.1)
makes_steps (link_close link) a calls b m =
    let missed : MissesAll calls = elim m.0 [
      | inl none ↦ all_as calls [] none.1.0 (λ s p. tt)
      | inr there ↦ all_as calls _ there.2.1.1.0 (close_miss there.1.way there.0)
    ] in
    rest_steps a b calls missed (ap (λ (x : Edge). x.seats) m.1) (ap (λ (x : Edge). x.next_conn) m.1)
makes_steps (line text) a calls b m = rest_steps a b calls (lines_miss _ text a.log calls b.log m.0) (ap (λ (x : Edge). x.seats) m.1) (ap (λ (x : Edge). x.next_conn) m.1)
