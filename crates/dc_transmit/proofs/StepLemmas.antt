-- What steps did.
use Rattle.std.proofs.Common.{◌≡◌, ℕ, ◌+◌, ◌-◌, take, drop, get_or, true≢false, arith, true, false, cond, not, ◌&&◌, nat_eq, List, [], ◌∷◌, ◌++◌, Option, Some, None, IfSome, refl, sym, ◌∙◌, ap, subst}
use Rattle.std.proofs.lemmas.List.{drop-take}
use Rattle.dc_model.specs.Draws.{id_of, port_of}
use Rattle.dc_model.specs.Message.{framed}
use Rattle.dc_model.specs.Places.{no_address, all_empty}
use Rattle.dc_model.specs.Event.{Action, link_close, link_write, udp, tcp}
use Rattle.dc_model.specs.Transmission.{Try, Attempt, Accepted, after_link_up, Occasion, After, waiting, packet, no_port, stays, ends, linked, opening_of, sent, tried, next_try, asked_by_tcp, tcp_plan, round_of, is_patient, server_of, query_of, accepted, filled_from, with_plan, unsent, started, udp_plan, waits_of}
use Rattle.dc_transmit.specs.Rounds.{wait_of, waits_after, is_stream, is_patient_round, tries_at, tries_over, tries_from}
use Rattle.dc_transmit.specs.Course.{present_of, later_of, tries_of}
use Rattle.dc_transmit.specs.Gathered.{Gathered, packet_of}
use Rattle.dc_transmit.proofs.CaseLemmas.{up_written}
use Rattle.dc_transmit.proofs.PlaceLemmas.{none_filled}
use Rattle.dc_transmit.specs.Attempts.{attempt_of, steered, Did}
use Rattle.dc_transmit.specs.declared.round.Round.{Round}
use Rattle.dc_transmit.specs.declared.round.Round.TheVariants.{First, Second, Third, Fourth, Stream}
use Rattle.dc_transmit.specs.declared.course.Course.{Course}
use Rattle.dc_transmit.specs.declared.attempt.Attempt.{Attempt as CodeAttempt}
use Rattle.dc_transmit.specs.declared.progress.Progress.{Progress as CodeProgress}
use Rattle.dc_transmit.specs.declared.progress.Progress.TheVariants.{Waiting, Packet, Failed, NoPort}

pub did_stays : {W : Type 0} (acted : W → List Action → W → Type 0) (none : (w : W) → acted w [] w) (w : W) (a : CodeAttempt) (k : ℕ)
    → Did acted w w (stays (attempt_of a) k) k Waiting a
did_stays acted none w a k = record { acts = none w; stands = refl; links = refl }

pub did_as : {W : Type 0} {acted : W → List Action → W → Type 0} {old new : W} {f g : After} {used : ℕ} {answer : CodeProgress} {left : CodeAttempt}
    → f ≡ g → Did acted old new g used answer left → Did acted old new f used answer left
did_as {W = W} {acted = acted} {old = old} {new = new} {f = f} {g = g} {used = used} {answer = answer} {left = left} e d =
    subst (λ x. Did acted old new x used answer left) (sym e) d

-- Nothing changed, where nothing follows.
pub did_nothing : {W : Type 0} (acted : W → List Action → W → Type 0) (none : (w : W) → acted w [] w) (w : W) (f : After) (a : CodeAttempt) (k : ℕ)
    → f ≡ stays (attempt_of a) k → Did acted w w f k Waiting a
did_nothing acted none w f a k e = did_as e (did_stays acted none w a k)

-- Links

pub opening_tcp : (a : Attempt) → a.over_tcp ≡ true → opening_of a ≡ tcp a.link a.port (server_of a)
unfolding opening_of
opening_tcp a h = ap (λ b. let x : Action = tcp a.link a.port (server_of a) in let y : Action = udp a.link a.port (server_of a) (query_of a) in cond b x y) h

pub opening_udp : (a : Attempt) → a.over_tcp ≡ false → opening_of a ≡ udp a.link a.port (server_of a) (query_of a)
unfolding opening_of
opening_udp a h = ap (λ b. let x : Action = tcp a.link a.port (server_of a) in let y : Action = udp a.link a.port (server_of a) (query_of a) in cond b x y) h

-- The next attempt

pub did_fail : {W : Type 0} (acted : W → List Action → W → Type 0) (old new : W) (next : Option Course) (servers : List (List ℕ)) (a : Attempt) (o : Occasion) (left : CodeAttempt)
    → next ≡ None → acted old (link_close a.link ∷ []) new
    → Did acted old new (tried (tries_of next servers) (link_close a.link ∷ []) (steered next a) o) o.links Failed left
unfolding tried tries_of
did_fail acted old new next servers a o left h k =
    did_as (ap (λ n. tried (tries_of n servers) (link_close a.link ∷ []) (steered n a) o) h) (record { acts = k; stands = refl; links = refl })

-- The attempt at a course, before it has a link.
abbrev pub at_course : Course → List (List ℕ) → Attempt → Attempt
at_course c servers a = record a { over_tcp = is_stream c.round; present = present_of c; later = later_of c servers; refusals = 0 }

pub did_open : {W : Type 0} (acted : W → List Action → W → Type 0)
    (acted_then : (a b c : W) (x : Action) (ys : List Action) → acted a (x ∷ []) b → acted b ys c → acted a (x ∷ ys) c)
    (old between new : W) (next : Option Course) (course : Course) (servers : List (List ℕ)) (a : Attempt) (o : Occasion) (left : CodeAttempt) (used : ℕ)
    → next ≡ Some course → attempt_of left ≡ linked (at_course course servers a) o → used ≡ o.links + 1
    → acted old (link_close a.link ∷ []) between → acted between (opening_of (attempt_of left) ∷ []) new
    → Did acted old new (tried (tries_of next servers) (link_close a.link ∷ []) (steered next a) o) used Waiting left
unfolding tried tries_of sent
did_open acted acted_then old between new next course servers a o left used h e u k l =
    did_as (ap (λ n. tried (tries_of n servers) (link_close a.link ∷ []) (steered n a) o) h) (record {
      acts = subst (λ x. acted old (link_close a.link ∷ opening_of x ∷ []) new) e (acted_then old between new _ _ k l);
      stands = ap waiting e;
      links = u;
    })

pub next_is : (next : Option Course) (servers : List (List ℕ)) (a : Attempt) (o : Occasion) → tries_of next servers ≡ a.later → IfSome next (λ c. is_stream c.round ≡ a.over_tcp)
    → next_try a o ≡ tried (tries_of next servers) (link_close a.link ∷ []) (steered next a) o
unfolding next_try
next_is None servers a o e h = ap (λ ts. tried ts (link_close a.link ∷ []) a o) (sym e)
next_is (Some c) servers a o e h =
    ap (λ ts. tried ts (link_close a.link ∷ []) a o) (sym e)
    ∙ ap (λ b. tried (tries_of (Some c) servers) (link_close a.link ∷ []) (record a { over_tcp = b }) o) (sym h)

append_nil : (ts : List Try) → ts ++ [] ≡ ts
append_nil [] = refl
append_nil (t ∷ ts) = ap (λ r. t ∷ r) (append_nil ts)

tcp_tries : (servers : List (List ℕ)) → tries_from Stream servers ≡ tcp_plan servers
unfolding tries_from tries_over tcp_plan
tcp_tries servers = append_nil (round_of 10000 servers)

pub tcp_is : (first : Option Course) (a : Attempt) (o : Occasion) → tries_of first a.servers ≡ tries_from Stream a.servers → IfSome first (λ c. c.round ≡ Stream)
    → asked_by_tcp a o ≡ tried (tries_of first a.servers) (link_close a.link ∷ []) (steered first a) o
unfolding asked_by_tcp tried tries_of
tcp_is None a o e h = ap (λ ts. tried ts (link_close a.link ∷ []) (record a { over_tcp = true }) o) (sym (e ∙ tcp_tries a.servers))
tcp_is (Some c) a o e h =
    ap (λ ts. tried ts (link_close a.link ∷ []) (record a { over_tcp = true }) o) (sym (e ∙ tcp_tries a.servers))
    ∙ ap (λ r. tried (tries_of (Some c) a.servers) (link_close a.link ∷ []) (record a { over_tcp = is_stream r }) o) (sym h)

patient_by : (r : Round) → (not (is_stream r) && nat_eq (wait_of r) 11000) ≡ is_patient_round r
patient_by First = refl
patient_by Second = refl
patient_by Third = refl
patient_by Fourth = refl
patient_by Stream = refl

pub patient_is : (a : CodeAttempt) → is_patient (attempt_of a) ≡ is_patient_round a.course.round
unfolding is_patient
patient_is a = patient_by a.course.round

-- The first attempt

pub started_is : (c : Course) (round : Round) (a : Attempt) (o : Occasion) → c.round ≡ round → is_stream round ≡ false → waits_of a.recursive ≡ wait_of round ∷ waits_after round
    → tries_of (Some c) a.servers ≡ tries_from round a.servers
    → linked (at_course c a.servers a) o ≡ started a.name a.kind a.recursive a.servers o
unfolding started linked tries_of tries_from tries_over udp_plan
started_is c round a o h t w e =
    let plan : present_of c ∷ later_of c a.servers ≡ udp_plan a.recursive a.servers = e ∙ ap (λ ws. tries_over ws a.servers) (sym w) in
    let over : is_stream c.round ≡ false = ap is_stream h ∙ t in
    ap (λ b. linked (record (at_course c a.servers a) { over_tcp = b }) o) over
    ∙ ap (λ ts. linked (with_plan ts (unsent a.name a.kind a.recursive a.servers)) o) plan

append_empty : (ts us : List Try) → ts ++ us ≡ [] → ts ≡ []
append_empty [] us e = refl
append_empty (t ∷ ts) us e = cc

tries_empty : (wait : ℕ) (places : List ℕ) → tries_at wait places ≡ [] → places ≡ []
unfolding tries_at
tries_empty wait [] e = refl
tries_empty wait (p ∷ places) e = cc

-- Where a place isn't empty there is a first attempt.
pub some_first : (round : Round) (servers : List (List ℕ)) → all_empty servers ≡ false → tries_of None servers ≡ tries_from round servers → ⊥
unfolding tries_of tries_from tries_over round_of tries_at
some_first round servers h e =
    let none : filled_from 0 servers ≡ [] = tries_empty (wait_of round) (filled_from 0 servers) (append_empty (round_of (wait_of round) servers) (tries_over (waits_after round) servers) (sym e)) in
    true≢false (sym (none_filled 0 servers none) ∙ h)

-- A new link

pub linked_is : (a : Attempt) (o : Occasion) (id port : ℕ) (wait : ℕ) (g : List ℕ) → id ≡ id_of o.draws → port ≡ port_of o.draws → wait ≡ a.present.wait → g ≡ []
    → (let made : Attempt = record a { link = o.links + 1; id = id; port = port; deadline = o.now + wait; is_up = false; gathered = g } in made ≡ linked a o)
unfolding linked
linked_is a o id port wait g h k l m =
    ap (λ i. let made : Attempt = record a { link = o.links + 1; id = i; port = port; deadline = o.now + wait; is_up = false; gathered = g } in made) h
    ∙ (ap (λ p. let made : Attempt = record a { link = o.links + 1; id = id_of o.draws; port = p; deadline = o.now + wait; is_up = false; gathered = g } in made) k
    ∙ (ap (λ w. let made : Attempt = record a { link = o.links + 1; id = id_of o.draws; port = port_of o.draws; deadline = o.now + w; is_up = false; gathered = g } in made) l
    ∙ ap (λ x. let made : Attempt = record a { link = o.links + 1; id = id_of o.draws; port = port_of o.draws; deadline = o.now + a.present.wait; is_up = false; gathered = x } in made) m))

pub did_send : {W : Type 0} (acted : W → List Action → W → Type 0) (old new : W) (a : Attempt) (o : Occasion) (left : CodeAttempt) (used : ℕ)
    → attempt_of left ≡ linked a o → used ≡ o.links + 1 → acted old (opening_of (attempt_of left) ∷ []) new → Did acted old new (sent [] a o) used Waiting left
unfolding sent
did_send acted old new a o left used e u k = record { acts = subst (λ x. acted old (opening_of x ∷ []) new) e k; stands = ap waiting e; links = u }

-- A query behind its length.
pub query_behind : (q xs : List ℕ) (n : ℕ) → take (n + 2) xs ≡ framed q → take (n + 2 - 2) (drop 2 xs) ≡ q
query_behind q xs n e =
    let count : n + 2 - 2 ≡ n = omega arith in
    let turned : 2 + n ≡ n + 2 = omega arith in
    ap (λ k. take k (drop 2 xs)) count ∙ (sym (drop-take 2 n xs) ∙ (ap (λ k. drop 2 (take k xs)) turned ∙ ap (λ b. drop 2 b) e))

-- Ends

pub did_accept : {W : Type 0} (acted : W → List Action → W → Type 0) (old new : W) (bytes : List ℕ) (a : CodeAttempt) (g : Gathered) (links : ℕ)
    → packet_of g ≡ bytes → acted old (link_close a.link.number ∷ []) new → Did acted old new (accepted bytes (attempt_of a) links) links Packet (record a { gathering = g })
unfolding accepted
did_accept acted old new bytes a g links e k = record {
  acts = k;
  stands = ap (λ b. packet (let p : Accepted = record { packet = b; server = get_or a.asked.servers a.course.place no_address; place = a.course.place } in p)) e;
  links = refl;
}

pub did_refuse : {W : Type 0} (acted : W → List Action → W → Type 0) (old new : W) (a : CodeAttempt) (links : ℕ)
    → acted old (link_close a.link.number ∷ []) new → Did acted old new (ends no_port (attempt_of a) links) links NoPort a
did_refuse acted old new a links k = record { acts = k; stands = refl; links = refl }

pub did_write : {W : Type 0} (acted : W → List Action → W → Type 0) (old new : W) (a : CodeAttempt) (bytes : List ℕ) (links : ℕ)
    → (is_stream a.course.round && not a.is_up) ≡ true → bytes ≡ framed (query_of (attempt_of a))
    → acted old (link_write a.link.number bytes ∷ []) new → Did acted old new (after_link_up (attempt_of a) links) links Waiting (record a { is_up = true })
did_write acted old new a bytes links h e k =
    did_as (up_written (attempt_of a) links h) (record { acts = subst (λ b. acted old (link_write a.link.number b ∷ []) new) e k; stands = refl; links = refl })
