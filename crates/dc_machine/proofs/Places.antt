-- Frames keep sixteen places of four octets, row by row.
use Rattle.std.proofs.Common.{◌≡◌, ℕ, zero, suc, ◌+◌, Bool, true, false, cond, ◌&&◌, ◌||◌, List, [], ◌∷◌, map, filter, find, length, drop, Option, Some, None, option_map, option_and_then, refl, sym, subst, arith, eqb, leb}
use Rattle.std.specs.List.{AllByRecursion}
use Rattle.std.specs.Option.{option_or}
use Rattle.std.proofs.lemmas.Bool.Decides.{nat_tests}
use Rattle.std.proofs.lemmas.List.{length-take, length-drop}
use Rattle.dc_model.specs.Name.{Name, suffixes, same, under, reverse_name, address_name, octets_of, if_four}
use Rattle.dc_model.specs.Message.{kind_a, kind_cname, kind_any, kind_axfr, Body, bytes, host, mx, soa, form_bytes, form_of, class_in, Record, Message, message_of, is_in, in_records, bytes_at, has_bytes, IsFormed, IsWellFormed}
use Rattle.dc_model.specs.Event.{Action}
use Rattle.dc_model.specs.Cache.{Hit}
use Rattle.dc_model.specs.Places.{ArePlaces, all_empty}
use Rattle.dc_model.specs.Rules.{Rule, Zone, is_named}
use Rattle.dc_model.specs.Reply.{Reply, fits}
use Rattle.dc_model.specs.Transmission.{Accepted}
use Rattle.dc_model.specs.Bodies.{item_at, items_by, items_from, items_of}
use Rattle.dc_model.specs.Marks.{is_wanted, is_answer, answers_of, Marks, Class, lame, renames, no_name, answers, refers}
use Rattle.dc_model.proofs.PartLemmas.{leb_least}
use Rattle.dc_model.proofs.PlaceLemmas.{AllAddresses, empty_ArePlaces, add_address-ArePlaces, emptied-ArePlaces, shuffled-ArePlaces}
use Rattle.dc_model.proofs.FormLemmas.{message_of-formed}
use Rattle.dc_machine.specs.Query.{Frame, Alias, Query, frame_for, top, below, top_of, name_of, is_lowest, wanted_of, with_address, with_addresses}
use Rattle.dc_machine.specs.Turn.{Setting, State, Point, at_begin, at_look, at_next, at_down, at_heard, at_failed, at_no_port, at_servfail, at_nxdomain, at_alias, Following, go, end, Row, row, reply_row, begin_row, look_row, rules_row, built_in, built_in_by, loopback, loopback_row, missing_row, missing_by, cname_row, cname_by, known_row, known_by, known_at, first_known, if_telling, kinds_known, Known, known, items, bytes_of, other_row, other_by, zone_row, chosen_row, Choice, next_row, next_by, ask_row, down_row, servfail_row, nxdomain_row, alias_row, failed_row, heard_row, heard_addresses, message_row, marked_row, kept_row, class_row, told_row, answers_row, refers_row, is_last_turn, one_more, cached_choice, choice_by, choice_or, choice_of, uses_cached, is_other, state_after, Turned, onward, rows, turn, localhost}
use Rattle.dc_machine.specs.Kept.{HavePlaces, ZonesHavePlaces}

-- A row leaves such frames.
abbrev Placed : Row → Type 0
Placed r = HavePlaces r.query.frames

placed_cond : (b : Bool) (r r' : Row) → (b ≡ true → Placed r) → (b ≡ false → Placed r') → Placed (cond b r r')
placed_cond true r r' f g = f refl
placed_cond false r r' f g = g refl

reply_placed : (r : Reply) (as' : List Action) (s : State) → HavePlaces s.query.frames → Placed (reply_row r as' s)
unfolding reply_row
reply_placed r as' s h = placed_cond (fits r) _ _ (λ _. h) (λ _. h)

top_placed : (fs : List Frame) → HavePlaces fs → ArePlaces (top fs).places
unfolding HavePlaces top
top_placed [] h = empty_ArePlaces
top_placed (f ∷ fs) h = h.0

below_placed : (fs : List Frame) → HavePlaces fs → HavePlaces (below fs)
unfolding HavePlaces below
below_placed [] h = tt
below_placed (f ∷ fs) h = h.1

front_placed : (f : Frame) (fs : List Frame) → ArePlaces f.places → HavePlaces fs → HavePlaces (f ∷ fs)
unfolding HavePlaces
front_placed f fs p h = (p, h)

with_placed : (fs : List Frame) (f : Frame) → ArePlaces f.places → HavePlaces fs → HavePlaces (f ∷ below fs)
with_placed fs f p h = front_placed f (below fs) p (below_placed fs h)

address_placed : (q : Query) (a : List ℕ) → length a ≡ 4 → HavePlaces q.frames → HavePlaces (with_address q a).frames
address_placed q a l h =
    let b = below_placed q.frames h in
    front_placed _ _ (top_placed q.frames h) (front_placed _ _ (add_address-ArePlaces a (top (below q.frames)).places l (top_placed (below q.frames) b)) (below_placed (below q.frames) b))

addresses_placed : (as' : List (List ℕ)) (q : Query) → AllAddresses as' → HavePlaces q.frames → HavePlaces (with_addresses q as').frames
unfolding with_addresses
addresses_placed [] q l h = h
addresses_placed (a ∷ as') q l h = addresses_placed as' (with_address q a) l.1 (address_placed q a l.0 h)

-- Addresses have four octets: those of names,

unfoldable IsFour : Option (List ℕ) → Type 0
IsFour None = Unit {0}
IsFour (Some a) = length a ≡ 4

four_by : (ns : List ℕ) (b : Bool) → eqb (length ns) 4 ≡ b → IsFour (cond b (Some ns) None)
unfolding IsFour
four_by ns true e = grind (arith, nat_tests)
four_by ns false e = tt

name_four : (o : Option (List ℕ)) → IsFour (option_and_then if_four o)
unfolding IsFour
name_four None = tt
name_four (Some ns) = four_by ns (eqb (length ns) 4) refl

built_by : (b : Bool) (o : Option (List ℕ)) → IsFour o → IsFour (cond b (Some loopback) o)
unfolding IsFour
built_by true o h = refl
built_by false o h = h

built_four : (name : Name) → IsFour (built_in name)
unfolding built_in
built_four name = built_by (same name localhost) (address_name name) (name_four (octets_of name))

some_four : (a : List ℕ) → IsFour (Some a) → length a ≡ 4
unfolding IsFour
some_four a h = h

-- those of cached A entries,

piece_four : (b : List ℕ) (i : ℕ) (v : Bool) → has_bytes b i 4 ≡ v → (further : ℕ → List Body) → ((at : ℕ) → AllAddresses (map bytes_of (further at))) →
    AllAddresses (map bytes_of (items_by (cond v (Some (record { item = bytes (bytes_at b i 4); after = i + 4 })) None) further))
piece_four b i true e further h =
    let room = leb_least (i + 4) (length b) e in
    let t = length-take 4 (drop i b) in
    let d = length-drop i b in
    (omega (arith, t, d, room), h (i + 4))
piece_four b i false e further h = tt

items_four : (n : ℕ) (rule : Rule) (b : List ℕ) (i : ℕ) → AllAddresses (map bytes_of (items_from n rule kind_a b i))
unfolding items_from item_at
items_four zero rule b i = tt
items_four (suc n) rule b i = piece_four b i (has_bytes b i 4) refl _ (λ at. items_four n rule b at)

cached_four : (g : Setting) (h : Hit) → AllAddresses (map bytes_of (items g kind_a h))
unfolding items_of
cached_four g h = items_four (length h.body) g.zones.rule h.body 0

-- where the entry that was found is one, as an address is wanted,

unfoldable IsKnown : ℕ → Option Known → Type 0
IsKnown wanted None = Unit {0}
IsKnown wanted (Some k) = is_wanted wanted k.kind ≡ true

telling_known : (wanted kind : ℕ) (o : Option Hit) → is_wanted wanted kind ≡ true → IsKnown wanted (if_telling wanted kind o)
unfolding IsKnown
telling_known wanted kind None e = tt
telling_known wanted kind (Some h) e = by_test (eqb (length h.body) 0 && eqb wanted kind_any)
  where
    by_test : (v : Bool) → IsKnown wanted (cond v None (Some (record { kind = kind; hit = h })))
    by_test true = tt
    by_test false = e

known_if : (wanted : ℕ) (v : Bool) (o : Option Known) → (v ≡ true → IsKnown wanted o) → IsKnown wanted (cond v o None)
unfolding IsKnown
known_if wanted true o f = f refl
known_if wanted false o f = tt

known_or : (wanted : ℕ) (o o' : Option Known) → IsKnown wanted o → IsKnown wanted o' → IsKnown wanted (option_or o o')
known_or wanted None o' h k = k
known_or wanted (Some x) o' h k = h

first_is_known : (g : Setting) (s : State) (kinds : List ℕ) → IsKnown (wanted_of s.query) (first_known g s kinds)
unfolding IsKnown first_known known_at
first_is_known g s [] = tt
first_is_known g s (kind ∷ kinds) = known_or (wanted_of s.query) _ _
    (known_if (wanted_of s.query) (is_wanted (wanted_of s.query) kind) _ (λ e. telling_known (wanted_of s.query) kind (known g s kind (name_of s.query)) e))
    (first_is_known g s kinds)

address_kind : (kind : ℕ) → is_wanted kind_a kind ≡ true → kind ≡ kind_a
address_kind kind e = by_test (eqb kind kind_a) refl e where
  by_test : (v : Bool) → eqb kind kind_a ≡ v → (v || false) ≡ true → kind ≡ kind_a
  by_test true e k = grind (arith, nat_tests)
  by_test false e k = absurd (cc)

-- and those of A records in a packet.

filter_both : {X : Type 0} (P : X → Type 0) (test : X → Bool) (xs : List X) → AllByRecursion P xs → AllByRecursion (λ x. P x × (test x ≡ true)) (filter test xs)
filter_both P test [] h = tt
filter_both P test (x ∷ xs) h = by_test (test x) refl (filter_both P test xs h.1) where
  by_test : (v : Bool) → test x ≡ v → AllByRecursion (λ y. P y × (test y ≡ true)) (filter test xs) → AllByRecursion (λ y. P y × (test y ≡ true)) (cond v (x ∷ filter test xs) (filter test xs))
  by_test true e k = ((h.0, e), k)
  by_test false e k = k

map_each : {X Y : Type 0} (P : X → Type 0) (Q : Y → Type 0) (f : X → Y) (xs : List X) → ((x : X) → P x → Q (f x)) → AllByRecursion P xs → AllByRecursion Q (map f xs)
map_each P Q f [] k h = tt
map_each P Q f (x ∷ xs) k h = (k x h.0, map_each P Q f xs k h.1)

formed_bytes : (n : ℕ) (b : Body) → IsFormed form_bytes n b → length (bytes_of b) ≡ n
formed_bytes n (bytes bs) h = h
formed_bytes n (host m) h = absurd h
formed_bytes n (mx preference m) h = absurd h
formed_bytes n (soa primary mailbox numbers) h = absurd h

both_true : (a b : Bool) → (a && b) ≡ true → (a ≡ true) × (b ≡ true)
both_true true b h = (refl, h)
both_true false b h = absurd (cc)

eqb_is : (m n : ℕ) → eqb m n ≡ true → m ≡ n
eqb_is m n h = grind (arith, nat_tests)

record_four : (r : Record) → IsWellFormed r → is_in r ≡ true → (eqb r.kind kind_a && eqb r.len 4) ≡ true → length (bytes_of r.body) ≡ 4
record_four r w c t =
    let k = both_true (eqb r.kind kind_a) (eqb r.len 4) t in
    let form : form_of r.kind r.class ≡ form_bytes = rw (eqb_is r.kind kind_a k.0, eqb_is r.class class_in c) refl in
    let l = formed_bytes r.len r.body (subst (λ f. IsFormed f r.len r.body) form w) in
    rw l (eqb_is r.len 4 k.1)

heard_four : (q : Query) (m : Message) → AllByRecursion (λ r. IsWellFormed r) m.records → AllAddresses (heard_addresses q m)
unfolding answers_of
heard_four q m h =
    let ins = filter_both (λ (r : Record). IsWellFormed r) is_in m.records h in
    let own = filter_both (λ (r : Record). IsWellFormed r × (is_in r ≡ true)) (λ r. is_answer r.section && same r.owner (name_of q)) (in_records m) ins in
    let four = filter_both (λ (r : Record). (IsWellFormed r × (is_in r ≡ true)) × ((is_answer r.section && same r.owner (name_of q)) ≡ true)) (λ r. eqb r.kind kind_a && eqb r.len 4) (filter (λ r. is_answer r.section && same r.owner (name_of q)) (in_records m)) own in
    map_each (λ (r : Record). ((IsWellFormed r × (is_in r ≡ true)) × ((is_answer r.section && same r.owner (name_of q)) ≡ true)) × ((eqb r.kind kind_a && eqb r.len 4) ≡ true)) (λ a. length a ≡ 4) (λ r. bytes_of r.body) _
    (λ r k. record_four r k.0.0.0 k.0.0.1 k.1) four

-- The places of a zone that is chosen

unfoldable IsPlaces : Option (List (List ℕ)) → Type 0
IsPlaces None = Unit {0}
IsPlaces (Some places) = ArePlaces places

zones_places : (zones : List Zone) (n : Name) → AllByRecursion (λ (z : Zone). ArePlaces z.places) zones → IsPlaces (option_map (λ (z : Zone). z.places) (find (is_named n) zones))
unfolding IsPlaces
zones_places [] n h = tt
zones_places (z ∷ zones) n h = by_test (is_named n z) (zones_places zones n h.1) where
  by_test : (v : Bool) → IsPlaces (option_map (λ (y : Zone). y.places) (find (is_named n) zones)) → IsPlaces (option_map (λ (y : Zone). y.places) (cond v (Some z) (find (is_named n) zones)))
  by_test true k = h.0
  by_test false k = k

unfoldable IsChoice : Option Choice → Type 0
IsChoice None = Unit {0}
IsChoice (Some c) = ArePlaces c.places

choice_if : (b : Bool) (o o' : Option Choice) → IsChoice o → IsChoice o' → IsChoice (cond b o o')
choice_if true o o' h k = h
choice_if false o o' h k = k

none_choice : IsChoice None
unfolding IsChoice
none_choice = tt

some_choice : (c : Choice) → ArePlaces c.places → IsChoice (Some c)
unfolding IsChoice
some_choice c p = p

cached_placed : (g : Setting) (zone : Name) (o : Option Hit) → IsChoice (cached_choice g zone o)
unfolding cached_choice
cached_placed g zone None = none_choice
cached_placed g zone (Some h) = choice_if (eqb (length h.body) 0) None _ none_choice (some_choice _ empty_ArePlaces)

choice_placed-by : (o : Option (List (List ℕ))) (g : Setting) (s : State) (zone : Name) → IsPlaces o → IsChoice (choice_by o g s zone)
unfolding choice_by IsPlaces
choice_placed-by (Some places) g s zone h = some_choice _ h
choice_placed-by None g s zone h = choice_if (uses_cached g s.query zone) _ None (cached_placed g zone _) none_choice

choice_placed-or : (o : Option Choice) (c : Choice) → IsChoice o → ArePlaces c.places → ArePlaces (choice_or o c).places
unfolding IsChoice
choice_placed-or None c h k = k
choice_placed-or (Some d) c h k = h

choice_placed : (g : Setting) (s : State) (zones : List Name) → ZonesHavePlaces g.zones → ArePlaces (choice_of g s zones).places
unfolding choice_of
choice_placed g s [] z = empty_ArePlaces
choice_placed g s (zone ∷ zones) z = choice_placed-or _ _ (choice_placed-by _ g s zone (zones_places g.zones.configured zone z)) (choice_placed g s zones z)

-- Look

zone_placed : (g : Setting) (s : State) → ZonesHavePlaces g.zones → HavePlaces s.query.frames → Placed (zone_row g s)
unfolding zone_row chosen_row
zone_placed g s z h = with_placed s.query.frames _ (choice_placed g s (suffixes (name_of s.query)) z) h

other_placed-by : (o : Option Hit) (g : Setting) (s : State) → ZonesHavePlaces g.zones → HavePlaces s.query.frames → Placed (other_by o g s)
unfolding other_by
other_placed-by None g s z h = zone_placed g s z h
other_placed-by (Some x) g s z h = reply_placed _ _ s h

other_placed : (g : Setting) (s : State) → ZonesHavePlaces g.zones → HavePlaces s.query.frames → Placed (other_row g s)
unfolding other_row
other_placed g s z h = placed_cond (is_other g.zones.rule (wanted_of s.query)) _ _ (λ _. other_placed-by _ g s z h) (λ _. zone_placed g s z h)

wanted_above : (q : Query) → is_lowest q ≡ false → wanted_of q ≡ kind_a
wanted_above q e = rw e refl

known_four : (g : Setting) (s : State) (k : Known) → is_lowest s.query ≡ false → IsKnown (wanted_of s.query) (Some k) → AllAddresses (map bytes_of (items g k.kind k.hit))
unfolding IsKnown
known_four g s k e h =
    let w : is_wanted kind_a k.kind ≡ true = subst (λ n. is_wanted n k.kind ≡ true) (wanted_above s.query e) h in
    subst (λ n. AllAddresses (map bytes_of (items g n k.hit))) (sym (address_kind k.kind w)) (cached_four g k.hit)

known_placed-by : (o : Option Known) (g : Setting) (s : State) → IsKnown (wanted_of s.query) o → ZonesHavePlaces g.zones → HavePlaces s.query.frames → Placed (known_by o g s)
unfolding known_by
known_placed-by None g s k z h = other_placed g s z h
known_placed-by (Some x) g s k z h = placed_cond (is_lowest s.query) _ _ (λ _. reply_placed _ _ s h)
    (λ e. addresses_placed (map bytes_of (items g x.kind x.hit)) s.query (known_four g s x e k) h)

known_placed : (g : Setting) (s : State) → ZonesHavePlaces g.zones → HavePlaces s.query.frames → Placed (known_row g s)
unfolding known_row
known_placed g s z h = known_placed-by _ g s (first_is_known g s (kinds_known g.zones.rule)) z h

cname_placed : (o : Option Alias) (g : Setting) (s : State) → ZonesHavePlaces g.zones → HavePlaces s.query.frames → Placed (cname_by o g s)
unfolding cname_by
cname_placed None g s z h = known_placed g s z h
cname_placed (Some a) g s z h = placed_cond (is_wanted (wanted_of s.query) kind_cname) _ _ (λ _. reply_placed _ _ s h) (λ _. h)

missing_placed : (o : Option Hit) (g : Setting) (s : State) → ZonesHavePlaces g.zones → HavePlaces s.query.frames → Placed (missing_by o g s)
unfolding missing_by cname_row
missing_placed None g s z h = cname_placed _ g s z h
missing_placed (Some x) g s z h = h

loopback_placed : (g : Setting) (s : State) → ZonesHavePlaces g.zones → HavePlaces s.query.frames → Placed (loopback_row g s)
unfolding loopback_row missing_row
loopback_placed g s z h = placed_cond (same (name_of s.query) (reverse_name loopback)) _ _
    (λ _. placed_cond (is_lowest s.query) _ _ (λ _. reply_placed _ _ s h) (λ _. h))
    (λ _. missing_placed _ g s z h)

rules_placed : (o : Option (List ℕ)) (g : Setting) (s : State) → IsFour o → ZonesHavePlaces g.zones → HavePlaces s.query.frames → Placed (built_in_by o g s)
unfolding built_in_by
rules_placed None g s f z h = loopback_placed g s z h
rules_placed (Some a) g s f z h = placed_cond (is_lowest s.query) _ _ (λ _. reply_placed _ _ s h) (λ _. address_placed s.query a (some_four a f) h)

look_placed : (g : Setting) (s : State) → ZonesHavePlaces g.zones → HavePlaces s.query.frames → Placed (look_row g s)
unfolding look_row rules_row
look_placed g s z h = placed_cond (is_last_turn s) _ _ (λ _. h) (λ _. rules_placed _ g (one_more s) (built_four (name_of s.query)) z h)

-- Next, Alias

next_placed : (hs : List Name) (g : Setting) (s : State) → HavePlaces s.query.frames → Placed (next_by hs g s)
unfolding next_by ask_row
next_placed [] g s h = placed_cond (all_empty (top_of s.query).places) _ _ (λ _. h)
    (λ _. with_placed s.query.frames _ (shuffled-ArePlaces g.draws (top s.query.frames).places (top_placed s.query.frames h)) h)
next_placed (name ∷ hosts) g s h =
    let w = with_placed s.query.frames (record (top s.query.frames) { hosts = hosts }) (top_placed s.query.frames h) h in
    placed_cond (leb 5 (length s.query.frames)) _ _ (λ _. w) (λ _. front_placed (frame_for name) _ empty_ArePlaces w)

alias_placed : (target : Name) (ttl : ℕ) (s : State) → HavePlaces s.query.frames → Placed (alias_row target ttl s)
unfolding alias_row
alias_placed target ttl s h =
    let w = with_placed s.query.frames (record (top s.query.frames) { name = target }) (top_placed s.query.frames h) h in
    placed_cond (is_lowest s.query) _ _ (λ _. placed_cond (leb 16 (length s.query.aliases)) _ _ (λ _. h) (λ _. w)) (λ _. w)

-- Heard

answers_placed : (m : Message) (s : State) → AllByRecursion (λ r. IsWellFormed r) m.records → HavePlaces s.query.frames → Placed (answers_row m s)
unfolding answers_row
answers_placed m s f h = placed_cond (is_lowest s.query) _ _ (λ _. reply_placed _ _ s h) (λ _. addresses_placed (heard_addresses s.query m) s.query (heard_four s.query m f) h)

refers_placed : (zone : Name) (m : Message) (s : State) → HavePlaces s.query.frames → Placed (refers_row zone m s)
unfolding refers_row
refers_placed zone m s h = placed_cond (under (name_of s.query) zone) _ _ (λ _. with_placed s.query.frames _ empty_ArePlaces h) (λ _. h)

class_placed : (c : Class) (x : Marks) (m : Message) (a : Accepted) (g : Setting) (s : State) → AllByRecursion (λ r. IsWellFormed r) m.records → HavePlaces s.query.frames → Placed (class_row c x m a g s)
unfolding class_row told_row
class_placed (lame zone) x m a g s f h = with_placed s.query.frames _ (emptied-ArePlaces a.place (top s.query.frames).places (top_placed s.query.frames h)) h
class_placed (renames r) x m a g s f h = h
class_placed no_name x m a g s f h = h
class_placed answers x m a g s f h = answers_placed m s f h
class_placed (refers zone) x m a g s f h = refers_placed zone m s h

message_placed : (o : Option Message) (a : Accepted) (g : Setting) (s : State) → ((m : Message) → o ≡ Some m → AllByRecursion (λ r. IsWellFormed r) m.records) → HavePlaces s.query.frames → Placed (message_row o a g s)
unfolding message_row marked_row kept_row
message_placed None a g s f h = h
message_placed (Some m) a g s f h = class_placed _ _ m a g (record s { cache = _ }) (f m refl) h

heard_placed : (a : Accepted) (g : Setting) (s : State) → HavePlaces s.query.frames → Placed (heard_row a g s)
unfolding heard_row
heard_placed a g s h = placed_cond (is_last_turn s) _ _ (λ _. h) (λ _. message_placed (message_of a.packet) a g (one_more s) (λ m e. message_of-formed a.packet m e) h)

-- The table

begin_placed : (s : State) → HavePlaces s.query.frames → Placed (begin_row s)
unfolding begin_row HavePlaces
begin_placed s h = placed_cond (eqb s.query.request.kind kind_axfr) _ _ (λ _. h) (λ _. (empty_ArePlaces, tt))

servfail_placed : (s : State) → HavePlaces s.query.frames → Placed (servfail_row s)
unfolding servfail_row
servfail_placed s h = placed_cond (is_lowest s.query) _ _ (λ _. reply_placed _ _ s h) (λ _. h)

nxdomain_placed : (s : State) → HavePlaces s.query.frames → Placed (nxdomain_row s)
unfolding nxdomain_row
nxdomain_placed s h = placed_cond (is_lowest s.query) _ _ (λ _. reply_placed _ _ s h) (λ _. h)

row_placed : (g : Setting) (p : Point) (s : State) → ZonesHavePlaces g.zones → HavePlaces s.query.frames → Placed (row g p s)
unfolding row next_row down_row failed_row
row_placed g at_begin s z h = begin_placed s h
row_placed g at_look s z h = look_placed g s z h
row_placed g at_next s z h = next_placed _ g s h
row_placed g at_down s z h = below_placed s.query.frames h
row_placed g (at_heard a) s z h = heard_placed a g s h
row_placed g at_failed s z h = h
row_placed g at_no_port s z h = h
row_placed g at_servfail s z h = servfail_placed s h
row_placed g at_nxdomain s z h = nxdomain_placed s h
row_placed g (at_alias target ttl) s z h = alias_placed target ttl s h

onward_placed : (f : Following) (r : Row) (s : State) (further : Point → State → Turned) → ((p : Point) (t : State) → HavePlaces t.query.frames → HavePlaces (further p t).state.query.frames) →
    HavePlaces s.query.frames → HavePlaces (onward f r s further).state.query.frames
unfolding onward
onward_placed (go p) r s further more h = more p s h
onward_placed (end o) r s further more h = h

rows_placed : (g : Setting) (n : ℕ) (p : Point) (s : State) → ZonesHavePlaces g.zones → HavePlaces s.query.frames → HavePlaces (rows g n p s).state.query.frames
unfolding rows state_after
rows_placed g zero p s z h = h
rows_placed g (suc n) p s z h = onward_placed (row g p s).following (row g p s) (state_after g s (row g p s)) (rows g n) (λ q t k. rows_placed g n q t z k) (row_placed g p s z h)

pub turn_placed : (g : Setting) (p : Point) (s : State) → ZonesHavePlaces g.zones → HavePlaces s.query.frames → HavePlaces (turn g p s).state.query.frames
unfolding turn
turn_placed g p s z h = rows_placed g 4000 p s z h
