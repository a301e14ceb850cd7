-- The rows of a look, case by case.
use Rattle.std.proofs.Common.{◌≡◌, ℕ, List, [], ◌∷◌, ◌<◌, ◌≤◌, length, true, false, Bool, cond, map, Option, Some, None, option_map, ◌&&◌, ◌==◌, refl, ap, sym, ◌∙◌, arith}
use Rattle.std.specs.Option.{option_or}
use Rattle.std.proofs.lemmas.Bool.Decides.{nat_tests}
use Rattle.dc_model.specs.Name.{same, reverse_name, suffixes}
use Rattle.dc_model.specs.Message.{kind_a, kind_ptr, kind_cname, kind_any, Body, bytes, host}
use Rattle.dc_model.specs.Event.{second, line}
use Rattle.dc_model.specs.Line.{turns, line_cached, line_cached_cname, line_cached_nxdomain}
use Rattle.dc_model.specs.Cache.{Cache, Hit, get}
use Rattle.dc_model.specs.Puts.{key_of}
use Rattle.dc_model.specs.Bodies.{items_of}
use Rattle.dc_model.specs.Marks.{is_wanted}
use Rattle.dc_model.specs.Rules.{Rule, one, two}
use Rattle.dc_machine.specs.Query.{Query, Alias, name_of, is_lowest, wanted_of, with_address, with_addresses, with_zone}
use Rattle.dc_machine.specs.Turn.{Setting, State, goes, ends, dropped, reply_row, reply_of, if_wanted, answer_of, cached_answers, items, known, at_down, at_next, at_nxdomain, at_alias, is_last_turn, one_more, look_row, rules_row, built_in, built_in_by, loopback, localhost, loopback_row, missing_row, missing_by, cname_row, cname_by, target_by, Known, if_telling, known_at, first_known, kinds_known, known_row, known_by, bytes_of, is_other, other_row, other_by, Choice, zone_row, chosen_row, choice_of}
use Rattle.dc_frames.specs.View.{query_of}
use Rattle.dc_frames.specs.declared.query.Query as frames
use Rattle.dc_desk.specs.View.{setting_of, setting_at, at}
use Rattle.dc_desk.specs.declared.desk.Desk.{Desk}
use Rattle.dc_desk.specs.declared.moment.Moment.{Moment}
use Rattle.dc_look.specs.Rows.{loopback_here}

-- The last turn

pub look-last : (g : Setting) (s : State) (q : Query) → q ≡ (one_more s).query → 100 ≤ q.turns → look_row g s ≡ ends q [] (dropped turns)
unfolding look_row
look-last g s q e h =
    let l : is_last_turn s ≡ true = grind (arith, nat_tests, ap (λ (x : Query). x.turns) e) in
    rw (l, e) refl

pub look-on : (g : Setting) (s s' : State) → s' ≡ one_more s → s'.query.turns < 100 → look_row g s ≡ rules_row g s'
unfolding look_row
look-on g s s' e h =
    let l : is_last_turn s ≡ false = grind (arith, nat_tests, ap (λ (x : State). x.query.turns) e) in
    rw (l, e) refl

-- What is built in

pub rules-by : (o : Option (List ℕ)) (g : Setting) (s : State) → o ≡ built_in (name_of s.query) → rules_row g s ≡ built_in_by o g s
unfolding rules_row
rules-by o g s e = rw e refl

pub rules-none : (g : Setting) (s : State) → None ≡ built_in (name_of s.query) → rules_row g s ≡ loopback_row g s
unfolding rules_row built_in_by
rules-none g s e = ap (λ o. built_in_by o g s) (sym e)

pub address-above : (a : List ℕ) (g : Setting) (s : State) (q : Query) → is_lowest s.query ≡ false → q ≡ with_address s.query a → built_in_by (Some a) g s ≡ goes q [] at_down
unfolding built_in_by
address-above a g s q e k = rw (e, k) refl

pub address-lowest : (a : List ℕ) (g : Setting) (s : State) → is_lowest s.query ≡ true →
    built_in_by (Some a) g s ≡ reply_row (reply_of s.query (if_wanted s.query kind_a (answer_of s.query kind_a 655360 (bytes a) ∷ []))) [] s
unfolding built_in_by
address-lowest a g s e = rw e refl

pub host-above : (g : Setting) (s : State) → is_lowest s.query ≡ false → loopback_here g s ≡ goes s.query [] at_down
unfolding loopback_here
host-above g s e = rw e refl

pub host-lowest : (g : Setting) (s : State) → is_lowest s.query ≡ true →
    loopback_here g s ≡ reply_row (reply_of s.query (if_wanted s.query kind_ptr (answer_of s.query kind_ptr 655360 (host localhost) ∷ []))) [] s
unfolding loopback_here
host-lowest g s e = rw e refl

pub loopback-here : (g : Setting) (s : State) → same (name_of s.query) (reverse_name loopback) ≡ true → loopback_row g s ≡ loopback_here g s
unfolding loopback_row loopback_here
loopback-here g s e = rw e refl

pub loopback-not : (g : Setting) (s : State) → same (name_of s.query) (reverse_name loopback) ≡ false → loopback_row g s ≡ missing_row g s
unfolding loopback_row
loopback-not g s e = rw e refl

-- What the cache knows of the name

pub known-is : {S : Type 0} (cache : S → Cache) (q : frames.Query) (d : Desk S) (m : Moment) (kind now : ℕ) (o : Option Hit) → now ≡ second m.time →
    o ≡ get (key_of kind (name_of (query_of q))) now (cache d.store) → known (setting_at d m) (at cache q d) kind (name_of (query_of q)) ≡ o
unfolding setting_of
known-is cache q d m kind now o e h = sym (rw (← e) h)

pub second-is : {S : Type 0} (d : Desk S) (m : Moment) (now : ℕ) → now ≡ second m.time → second (setting_at d m).now ≡ now
unfolding setting_of
second-is d m now e = sym e

pub first-is : {S : Type 0} (cache : S → Cache) (q : frames.Query) (d : Desk S) (m : Moment) (rule : Rule) (kinds : List ℕ) (o : Option Known) →
    rule ≡ d.zones.rule → kinds ≡ kinds_known rule → o ≡ first_known (setting_at d m) (at cache q d) kinds →
    first_known (setting_at d m) (at cache q d) (kinds_known (setting_at d m).zones.rule) ≡ o
unfolding setting_of
first-is cache q d m rule kinds o e k h = ap (first_known (setting_at d m) (at cache q d)) (sym (k ∙ ap kinds_known e)) ∙ sym h

-- The items of a cached entry.
pub items-are : {S : Type 0} (d : Desk S) (m : Moment) (rule : Rule) (kind ttl : ℕ) (body : List ℕ) (xs : List Body) → rule ≡ d.zones.rule → xs ≡ items_of rule kind body →
    xs ≡ items (setting_at d m) kind (record { body = body; ttl = ttl })
unfolding setting_of
items-are d m rule kind ttl body xs e h = h ∙ ap (λ r. items_of r kind body) e

pub missing-here : (g : Setting) (s : State) (h : Hit) → known g s kind_any (name_of s.query) ≡ Some h →
    missing_row g s ≡ goes s.query (line (line_cached_nxdomain (name_of s.query)) ∷ []) at_nxdomain
unfolding missing_row missing_by
missing-here g s h e = ap (λ o. missing_by o g s) e

pub missing-not : (g : Setting) (s : State) → known g s kind_any (name_of s.query) ≡ None → missing_row g s ≡ cname_row g s
unfolding missing_row missing_by
missing-not g s e = ap (λ o. missing_by o g s) e

pub cname-by : (g : Setting) (s : State) (o : Option Alias) → target_by (known g s kind_cname (name_of s.query)) ≡ o → cname_row g s ≡ cname_by o g s
unfolding cname_row
cname-by g s o e = ap (λ x. cname_by x g s) e

pub cname-none : (g : Setting) (s : State) → target_by (known g s kind_cname (name_of s.query)) ≡ None → cname_row g s ≡ known_row g s
unfolding cname_row cname_by
cname-none g s e = ap (λ x. cname_by x g s) e

pub cname-wanted : (g : Setting) (s : State) (a : Alias) → is_wanted (wanted_of s.query) kind_cname ≡ true →
    cname_by (Some a) g s ≡ reply_row (reply_of s.query (answer_of s.query kind_cname a.ttl (host a.name) ∷ [])) (line (line_cached kind_cname (name_of s.query)) ∷ []) s
unfolding cname_by
cname-wanted g s a e = rw e refl

pub cname-leads : (g : Setting) (s : State) (a : Alias) → is_wanted (wanted_of s.query) kind_cname ≡ false →
    cname_by (Some a) g s ≡ goes s.query (line (line_cached_cname (name_of s.query) a.name) ∷ []) (at_alias a.name a.ttl)
unfolding cname_by
cname-leads g s a e = rw e refl

-- Records of the types that are tried

pub known-none : (g : Setting) (s : State) → first_known g s (kinds_known g.zones.rule) ≡ None → known_row g s ≡ other_row g s
unfolding known_row known_by
known-none g s e = ap (λ x. known_by x g s) e

pub known-answers : (g : Setting) (s : State) (k : Known) → first_known g s (kinds_known g.zones.rule) ≡ Some k → is_lowest s.query ≡ true →
    known_row g s ≡ reply_row (reply_of s.query (cached_answers g s.query k.kind k.hit)) (line (line_cached k.kind (name_of s.query)) ∷ []) s
unfolding known_row known_by
known-answers g s k e l = ap (λ x. known_by x g s) e ∙ rw l refl

-- Above level 0 only addresses are wanted.
pub wanted-above : (q : Query) → is_lowest q ≡ false → wanted_of q ≡ kind_a
wanted-above q e = rw e refl

-- An entry of type A.
unfoldable address_known : Hit → Known
address_known h = record { kind = kind_a; hit = h }

and-false : (b : Bool) (k k' : Option Known) → cond (b && false) k k' ≡ k'
and-false true k k' = refl
and-false false k k' = refl

telling-address : (o : Option Hit) → if_telling kind_a kind_a o ≡ option_map address_known o
unfolding address_known
telling-address None = refl
telling-address (Some h) = and-false (length h.body == 0) None (Some (address_known h))

known-address : (g : Setting) (s : State) (o : Option Hit) → wanted_of s.query ≡ kind_a → known g s kind_a (name_of s.query) ≡ o → known_at g s kind_a ≡ option_map address_known o
unfolding known_at
known-address g s o w e = rw (w, e) (telling-address o)

known-unwanted : (g : Setting) (s : State) (kind : ℕ) → is_wanted (wanted_of s.query) kind ≡ false → known_at g s kind ≡ None
unfolding known_at
known-unwanted g s kind e = rw e refl

unwanted-above : (q : Query) (kind : ℕ) → wanted_of q ≡ kind_a → is_wanted kind_a kind ≡ false → is_wanted (wanted_of q) kind ≡ false
unwanted-above q kind w e = rw w e

or-none : (o : Option Known) → option_or o None ≡ o
or-none None = refl
or-none (Some k) = refl

first-above : (rule : Rule) (g : Setting) (s : State) (o : Option Hit) → wanted_of s.query ≡ kind_a → known g s kind_a (name_of s.query) ≡ o →
    first_known g s (kinds_known rule) ≡ option_map address_known o
unfolding first_known
first-above one g s o w e =
    rw (
      known-unwanted g s 2 (unwanted-above s.query 2 w refl),
      known-unwanted g s 12 (unwanted-above s.query 12 w refl),
      known-unwanted g s 15 (unwanted-above s.query 15 w refl),
      known-address g s o w e,
    ) (or-none (option_map address_known o))
first-above two g s o w e =
    rw (
      known-unwanted g s 2 (unwanted-above s.query 2 w refl),
      known-unwanted g s 12 (unwanted-above s.query 12 w refl),
      known-unwanted g s 15 (unwanted-above s.query 15 w refl),
      known-unwanted g s 6 (unwanted-above s.query 6 w refl),
      known-address g s o w e,
    )
    (or-none (option_map address_known o))

map-bytes : (xs : List (List ℕ)) → map bytes_of (map bytes xs) ≡ xs
map-bytes [] = refl
map-bytes (x ∷ xs) = ap (λ ys. x ∷ ys) (map-bytes xs)

pub known-gives : (g : Setting) (s : State) (h : Hit) (addresses : List (List ℕ)) (q : Query) → is_lowest s.query ≡ false → known g s kind_a (name_of s.query) ≡ Some h →
    map bytes addresses ≡ items g kind_a h → q ≡ with_addresses s.query addresses →
    known_row g s ≡ goes q (line (line_cached kind_a (name_of s.query)) ∷ []) at_down
unfolding known_row known_by address_known
known-gives g s h addresses q l e i k =
    let w : wanted_of s.query ≡ kind_a = wanted-above s.query l in
    let is : map bytes_of (items g kind_a h) ≡ addresses = ap (map bytes_of) (sym i) ∙ map-bytes addresses in
    ap (λ x. known_by x g s) (first-above g.zones.rule g s (Some h) w e) ∙ rw (l, is, k) refl

pub known-above-none : (g : Setting) (s : State) → is_lowest s.query ≡ false → known g s kind_a (name_of s.query) ≡ None → known_row g s ≡ zone_row g s
unfolding known_row known_by other_row is_other
known-above-none g s l e =
    let w : wanted_of s.query ≡ kind_a = wanted-above s.query l in
    ap (λ x. known_by x g s) (first-above g.zones.rule g s None w e) ∙ rw w refl

-- Records of other types

pub other-rule : {S : Type 0} (d : Desk S) (m : Moment) (rule : Rule) (kind : ℕ) (b : Bool) → rule ≡ d.zones.rule → b ≡ is_other rule kind →
    is_other (setting_at d m).zones.rule kind ≡ b
unfolding setting_of
other-rule d m rule kind b e h = ap (λ r. is_other r kind) (sym e) ∙ sym h

pub other-not : (g : Setting) (s : State) (kind : ℕ) → kind ≡ wanted_of s.query → is_other g.zones.rule kind ≡ false → other_row g s ≡ zone_row g s
unfolding other_row
other-not g s kind w e =
    let k : is_other g.zones.rule (wanted_of s.query) ≡ false = ap (is_other g.zones.rule) (sym w) ∙ e in
    rw k refl

pub other-by : (g : Setting) (s : State) (kind : ℕ) (o : Option Hit) → kind ≡ wanted_of s.query → is_other g.zones.rule kind ≡ true →
    known g s kind (name_of s.query) ≡ o → other_row g s ≡ other_by o g s
unfolding other_row
other-by g s kind o w e h =
    let k : is_other g.zones.rule (wanted_of s.query) ≡ true = ap (is_other g.zones.rule) (sym w) ∙ e in
    rw k (ap (λ x. other_by x g s) (ap (λ x. known g s x (name_of s.query)) (sym w) ∙ h))

pub other-none : (g : Setting) (s : State) (kind : ℕ) → kind ≡ wanted_of s.query → is_other g.zones.rule kind ≡ true →
    known g s kind (name_of s.query) ≡ None → other_row g s ≡ zone_row g s
unfolding other_by
other-none g s kind w e h = other-by g s kind None w e h

pub other-here : (g : Setting) (s : State) (h : Hit) (kind : ℕ) → kind ≡ wanted_of s.query → is_other g.zones.rule kind ≡ true →
    known g s kind (name_of s.query) ≡ Some h →
    other_row g s ≡ reply_row (reply_of s.query (cached_answers g s.query kind h)) (line (line_cached kind (name_of s.query)) ∷ []) s
unfolding other_by
other-here g s h kind w e k =
    other-by g s kind (Some h) w e k ∙ ap (λ x. reply_row (reply_of s.query (cached_answers g s.query x h)) (line (line_cached x (name_of s.query)) ∷ []) s) (sym w)

-- The choice of a zone

pub zone-chosen : (g : Setting) (s : State) (c : Choice) (q : Query) → c ≡ choice_of g s (suffixes (name_of s.query)) → q ≡ with_zone s.query c.control c.hosts c.places →
    zone_row g s ≡ goes q (map line c.lines) at_next
unfolding zone_row chosen_row
zone-chosen g s c q e k = rw (← e, k) refl
