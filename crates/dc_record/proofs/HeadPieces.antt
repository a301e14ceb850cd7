-- The lines of a head, piece by piece.
use Rattle.std.proofs.Common.{◌≡◌, ℕ, zero, suc, ◌+◌, ◌-◌, ◌<◌, ◌≤◌, Bool, true, false, not, cond, ◌||◌, List, [], ◌∷◌, ◌++◌, length, map, take, drop, get_or, codes, decimal, None, subst, refl, sym, ap, ◌∙◌, append_assoc, arith, drop-cons}
use Rattle.std.specs.List.{flat_map, list_any, AllByRecursion}
use Rattle.std.proofs.lemmas.List.{append-nil, take_all, length-map, get_or-map}
use Rattle.std.proofs.lemmas.Grind.{flat_map-append}
use Rattle.dc_model.specs.Name.{Name, lower, name_eq, same}
use Rattle.dc_model.specs.Address.{address_text}
use Rattle.dc_model.specs.Line.{words}
use Rattle.dc_model.specs.Places.{is_empty_place, addresses}
use Rattle.dc_model.specs.Rules.{Zone, Permits, is_named}
use Rattle.dc_model.proofs.ZoneLemmas.{lower-lower}
use Rattle.dc_rules.specs.declared.config.Config.{Config}
use Rattle.dc_rules.specs.declared.zones.Zone.{Zone as Row}
use Rattle.dc_rules.specs.Table.{zone_of, table_of}
use Rattle.dc_script.specs.Script.{Words}
use Rattle.dc_script.specs.Text.{bytes_text}
use Rattle.dc_script.specs.HeadText.{HeadTold, yes_text, allow_words, zone_words, lines_onto, head_words, head_text}
use Rattle.dc_script.specs.Recording.{spaced}
use Rattle.dc_record.specs.HeadOf.{dotted_text, zone_told, first_servers, version_of, told_of, head_refusal}
use Rattle.dc_record.specs.HeadLines.{line_text, front_text, allow_line, root_line, zone_line, zones_text, last_text, server_text, octet_text}

words_spaced : (w : List ℕ) (ws : Words) → words (w ∷ ws) ≡ w ++ spaced ws
words_spaced w [] = sym (append-nil w)
words_spaced w (v ∷ ws) = ap (λ (l : List ℕ). w ++ (32 ∷ l)) (words_spaced v ws)

-- Octets joined by dots.
dots_joined : (o : ℕ) (os : List ℕ) → decimal o ++ flat_map octet_text os ≡ address_text (o ∷ os)
dots_joined o [] = append-nil (decimal o)
dots_joined o (p ∷ os) = ap (λ (l : List ℕ). decimal o ++ (46 ∷ l)) (dots_joined p os)

pub octets_begin : (xs t t1 : List ℕ) (n : ℕ) → 1 ≤ length xs → n ≡ get_or xs 0 0 → t1 ≡ t ++ decimal n → t1 ++ flat_map octet_text (take (length xs - 1) (drop 1 xs)) ≡ t ++ address_text xs
octets_begin [] t t1 n some is e = absurd (omega arith)
octets_begin (o ∷ os) t t1 n some is e =
    let rest : take (length (o ∷ os) - 1) os ≡ os = take_all (length (o ∷ os) - 1) os (omega arith) in
    (λ i. (e ∙ ap (λ m. t ++ decimal m) is) i ++ flat_map octet_text (rest i)) ∙ append_assoc t (decimal o) (flat_map octet_text os) ∙ ap (λ l. t ++ l) (dots_joined o os)

-- The servers of places.
servers_by : (p : List ℕ) (ps : List (List ℕ)) (b : Bool) → spaced (map address_text (addresses ps)) ≡ flat_map server_text ps
    → spaced (map address_text (cond (not b) (p ∷ addresses ps) (addresses ps))) ≡ cond b [] (32 ∷ address_text p) ++ flat_map server_text ps
servers_by p ps true e = e
servers_by p ps false e = ap (λ l. (32 ∷ address_text p) ++ l) e

servers_spaced : (ps : List (List ℕ)) → spaced (map address_text (addresses ps)) ≡ flat_map server_text ps
servers_spaced [] = refl
servers_spaced (p ∷ ps) = servers_by p ps (is_empty_place p) (servers_spaced ps)

-- The line of the root's zone, and of another.
pub root_pieces : (t t1 t2 t3 : List ℕ) (z : Zone) (ps : List (List ℕ)) → t1 ≡ t ++ codes "zone @" → ps ≡ z.places → t2 ≡ t1 ++ flat_map server_text ps → t3 ≡ t2 ++ 10 ∷ [] → t3 ≡ t ++ root_line z
root_pieces t t1 t2 t3 z ps a p b c =
    let line : words (codes "zone" ∷ codes "@" ∷ map address_text (addresses z.places)) ≡ codes "zone @" ++ flat_map server_text z.places =
    words_spaced (codes "zone") (codes "@" ∷ map address_text (addresses z.places)) ∙ ap (λ (l : List ℕ). codes "zone @" ++ l) (servers_spaced z.places) in
    c ∙ ap (λ l. l ++ 10 ∷ []) (b ∙ (λ i. a i ++ flat_map server_text (p i)) ∙ append_assoc t (codes "zone @") (flat_map server_text z.places) ∙ ap (λ l. t ++ l) (sym line))
    ∙ append_assoc t (words (codes "zone" ∷ codes "@" ∷ map address_text (addresses z.places))) (10 ∷ [])

pub zone_pieces : (t t1 t2 t3 t4 : List ℕ) (z : Zone) (n : Name) (ps : List (List ℕ)) → t1 ≡ t ++ codes "zone " → n ≡ z.name → t2 ≡ t1 ++ dotted_text n → ps ≡ z.places → t3 ≡ t2 ++ flat_map server_text ps
    → t4 ≡ t3 ++ 10 ∷ [] → t4 ≡ t ++ zone_line z
zone_pieces t t1 t2 t3 t4 z n ps a m b p c d =
    let line : words (zone_words (zone_told z)) ≡ codes "zone " ++ (dotted_text z.name ++ flat_map server_text z.places) =
    words_spaced (codes "zone") (dotted_text z.name ∷ map address_text (addresses z.places)) ∙ ap (λ (l : List ℕ). codes "zone " ++ (dotted_text z.name ++ l)) (servers_spaced z.places) in
    d ∙ ap (λ l. l ++ 10 ∷ []) (c ∙ (λ i. (b ∙ (λ k. a k ++ dotted_text (m k))) i ++ flat_map server_text (p i)) ∙ append_assoc (t ++ codes "zone ") (dotted_text z.name) (flat_map server_text z.places)
    ∙ append_assoc t (codes "zone ") (dotted_text z.name ++ flat_map server_text z.places) ∙ ap (λ l. t ++ l) (sym line)) ∙ append_assoc t (words (zone_words (zone_told z))) (10 ∷ [])

-- The last two lines.
pub last_pieces : (t t1 t2 digits seed : List ℕ) → digits ≡ bytes_text seed → t1 ≡ t ++ line_text (codes "seed" ∷ digits ∷ []) → t2 ≡ t1 ++ codes "begin\n" → t2 ≡ t ++ last_text seed
last_pieces t t1 t2 digits seed d a b =
    b ∙ ap (λ l. l ++ codes "begin\n") (a ∙ ap (λ l. t ++ line_text (codes "seed" ∷ l ∷ [])) d) ∙ append_assoc t (line_text (codes "seed" ∷ bytes_text seed ∷ [])) (codes "begin\n")

-- Lines one behind another.
lines_flat : (wss : List Words) → lines_onto wss [] ≡ flat_map line_text wss
lines_flat [] = refl
lines_flat (ws ∷ wss) = ap (λ l. words ws ++ (10 ∷ l)) (lines_flat wss) ∙ sym (append_assoc (words ws) (10 ∷ []) (flat_map line_text wss))

allows_flat : (ps : Permits) → flat_map line_text (map allow_words (map address_text ps)) ≡ flat_map allow_line ps
allows_flat [] = refl
allows_flat (p ∷ ps) = ap (λ l. allow_line p ++ l) (allows_flat ps)

zones_flat : (zs : List Zone) → flat_map line_text (map zone_words (map zone_told zs)) ≡ flat_map zone_line zs
zones_flat [] = refl
zones_flat (z ∷ zs) = ap (λ l. zone_line z ++ l) (zones_flat zs)

-- The whole head.
abbrev told_at : Config → List ℕ → List Zone → HeadTold
told_at c seed zs = record {
  version = version_of c.zones.rule;
  size = c.size;
  forward = c.forward;
  allows = map address_text c.permit;
  servers = first_servers zs;
  zones = map zone_told (drop 1 zs);
  seed = seed;
}

regroup : (l1 l2 l3 a r z s b : List ℕ) → (((l1 ++ (l2 ++ l3)) ++ a) ++ (r ++ z)) ++ (s ++ b) ≡ l1 ++ (l2 ++ (l3 ++ (a ++ (r ++ (z ++ (s ++ (b ++ [])))))))
regroup l1 l2 l3 a r z s b = simp (append_assoc, append-nil)

head_with : (c : Config) (seed : List ℕ) (z : Zone) (zs : List Zone) → ((front_text c ++ flat_map allow_line c.permit) ++ zones_text (z ∷ zs)) ++ last_text seed ≡ head_text (told_at c seed (z ∷ zs)) []
unfolding head_text
head_with c seed z zs =
    let v = line_text (codes "dnscache-script" ∷ decimal (version_of c.zones.rule) ∷ []) in
    let n = line_text (codes "cachesize" ∷ decimal c.size ∷ []) in
    let f = line_text (codes "forwardonly" ∷ yes_text c.forward ∷ []) in
    let r = codes "zone" ∷ codes "@" ∷ map address_text (addresses z.places) in
    let e : List Words = (codes "seed" ∷ bytes_text seed ∷ []) ∷ (codes "begin" ∷ []) ∷ [] in
    let a : List Words = map allow_words (map address_text c.permit) in
    let y : List Words = map zone_words (map zone_told zs) in
    regroup v n f (flat_map allow_line c.permit) (root_line z) (flat_map zone_line zs) (line_text (codes "seed" ∷ bytes_text seed ∷ [])) (line_text (codes "begin" ∷ []))
    ∙ ap (λ l. v ++ (n ++ (f ++ l))) (sym (flat_map-append line_text a (r ∷ (y ++ e))
    ∙ (λ i. allows_flat c.permit i ++ (root_line z ++ (flat_map-append line_text y e ∙ ap (λ l. l ++ flat_map line_text e) (zones_flat zs)) i))))
    ∙ sym (lines_flat (head_words (told_at c seed (z ∷ zs))))

head_by : (c : Config) (seed : List ℕ) (zs : List Zone) → head_refusal zs ≡ None → ((front_text c ++ flat_map allow_line c.permit) ++ zones_text zs) ++ last_text seed ≡ head_text (told_at c seed zs) []
head_by c seed [] said = cc
head_by c seed (z ∷ zs) said = head_with c seed z zs

pub head_pieces : (c : Config) (seed t t1 t2 t3 t4 : List ℕ) (zs : List Zone) → head_refusal c.zones.configured ≡ None → t ≡ [] → t1 ≡ t ++ front_text c → t2 ≡ t1 ++ flat_map allow_line c.permit → t3 ≡ t2 ++ zones_text zs
    → zs ≡ c.zones.configured → t4 ≡ t3 ++ last_text seed → t4 ≡ head_text (told_of c seed) []
head_pieces c seed t t1 t2 t3 t4 zs said none a b d same e =
    e ∙ ap (λ l. l ++ last_text seed) (d ∙ (λ i. (b ∙ ap (λ l. l ++ flat_map allow_line c.permit) (a ∙ ap (λ l. l ++ front_text c) none)) i ++ zones_text (same i))) ∙ head_by c seed c.zones.configured said

-- Names in a table
named_same : (row : Row) (n : Name) → is_named (lower n) (zone_of row) ≡ same row.name n
named_same row n = ap (name_eq (lower row.name)) (lower-lower n)

pub any_here : (n : Name) (rows : List Row) (i : ℕ) (d : Row) → i < length rows → same (get_or rows i d).name n ≡ true → list_any (is_named (lower n)) (table_of (drop i rows)) ≡ true
any_here n rows i d lt e =
    ap (λ l. list_any (is_named (lower n)) (table_of l)) (drop-cons rows i d lt) ∙ ap (λ b. b || list_any (is_named (lower n)) (table_of (drop (suc i) rows))) (named_same (get_or rows i d) n ∙ e)

pub any_past : (n : Name) (rows : List Row) (i : ℕ) (d : Row) → i < length rows → same (get_or rows i d).name n ≡ false
    → list_any (is_named (lower n)) (table_of (drop i rows)) ≡ list_any (is_named (lower n)) (table_of (drop (i + 1) rows))
any_past n rows i d lt e =
    let next : suc i ≡ i + 1 = omega arith in
    ap (λ l. list_any (is_named (lower n)) (table_of l)) (drop-cons rows i d lt) ∙ ap (λ b. b || list_any (is_named (lower n)) (table_of (drop (suc i) rows))) (named_same (get_or rows i d) n ∙ e)
    ∙ ap (λ k. list_any (is_named (lower n)) (table_of (drop k rows))) next

-- Each permission has an octet.
all_at : {X : Type 0} (P : X → Type 0) (xs : List X) (i : ℕ) (d : X) → AllByRecursion P xs → i < length xs → P (get_or xs i d)
all_at P [] i d h lt = absurd (omega arith)
all_at P (x ∷ xs) zero d h lt = h.0
all_at P (x ∷ xs) (suc i) d h lt = all_at P xs i d h.1 (omega arith)

pub place_some : {X : Type 0} (f : X → List ℕ) (rows : List X) (ps : Permits) (i : ℕ) (d : X) (o : List ℕ) → map f rows ≡ ps → AllByRecursion (λ o. (1 ≤ length o) × (length o ≤ 4)) ps → i < length rows
    → d ≡ get_or rows i d → o ≡ f d → 1 ≤ length o
place_some f rows ps i d o are each lt d_is o_is =
    let count = length-map rows f in
    let all = subst (λ l. AllByRecursion (λ o. (1 ≤ length o) × (length o ≤ 4)) l) (sym are) each in
    let at = (all_at (λ o. (1 ≤ length o) × (length o ≤ 4)) (map f rows) i (f d) all (omega (arith, lt, count))).0 in
    subst (λ l. 1 ≤ length l) (get_or-map f rows i d (f d) lt ∙ ap f (sym d_is) ∙ sym o_is) at
