-- The text of a head is read as the head.
use Rattle.std.proofs.Common.{◌≡◌, ℕ, zero, suc, replicate, ◌+◌, ◌*◌, ◌^◌, ◌<◌, ◌≤◌, Bool, true, false, ◌&&◌, cond, eqb, leb, min, max, bytes_eq, List, [], ◌∷◌, ◌++◌, ◌⊎◌, inl, inr, length, map, codes, decimal, Some, None, Ok, option_map, option_and_then, refl, sym, ◌∙◌, ap, arith}
use Rattle.std.specs.List.{AllByRecursion}
use Rattle.std.proofs.lemmas.Bool.Decides.{nat_tests}
use Rattle.std.proofs.lemmas.Fmt.{decimal_digit}
use Rattle.std.proofs.lemmas.List.{length-map}
use Rattle.dc_model.proofs.LineLemmas.{words_size, length-words, short}
use Rattle.dc_model.specs.Line.{words, hex}
use Rattle.dc_model.specs.Name.{Name, root}
use Rattle.dc_model.specs.Places.{places_of}
use Rattle.dc_model.specs.Rules.{Zones, no_zones, add_zone, Permits, add_permit, if_filled}
use Rattle.dc_script.specs.Script.{Words, words_of, pieces_of, most_line, bytes_spelled, at_end}
use Rattle.dc_model.specs.Address.{address_text}
use Rattle.dc_script.specs.Text.{bytes_text}
use Rattle.dc_script.specs.Heading.{version_line, size_line, forward_line, allow_line, root_line, zone_line, seed_line, begin_line, version_word, seed_word, server_word, servers_said, places_said, zone_word, only_word, root_said, zone_said, heading_by, heading_said, heading_of}
use Rattle.dc_script.specs.Head.{Head, Stage, at_version, at_size, at_forward, at_allows, at_zones, at_begin, HeadStep, refused, going, begun, with_version, with_size, with_forward, with_permit, with_zone, rule_under, step_by, step_said, head_step, behind, head_from, head_of, no_head, script_said, said_behind}
use Rattle.dc_script.specs.HeadText.{ZoneTold, HeadTold, yes_text, allow_words, zone_words, lines_onto, head_text, lines_of_head, IsServer, AreServers, Allowed, Added, root_zones, IsTold, head_told}
use Rattle.dc_model.specs.Event.{Event}
use Rattle.dc_script.specs.EventText.{events_text, IsWritten}
use Rattle.dc_script.proofs.EventLemmas.{events-text}
use Rattle.dc_script.proofs.Hex.{length-hex}
use Rattle.dc_script.proofs.ReadLemmas.{has_piece}
use Rattle.dc_script.proofs.HeadLemmas.{from_line}
use Rattle.dc_script.proofs.Spelling.{lacks, AllLack, split-part, split-joined, joined-lacks, number-decimal, decimal-lacks, address-text, address-lacks, address-short, bytes-lack, hex-lower, spelled-hex}

-- One line

-- The words of a line: none has a space or a line feed, and together they are short enough.
record AreWords (ws : Words) : Type 0 where
  spaces : AllLack 32 ws
  feeds : AllLack 10 ws
  small : length (words ws) ≤ most_line

line_read : (k : ℕ) (stage : Stage) (h : Head) (w : List ℕ) (ws : Words) (rest : List ℕ) (s : HeadStep) → AreWords (w ∷ ws) → step_said stage h (heading_by w ws) ≡ s
    → head_from k (going stage h) (pieces_of (words (w ∷ ws) ++ (10 ∷ rest))) ≡ head_from (k + 1) s (pieces_of rest)
unfolding head_step heading_of
line_read k stage h w ws rest s are step =
    let parted : words_of (words (w ∷ ws)) ≡ w ∷ ws = split-joined 32 w ws are.spaces in
    let small = are.small in
    let within : leb (length (words (w ∷ ws))) most_line ≡ true = grind (arith, nat_tests) in
    let whole : head_step stage h (words (w ∷ ws)) ≡ s =
    ap (λ b. cond b (step_said stage h (heading_of (words (w ∷ ws)))) refused) within ∙ ap (λ l. step_said stage h (heading_said l)) parted ∙ step in
    ap (head_from k (going stage h)) (split-part 10 (words (w ∷ ws)) rest (joined-lacks 10 32 (w ∷ ws) refl are.feeds))
    ∙ from_line k stage h (words (w ∷ ws)) (pieces_of rest) (has_piece rest) ∙ ap (λ t. head_from (k + 1) t (pieces_of rest)) whole

-- What each line says

said_version : (v : ℕ) → (v ≡ 1) ⊎ (v ≡ 2) → heading_by (codes "dnscache-script") (decimal v ∷ []) ≡ Some (version_line v)
unfolding heading_by only_word
said_version v (inl e) = ap (λ n. option_map version_line (version_word (decimal n))) e ∙ ap (λ t. option_map version_line (version_word t)) (decimal_digit 1 (omega arith)) ∙ ap (λ n. Some (version_line n)) (sym e)
said_version v (inr e) = ap (λ n. option_map version_line (version_word (decimal n))) e ∙ ap (λ t. option_map version_line (version_word t)) (decimal_digit 2 (omega arith)) ∙ ap (λ n. Some (version_line n)) (sym e)

said_size : (n : ℕ) → n < 2 ^ 64 → heading_by (codes "cachesize") (decimal n ∷ []) ≡ Some (size_line (min (max n 100) 1000000000))
unfolding heading_by only_word
said_size n h = ap (λ o. option_map size_line (option_map (λ m. min (max m 100) 1000000000) o)) (number-decimal (2 ^ 64) n h h)

said_forward : (b : Bool) → heading_by (codes "forwardonly") (yes_text b ∷ []) ≡ Some (forward_line b)
unfolding heading_by only_word
said_forward true = refl
said_forward false = refl

said_allow : (t : List ℕ) → heading_by (codes "allow") (t ∷ []) ≡ Some (allow_line t)
unfolding heading_by only_word
said_allow t = refl

server-text : (a : List ℕ) → IsServer a → server_word (address_text a) ≡ Some a
server-text a h = ap (option_and_then if_filled) (address-text a h.0.0 h.0.1) ∙ ap (λ b. cond b None (Some a)) h.1

servers-text : (as' : List (List ℕ)) → AllByRecursion IsServer as' → servers_said (map address_text as') ≡ Some as'
servers-text [] h = refl
servers-text (a ∷ as') h =
    ap (option_and_then (λ b. option_map (λ bs. b ∷ bs) (servers_said (map address_text as')))) (server-text a h.0) ∙ ap (option_map (λ bs. a ∷ bs)) (servers-text as' h.1)

places-text : (as' : List (List ℕ)) → AreServers as' → places_said (map address_text as') ≡ Some (places_of as')
unfolding places_said
places-text as' h =
    let few = h.1 in
    let count = length-map as' address_text in
    let within : leb (length (map address_text as')) 16 ≡ true = let e : length (map address_text as') ≤ 16 = omega (arith, count, few) in grind (arith, nat_tests) in
    ap (λ b. cond b (option_map places_of (servers_said (map address_text as'))) None) within ∙ ap (option_map places_of) (servers-text as' h.0)

root-text : (as' : List (List ℕ)) → AreServers as' → 1 ≤ length as' → root_said (map address_text as') ≡ Some (root_line (places_of as'))
root-text [] h some = absurd (omega arith)
root-text (a ∷ as') h some = ap (option_map root_line) (places-text (a ∷ as') h)

said_root : (as' : List (List ℕ)) → AreServers as' → 1 ≤ length as' → heading_by (codes "zone") (codes "@" ∷ map address_text as') ≡ Some (root_line (places_of as'))
unfolding heading_by zone_said
said_root as' h some = root-text as' h some

said_zone : (z : ZoneTold) (name : Name) → bytes_eq z.text (codes "@") ≡ false → AreServers z.servers → zone_word z.text ≡ Some name
    → heading_by (codes "zone") (z.text ∷ map address_text z.servers) ≡ Some (zone_line name (places_of z.servers))
unfolding heading_by zone_said
said_zone z name other servers named =
    let said = map address_text z.servers in
    ap (λ b. cond b (root_said said) (option_and_then (λ n. option_map (zone_line n) (places_said said)) (zone_word z.text))) other
    ∙ ap (option_and_then (λ n. option_map (zone_line n) (places_said said))) named ∙ ap (option_map (zone_line name)) (places-text z.servers servers)

seed-text : (bs : List ℕ) → length bs ≡ 32 → AllByRecursion (λ b. b < 256) bs → seed_word (bytes_text bs) ≡ Some bs
seed-text [] e h = absurd (omega arith)
seed-text (b ∷ bs) e h =
    let count = length-hex (b ∷ bs) in
    let many : eqb (length (hex (b ∷ bs))) 64 ≡ true = let c : length (hex (b ∷ bs)) ≡ 64 = omega (arith, count, e) in grind (arith, nat_tests) in
    ap (λ t. cond (t && eqb (length (hex (b ∷ bs))) 64) (Some (bytes_spelled (hex (b ∷ bs)))) None) (hex-lower (b ∷ bs) h)
    ∙ ap (λ t. cond t (Some (bytes_spelled (hex (b ∷ bs)))) None) many ∙ ap (λ l. Some l) (spelled-hex (b ∷ bs))

said_seed : (bs : List ℕ) → length bs ≡ 32 → AllByRecursion (λ b. b < 256) bs → heading_by (codes "seed") (bytes_text bs ∷ []) ≡ Some (seed_line bs)
unfolding heading_by only_word
said_seed bs e h = ap (option_map seed_line) (seed-text bs e h)

said_begin : heading_by (codes "begin") [] ≡ Some begin_line
unfolding heading_by at_end
said_begin = refl

-- Words of each line

two_words : (w v : List ℕ) → lacks 32 w ≡ true → lacks 10 w ≡ true → length w ≤ 20 → lacks 32 v ≡ true → lacks 10 v ≡ true → length v ≤ 65535 → AreWords (w ∷ v ∷ [])
two_words w v a b c d e f = let count = length-words (w ∷ v ∷ []) in record { spaces = (a, (d, tt)); feeds = (b, (e, tt)); small = omega (arith, count, c, f) }

addresses_lack : (b : ℕ) (as' : List (List ℕ)) → b < 46 → AllByRecursion IsServer as' → AllLack b (map address_text as')
addresses_lack b [] h k = tt
addresses_lack b (a ∷ as') h k = (address-lacks b a h k.0.0.1, addresses_lack b as' h k.1)

addresses_size : (as' : List (List ℕ)) → AllByRecursion IsServer as' → words_size (map address_text as') ≤ 17 * length as'
addresses_size [] k = omega arith
addresses_size (a ∷ as') k = let one = address-short a k.0.0.0 k.0.0.1 in let rest = addresses_size as' k.1 in omega (arith, one, rest)

zone_are : (t : List ℕ) (as' : List (List ℕ)) → lacks 32 t ≡ true → lacks 10 t ≡ true → length (words (codes "zone" ∷ t ∷ map address_text as')) ≤ most_line → AreServers as'
    → AreWords (codes "zone" ∷ t ∷ map address_text as')
zone_are t as' a b c h =
    record { spaces = (refl, (a, addresses_lack 32 as' (omega arith) h.0)); feeds = (refl, (b, addresses_lack 10 as' (omega arith) h.0)); small = c }

root_are : (as' : List (List ℕ)) → AreServers as' → AreWords (codes "zone" ∷ codes "@" ∷ map address_text as')
root_are as' h =
    let few = h.1 in
    let size = addresses_size as' h.0 in
    let count = length-words (codes "zone" ∷ codes "@" ∷ map address_text as') in
    zone_are (codes "@") as' refl refl (omega (arith, count, few, size)) h

yes_is : (b : Bool) → AreWords (codes "forwardonly" ∷ yes_text b ∷ [])
yes_is true = record { spaces = (refl, (refl, tt)); feeds = (refl, (refl, tt)); small = omega arith }
yes_is false = record { spaces = (refl, (refl, tt)); feeds = (refl, (refl, tt)); small = omega arith }

number_are : (w : List ℕ) (n : ℕ) → lacks 32 w ≡ true → lacks 10 w ≡ true → length w ≤ 20 → n < 2 ^ 64 → AreWords (w ∷ decimal n ∷ [])
number_are w n a b c h = let few = short n h in two_words w (decimal n) a b c (decimal-lacks 32 n (omega arith) h) (decimal-lacks 10 n (omega arith) h) (omega (arith, few))

seed_few : (bs : List ℕ) → length bs ≡ 32 → length (bytes_text bs) ≤ 65535
seed_few [] e = omega arith
seed_few (b ∷ bs) e = let count = length-hex (b ∷ bs) in omega (arith, count, e)

-- Lines

-- A head with other permissions, and with other zones.
abbrev permitting : Permits → Head → Head
permitting permits h = record h { config = record h.config { permit = permits } }

abbrev zoned : Zones → Head → Head
zoned zones h = record h { config = record h.config { zones = zones } }

step_allow : (h : Head) (t : List ℕ) (permits : Permits) → add_permit t h.config.permit ≡ Ok permits → step_said at_allows h (heading_by (codes "allow") (t ∷ [])) ≡ going at_allows (permitting permits h)
unfolding step_by
step_allow h t permits e = ap (step_said at_allows h) (said_allow t) ∙ ap (with_permit h) e

allows_read : (ts : List (List ℕ)) (h : Head) (new : Permits) (rest : List Words) (tail : List ℕ) (k : ℕ) → Allowed ts h.config.permit new
    → head_from k (going at_allows h) (pieces_of (lines_onto (map allow_words ts ++ rest) tail)) ≡ head_from (k + length ts) (going at_allows (permitting new h)) (pieces_of (lines_onto rest tail))
allows_read [] h new rest tail k e =
    let same : h ≡ permitting new h = ap (λ p. permitting p h) e in
    let count : k ≡ k + 0 = omega arith in
    ap (λ g. head_from k (going at_allows g) (pieces_of (lines_onto rest tail))) same ∙ ap (λ n. head_from n (going at_allows (permitting new h)) (pieces_of (lines_onto rest tail))) count
allows_read (t ∷ ts) h new rest tail k e =
    let count : k + 1 + length ts ≡ k + length (t ∷ ts) = omega arith in
    line_read k at_allows h (codes "allow") (t ∷ []) (lines_onto (map allow_words ts ++ rest) tail) (going at_allows (permitting e.2.0 h))
    (record { spaces = (refl, (e.0.0, tt)); feeds = (refl, (e.0.1, tt)); small = e.1 }) (step_allow h t e.2.0 e.2.1)
    ∙ allows_read ts (permitting e.2.0 h) new rest tail (k + 1) e.2.2
    ∙ ap (λ n. head_from n (going at_allows (permitting new h)) (pieces_of (lines_onto rest tail))) count

step_zone : (h : Head) (z : ZoneTold) (name : Name) (zones : Zones) → bytes_eq z.text (codes "@") ≡ false → AreServers z.servers → zone_word z.text ≡ Some name
    → add_zone name (places_of z.servers) h.config.zones ≡ Ok zones → step_said at_zones h (heading_by (codes "zone") (z.text ∷ map address_text z.servers)) ≡ going at_zones (zoned zones h)
unfolding step_by
step_zone h z name zones other servers named e = ap (step_said at_zones h) (said_zone z name other servers named) ∙ ap (with_zone h) e

zones_read : (zs : List ZoneTold) (h : Head) (new : Zones) (rest : List Words) (tail : List ℕ) (k : ℕ) → Added zs h.config.zones new
    → head_from k (going at_zones h) (pieces_of (lines_onto (map zone_words zs ++ rest) tail)) ≡ head_from (k + length zs) (going at_zones (zoned new h)) (pieces_of (lines_onto rest tail))
zones_read [] h new rest tail k e =
    let same : h ≡ zoned new h = ap (λ p. zoned p h) e in
    let count : k ≡ k + 0 = omega arith in
    ap (λ g. head_from k (going at_zones g) (pieces_of (lines_onto rest tail))) same ∙ ap (λ n. head_from n (going at_zones (zoned new h)) (pieces_of (lines_onto rest tail))) count
zones_read (z ∷ zs) h new rest tail k e =
    let count : k + 1 + length zs ≡ k + length (z ∷ zs) = omega arith in
    let added = e.4.2 in
    line_read k at_zones h (codes "zone") (z.text ∷ map address_text z.servers) (lines_onto (map zone_words zs ++ rest) tail) (going at_zones (zoned added.0 h))
    (zone_are z.text z.servers e.0.0 e.0.1 e.1 e.3) (step_zone h z e.4.0 added.0 e.2 e.3 e.4.1 added.1)
    ∙ zones_read zs (zoned added.0 h) new rest tail (k + 1) added.2
    ∙ ap (λ n. head_from n (going at_zones (zoned new h)) (pieces_of (lines_onto rest tail))) count

step_root : (h : Head) (as' : List (List ℕ)) (zones : Zones) → AreServers as' → 1 ≤ length as' → add_zone root (places_of as') h.config.zones ≡ Ok zones
    → step_said at_allows h (heading_by (codes "zone") (codes "@" ∷ map address_text as')) ≡ going at_zones (zoned zones h)
unfolding step_by
step_root h as' zones servers some e = ap (step_said at_allows h) (said_root as' servers some) ∙ ap (with_zone h) e

step_begin : (h : Head) → step_said at_begin h (heading_by (codes "begin") []) ≡ begun h
unfolding step_by
step_begin h = ap (step_said at_begin h) said_begin

step_seed : (h : Head) (bs : List ℕ) → length bs ≡ 32 → AllByRecursion (λ b. b < 256) bs → step_said at_zones h (heading_by (codes "seed") (bytes_text bs ∷ [])) ≡ going at_begin (record h { seed = bs })
unfolding step_by
step_seed h bs e k = ap (step_said at_zones h) (said_seed bs e k)

end_read : (h : Head) (bs tail : List ℕ) (k : ℕ) → length bs ≡ 32 → AllByRecursion (λ b. b < 256) bs
    → head_from k (going at_zones h) (pieces_of (lines_onto ((codes "seed" ∷ bytes_text bs ∷ []) ∷ (codes "begin" ∷ []) ∷ []) tail)) ≡ behind (record h { seed = bs }) (k + 2) (pieces_of tail)
unfolding head_from
end_read h bs tail k e b =
    let count : k + 1 + 1 ≡ k + 2 = omega arith in
    line_read k at_zones h (codes "seed") (bytes_text bs ∷ []) (lines_onto ((codes "begin" ∷ []) ∷ []) tail) (going at_begin (record h { seed = bs }))
    (two_words (codes "seed") (bytes_text bs) refl refl (omega arith) (bytes-lack 32 bs (omega arith)) (bytes-lack 10 bs (omega arith)) (seed_few bs e)) (step_seed h bs e b)
    ∙ line_read (k + 1) at_begin (record h { seed = bs }) (codes "begin") [] tail (begun (record h { seed = bs })) (record { spaces = (refl, tt); feeds = (refl, tt); small = omega arith }) (step_begin (record h { seed = bs }))
    ∙ ap (λ n. behind (record h { seed = bs }) n (pieces_of tail)) count

step_version : (h : Head) (v : ℕ) → (v ≡ 1) ⊎ (v ≡ 2) → step_said at_version h (heading_by (codes "dnscache-script") (decimal v ∷ [])) ≡ going at_size (with_version v h)
unfolding step_by
step_version h v e = ap (step_said at_version h) (said_version v e)

step_size : (h : Head) (n : ℕ) → n < 2 ^ 64 → step_said at_size h (heading_by (codes "cachesize") (decimal n ∷ [])) ≡ going at_forward (with_size (min (max n 100) 1000000000) h)
unfolding step_by
step_size h n e = ap (step_said at_size h) (said_size n e)

step_forward : (h : Head) (b : Bool) → step_said at_forward h (heading_by (codes "forwardonly") (yes_text b ∷ [])) ≡ going at_allows (with_forward b h)
unfolding step_by
step_forward h b = ap (step_said at_forward h) (said_forward b)

version_small : (v : ℕ) → (v ≡ 1) ⊎ (v ≡ 2) → v < 2 ^ 64
version_small v (inl e) = omega (arith, e)
version_small v (inr e) = omega (arith, e)

-- The root is the first zone.
root_added : (h : HeadTold) → add_zone root (places_of h.servers) (record no_zones { rule = rule_under h.version }) ≡ Ok (root_zones h)
root_added h = refl

pub head_read : (h : HeadTold) (permits : Permits) (zones : Zones) → IsTold h permits zones → (tail : List ℕ) → head_of (head_text h tail) ≡ behind (head_told h permits zones) (lines_of_head h) (pieces_of tail)
unfolding head_text
head_read h permits zones told tail =
    let last = (codes "seed" ∷ bytes_text h.seed ∷ []) ∷ (codes "begin" ∷ []) ∷ [] in
    let later = (codes "zone" ∷ codes "@" ∷ map address_text h.servers) ∷ (map zone_words h.zones ++ last) in
    let a = with_version h.version no_head in
    let b = with_size (min (max h.size 100) 1000000000) a in
    let c = with_forward h.forward b in
    let d = permitting permits c in
    let e = zoned (root_zones h) d in
    let f = zoned zones e in
    let count : 3 + length h.allows + 1 + length h.zones + 2 ≡ lines_of_head h = omega arith in
    line_read 0 at_version no_head (codes "dnscache-script") (decimal h.version ∷ []) _ (going at_size a)
    (number_are (codes "dnscache-script") h.version refl refl (omega arith) (version_small h.version told.version)) (step_version no_head h.version told.version)
    ∙ line_read 1 at_size a (codes "cachesize") (decimal h.size ∷ []) _ (going at_forward b) (number_are (codes "cachesize") h.size refl refl (omega arith) told.size) (step_size a h.size told.size)
    ∙ line_read 2 at_forward b (codes "forwardonly") (yes_text h.forward ∷ []) (lines_onto (map allow_words h.allows ++ later) tail) (going at_allows c) (yes_is h.forward) (step_forward b h.forward)
    ∙ allows_read h.allows c permits later tail 3 told.allowed
    ∙ line_read (3 + length h.allows) at_allows d (codes "zone") (codes "@" ∷ map address_text h.servers) (lines_onto (map zone_words h.zones ++ last) tail) (going at_zones e)
    (root_are h.servers told.are) (step_root d h.servers (root_zones h) told.are told.some (root_added h))
    ∙ zones_read h.zones e zones last tail (3 + length h.allows + 1) told.added
    ∙ end_read f h.seed tail (3 + length h.allows + 1 + length h.zones) told.seed.0 told.seed.1
    ∙ ap (λ n. behind (head_told h permits zones) n (pieces_of tail)) count

-- A whole script.
pub script_read : (h : HeadTold) (permits : Permits) (zones : Zones) (es : List Event) → IsTold h permits zones → AllByRecursion IsWritten es
    → script_said (head_text h (events_text es)) ≡ record { head = Some (head_told h permits zones); said = record { events = es; bad = None } }
script_read h permits zones es told written =
    ap said_behind (head_read h permits zones told (events_text es))
    ∙ ap (λ s. record { head = Some (head_told h permits zones); said = s }) (events-text es written (lines_of_head h + 1))

-- Zeros are bytes.
pub zeros : (n : ℕ) → AllByRecursion (λ b. b < 256) (replicate n 0)
zeros zero = tt
zeros (suc n) = (omega arith, zeros n)
