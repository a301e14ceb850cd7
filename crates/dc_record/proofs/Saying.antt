-- The head of a configuration is one that can be read.
use Rattle.std.proofs.Common.{◌≡◌, ℕ, zero, suc, ◌+◌, ◌-◌, ◌*◌, ◌<◌, ◌≤◌, Bool, true, false, not, ◌&&◌, ◌||◌, cond, eqb, ltb, leb, bytes_eq, List, [], ◌∷◌, ◌++◌, ◌⊎◌, inl, inr, length, map, take, drop, find, replicate, codes, decimal, Some, None, Ok, Err, is_some, option_map, option_and_then, refl, sym, ◌∙◌, ap, subst, arith, append_assoc, length-append}
use Rattle.std.specs.List.{list_all, list_any, join_with_byte, ends_with, All, AllByRecursion}
use Rattle.std.specs.Cmp.Lexicographic.{pointwise}
use Rattle.std.specs.Option.{option_or}
use Rattle.std.specs.Result.{result_ok}
use Rattle.std.proofs.lemmas.Bool.Decides.{nat_tests}
use Rattle.std.proofs.lemmas.List.{append-nil}
use Rattle.std.proofs.lemmas.List.Elements.{All-head, All-tail}
use Rattle.std.proofs.Math.Seq.{take-append_seam, drop-append_seam}
use Rattle.dc_model.specs.Name.{Name, root, name_eq, wire, IsLabel, IsName, empty_label, long_label, long_name, octets_of, dotted_parts, label_refusal, labels_refusal, unless_refused, name_of_parts, without_final_dot, from_dotted}
use Rattle.dc_model.specs.Address.{address_text}
use Rattle.dc_model.specs.Places.{no_address, is_empty_place, all_empty, addresses, places_of}
use Rattle.dc_model.specs.Rules.{Rule, one, two, Zone, Zones, is_named, is_zone, with_zone, add_zone, duplicate, zones_full, permits_full, Permits, if_at_most_four, permit_of, permit_added, add_permit}
use Rattle.dc_model.proofs.LineLemmas.{words_size, length-words, short}
use Rattle.dc_model.proofs.ReadLemmas.{name_eq-same}
use Rattle.dc_rules.specs.declared.config.Config.{Config}
use Rattle.dc_script.specs.Script.{Words}
use Rattle.dc_script.specs.Text.{IsAddress}
use Rattle.dc_script.specs.Heading.{unless_root, zone_word}
use Rattle.dc_script.specs.Head.{rule_under}
use Rattle.dc_script.specs.HeadText.{IsWord, IsLine, IsServer, AreServers, Allowed, Added, IsTold, allow_words, zone_words, root_zones}
use Rattle.dc_script.proofs.Spelling.{lacks, AllLack, lacks-append, split-joined, decimal-lacks, number-decimal, address-lacks, address-short}
use Rattle.dc_script.proofs.LineBack.{both_true, same_text}
use Rattle.dc_record.specs.declared.sayable.HeadError.TheVariants.{Rootless, Unsaid}
use Rattle.dc_record.specs.HeadOf.{is_said_byte, is_said_name, is_packed, is_said_root, is_said_zone, are_said, zones_refusal, head_refusal, dotted_text, zone_told, first_servers, version_of, told_of, IsZone, IsPermit, AreParts}

false_of : (b : Bool) → not b ≡ true → b ≡ false
false_of true e = cc
false_of false e = refl

-- Places

take_empty : (pad k : ℕ) → pad ≤ k → take pad (replicate k no_address) ≡ replicate pad no_address
take_empty zero k h = refl
take_empty (suc pad) zero h = absurd (omega arith)
take_empty (suc pad) (suc k) h = ap (λ ps. no_address ∷ ps) (take_empty pad k (omega arith))

filled : (found : List (List ℕ)) (n pad k : ℕ) → length found + pad ≡ n → pad ≤ k → take n (found ++ replicate k no_address) ≡ found ++ replicate pad no_address
filled [] n pad k e h = let is : n ≡ pad = omega arith in ap (λ m. take m (replicate k no_address)) is ∙ take_empty pad k h
filled (f ∷ fs) zero pad k e h = absurd (omega arith)
filled (f ∷ fs) (suc n) pad k e h = ap (λ ps. f ∷ ps) (filled fs n pad k (omega arith) h)

-- places in which an empty one has only empty ones behind it are addresses and empty places
record Packed (places : List (List ℕ)) : Type 0 where
  pad : ℕ
  count : length (addresses places) + pad ≡ length places
  is : places ≡ addresses places ++ replicate pad no_address

empty_by : (p : List ℕ) → is_empty_place p ≡ true → p ≡ no_address
empty_by p e = same_text p no_address e

all_packed : (ps : List (List ℕ)) → all_empty ps ≡ true → (addresses ps ≡ []) × (ps ≡ replicate (length ps) no_address)
all_packed [] e = (refl, refl)
all_packed (p ∷ ps) e =
    let t = both_true (is_empty_place p) (all_empty ps) e in
    let rest = all_packed ps t.1 in
    (ap (λ b. cond (not b) (p ∷ addresses ps) (addresses ps)) t.0 ∙ rest.0, (λ i. empty_by p t.0 i ∷ rest.1 i))

packed_by : (p : List ℕ) (ps : List (List ℕ)) (b : Bool) → is_empty_place p ≡ b → cond b (all_empty ps) (is_packed ps) ≡ true → (is_packed ps ≡ true → Packed ps) → Packed (p ∷ ps)
packed_by p ps true e said rest =
    let all = all_packed (p ∷ ps) (ap (λ b. b && all_empty ps) e ∙ said) in
    let none = ap (λ (l : List (List ℕ)). length l) all.0 in
    record { pad = length (p ∷ ps); count = omega (arith, none); is = all.1 ∙ ap (λ l. l ++ replicate (length (p ∷ ps)) no_address) (sym all.0) }
packed_by p ps false e said rest =
    let r = rest said in
    let head : addresses (p ∷ ps) ≡ p ∷ addresses ps = ap (λ b. cond (not b) (p ∷ addresses ps) (addresses ps)) e in
    let count = r.count in
    let more = ap (λ (l : List (List ℕ)). length l) head in
    record { pad = r.pad; count = omega (arith, count, more); is = ap (λ l. p ∷ l) r.is ∙ ap (λ l. l ++ replicate r.pad no_address) (sym head) }

packed : (ps : List (List ℕ)) → is_packed ps ≡ true → Packed ps
packed [] e = record { pad = 0; count = refl; is = refl }
packed (p ∷ ps) e = packed_by p ps (is_empty_place p) refl e (packed ps)

-- such places are those that their addresses fill
packed_places : (ps : List (List ℕ)) → length ps ≡ 16 → is_packed ps ≡ true → places_of (addresses ps) ≡ ps
packed_places ps sixteen e =
    let p = packed ps e in
    let count = p.count in
    filled (addresses ps) 16 p.pad 16 (omega (arith, count, sixteen)) (omega (arith, count, sixteen)) ∙ sym p.is

servers_by : (p : List ℕ) (ps : List (List ℕ)) (b : Bool) → is_empty_place p ≡ b → IsAddress p → AllByRecursion IsServer (addresses ps) → AllByRecursion IsServer (cond (not b) (p ∷ addresses ps) (addresses ps))
servers_by p ps true e a rest = rest
servers_by p ps false e a rest = ((a, e), rest)

all_servers : (ps : List (List ℕ)) → AllByRecursion IsAddress ps → AllByRecursion IsServer (addresses ps)
all_servers [] h = tt
all_servers (p ∷ ps) h = servers_by p ps (is_empty_place p) refl h.0 (all_servers ps h.1)

fewer_by : (p : List ℕ) (ps : List (List ℕ)) (b : Bool) → length (addresses ps) ≤ length ps → length (cond (not b) (p ∷ addresses ps) (addresses ps)) ≤ 1 + length ps
fewer_by p ps true h = omega (arith, h)
fewer_by p ps false h = omega (arith, h)

fewer : (ps : List (List ℕ)) → length (addresses ps) ≤ length ps
fewer [] = omega arith
fewer (p ∷ ps) = let h = fewer_by p ps (is_empty_place p) (fewer ps) in omega (arith, h)

are_servers : (ps : List (List ℕ)) → length ps ≡ 16 → AllByRecursion IsAddress ps → AreServers (addresses ps)
are_servers ps sixteen h = let few = fewer ps in (all_servers ps h, omega (arith, few, sixteen))

some_by : (p : List ℕ) (ps : List (List ℕ)) (b : Bool) → (b && all_empty ps) ≡ false → (all_empty ps ≡ false → 1 ≤ length (addresses ps)) → 1 ≤ length (cond (not b) (p ∷ addresses ps) (addresses ps))
some_by p ps true e rest = rest e
some_by p ps false e rest = omega arith

some_servers : (ps : List (List ℕ)) → all_empty ps ≡ false → 1 ≤ length (addresses ps)
some_servers [] e = cc
some_servers (p ∷ ps) e = some_by p ps (is_empty_place p) e (some_servers ps)

servers_size : (as' : List (List ℕ)) → AllByRecursion IsServer as' → words_size (map address_text as') ≤ 17 * length as'
servers_size [] k = omega arith
servers_size (a ∷ as') k = let size = address-short a k.0.0.0 k.0.0.1 in let rest = servers_size as' k.1 in omega (arith, size, rest)

-- Permissions

octets_are : (o : List ℕ) → AllByRecursion (λ b. b < 256) o → octets_of (map decimal o) ≡ Some o
octets_are [] h = refl
octets_are (b ∷ bs) h =
    ap (option_and_then (λ n. option_map (λ ns. n ∷ ns) (octets_of (map decimal bs)))) (number-decimal 256 b h.0 (let s = h.0 in omega (arith, s))) ∙ ap (option_map (λ ns. b ∷ ns)) (octets_are bs h.1)

decimals_lack : (b : ℕ) (o : List ℕ) → b < 48 → AllByRecursion (λ n. n < 256) o → AllLack b (map decimal o)
decimals_lack b [] h k = tt
decimals_lack b (o ∷ os) h k = (decimal-lacks b o h (let s = k.0 in omega (arith, s)), decimals_lack b os h k.1)

octets_parted : (o : List ℕ) → 1 ≤ length o → AllByRecursion (λ b. b < 256) o → dotted_parts (address_text o) ≡ map decimal o
octets_parted [] h k = absurd (omega arith)
octets_parted (o ∷ os) h k = split-joined 46 (decimal o) (map decimal os) (decimals_lack 46 (o ∷ os) (omega arith) k)

at_most_four : (o : List ℕ) → length o ≤ 4 → if_at_most_four o ≡ Some o
at_most_four o h = let t : leb (length o) 4 ≡ true = grind (arith, nat_tests) in ap (λ b. cond b (Some o) None) t

permit_is : (o : List ℕ) → IsPermit o → permit_of (address_text o) ≡ Some o
permit_is o h =
    ap (λ ps. option_and_then if_at_most_four (octets_of ps)) (octets_parted o h.least h.octets) ∙ ap (option_and_then if_at_most_four) (octets_are o h.octets) ∙ at_most_four o h.most

permit_more : (o : List ℕ) (before : Permits) → IsPermit o → length before < 4096 → add_permit (address_text o) before ≡ Ok (before ++ (o ∷ []))
permit_more o before h few =
    let room : leb 4096 (length before) ≡ false = grind (arith, nat_tests) in
    ap (λ p. permit_added p before) (permit_is o h) ∙ ap (λ b. cond b (Err permits_full) (Ok (before ++ (o ∷ [])))) room

joined_size : (c : ℕ) (ws : Words) → length (join_with_byte c ws) ≤ words_size ws
joined_size c [] = omega arith
joined_size c (w ∷ []) = omega arith
joined_size c (w ∷ v ∷ ws) = let rest = joined_size c (v ∷ ws) in let sum = length-append w (c ∷ join_with_byte c (v ∷ ws)) in omega (arith, rest, sum)

decimals_size : (o : List ℕ) → AllByRecursion (λ b. b < 256) o → words_size (map decimal o) ≤ 21 * length o
decimals_size [] h = omega arith
decimals_size (o ∷ os) h =
    let small = h.0 in
    let size = short o (omega (arith, small)) in
    let rest = decimals_size os h.1 in
    omega (arith, size, rest)

permit_line : (o : List ℕ) → IsPermit o → IsLine (allow_words (address_text o))
permit_line o h =
    let count = length-words (allow_words (address_text o)) in
    let whole = joined_size 46 (map decimal o) in
    let parts = decimals_size o h.octets in
    let most = h.most in
    omega (arith, count, whole, parts, most)

permit_word : (o : List ℕ) → IsPermit o → IsWord (address_text o)
permit_word o h = (address-lacks 32 o (omega arith) h.octets, address-lacks 10 o (omega arith) h.octets)

allowed : (ps before : Permits) → AllByRecursion IsPermit ps → length before + length ps ≤ 4096 → Allowed (map address_text ps) before (before ++ ps)
allowed [] before h few = sym (append-nil before)
allowed (o ∷ os) before h few =
    let count = length-append before (o ∷ []) in
    let same : (before ++ (o ∷ [])) ++ os ≡ before ++ (o ∷ os) = append_assoc before (o ∷ []) os in (
      permit_word o h.0,
      permit_line o h.0,
      (before ++ (o ∷ []), permit_more o before h.0 (omega (arith, few)), subst (λ l. Allowed (map address_text os) (before ++ (o ∷ [])) l) same (allowed os (before ++ (o ∷ [])) h.1 (omega (arith, few, count)))),
    )

-- Names

wire_some : (n : Name) → 1 ≤ length (wire n)
wire_some [] = omega arith
wire_some (l ∷ ls) = omega arith

label_taken : (n : ℕ) (l : List ℕ) → IsLabel l → n + 1 + length l ≤ 255 → label_refusal n l ≡ None
label_taken n l h fits =
    let least = h.least in
    let most = h.most in
    let a : eqb (length l) 0 ≡ false = grind (arith, nat_tests) in
    let b : ltb 63 (length l) ≡ false = grind (arith, nat_tests) in
    let c : ltb 255 (n + 1 + length l) ≡ false = grind (arith, nat_tests) in
    ap (λ t. cond t (Some empty_label) (cond (ltb 63 (length l)) (Some long_label) (cond (ltb 255 (n + 1 + length l)) (Some long_name) None))) a
    ∙ ap (λ t. cond t (Some long_label) (cond (ltb 255 (n + 1 + length l)) (Some long_name) None)) b ∙ ap (λ t. cond t (Some long_name) None) c

labels_taken : (ls : Name) (n : ℕ) → All IsLabel ls → n + length (wire ls) ≤ 256 → labels_refusal n ls ≡ None
labels_taken [] n h fits = refl
labels_taken (l ∷ ls) n h fits =
    let size = length-append l (wire ls) in
    let rest = wire_some ls in
    ap (λ o. option_or o (labels_refusal (n + 1 + length l) ls)) (label_taken n l (All-head IsLabel l ls h) (omega (arith, fits, size, rest)))
    ∙ labels_taken ls (n + 1 + length l) (All-tail IsLabel l ls h) (omega (arith, fits, size))

-- labels joined by dots, with one more dot
dotted_joined : (l : List ℕ) (ls : Name) → dotted_text (l ∷ ls) ≡ join_with_byte 46 (l ∷ ls) ++ (46 ∷ [])
dotted_joined l [] = append-nil (l ++ (46 ∷ []))
dotted_joined l (m ∷ ls) =
    append_assoc l (46 ∷ []) (dotted_text (m ∷ ls)) ∙ ap (λ t. l ++ (46 ∷ t)) (dotted_joined m ls) ∙ sym (append_assoc l (46 ∷ join_with_byte 46 (m ∷ ls)) (46 ∷ []))

final_dot : (t : List ℕ) → without_final_dot (t ++ (46 ∷ [])) ≡ t
final_dot t =
    let count = length-append t (46 ∷ []) in
    let same : length (t ++ (46 ∷ [])) - 1 ≡ length t = omega (arith, count) in
    let ends : ends_with eqb (t ++ (46 ∷ [])) (46 ∷ []) ≡ true = ap (λ n. pointwise eqb (46 ∷ []) (drop n (t ++ (46 ∷ [])))) same ∙ ap (λ l. pointwise eqb (46 ∷ []) l) (drop-append_seam t (46 ∷ [])) in
    ap (λ b. cond b (take (length (t ++ (46 ∷ [])) - 1) (t ++ (46 ∷ []))) (t ++ (46 ∷ []))) ends ∙ ap (λ n. take n (t ++ (46 ∷ []))) same ∙ take-append_seam t (46 ∷ [])

said_bytes : (l : List ℕ) → list_all is_said_byte l ≡ true → (lacks 46 l ≡ true) × (lacks 32 l ≡ true) × (lacks 10 l ≡ true)
said_bytes [] e = (refl, refl, refl)
said_bytes (b ∷ bs) e =
    let t = both_true (is_said_byte b) (list_all is_said_byte bs) e in
    let u = both_true (not (eqb b 46)) (not (eqb b 32) && not (eqb b 10)) t.0 in
    let v = both_true (not (eqb b 32)) (not (eqb b 10)) u.1 in
    let rest = said_bytes bs t.1 in
    (ap (λ x. x && lacks 46 bs) u.0 ∙ rest.0, ap (λ x. x && lacks 32 bs) v.0 ∙ rest.1, ap (λ x. x && lacks 10 bs) v.1 ∙ rest.2)

labels_lack : (n : Name) → is_said_name n ≡ true → AllLack 46 n
labels_lack [] e = tt
labels_lack (l ∷ ls) e = let t = both_true (list_all is_said_byte l) (is_said_name ls) e in ((said_bytes l t.0).0, labels_lack ls t.1)

dotted_lacks : (n : Name) → is_said_name n ≡ true → IsWord (dotted_text n)
dotted_lacks [] e = (refl, refl)
dotted_lacks (l ∷ ls) e =
    let t = both_true (list_all is_said_byte l) (is_said_name ls) e in
    let b = said_bytes l t.0 in
    let rest = dotted_lacks ls t.1 in
    (lacks-append 32 (l ++ (46 ∷ [])) (dotted_text ls) (lacks-append 32 l (46 ∷ []) b.1 refl) rest.0, lacks-append 10 (l ++ (46 ∷ [])) (dotted_text ls) (lacks-append 10 l (46 ∷ []) b.2 refl) rest.1)

name_taken : (t : List ℕ) (l : List ℕ) (ls : Name) → t ≡ join_with_byte 46 (l ∷ ls) → 1 ≤ length t → dotted_parts t ≡ l ∷ ls → labels_refusal 1 (l ∷ ls) ≡ None → name_of_parts t ≡ Ok (l ∷ ls)
name_taken [] l ls e some parts none = absurd (omega arith)
name_taken (c ∷ cs) l ls e some parts none = ap (λ ps. unless_refused (labels_refusal 1 ps) ps) parts ∙ ap (λ o. unless_refused o (l ∷ ls)) none

joined_some : (l : List ℕ) (ls : Name) → 1 ≤ length l → 1 ≤ length (join_with_byte 46 (l ∷ ls))
joined_some l [] h = h
joined_some l (m ∷ ls) h = let sum = length-append l (46 ∷ join_with_byte 46 (m ∷ ls)) in omega (arith, sum, h)

-- such a text is read as the name
dotted_read : (n : Name) → IsName n → is_said_name n ≡ true → name_eq n root ≡ false → zone_word (dotted_text n) ≡ Some n
dotted_read [] h e other' = cc
dotted_read (l ∷ ls) h e other' =
    let t = join_with_byte 46 (l ∷ ls) in
    let first = (All-head IsLabel l ls h.labels).least in
    let whole = h.whole in
    let taken : name_of_parts t ≡ Ok (l ∷ ls) =
    name_taken t l ls refl (joined_some l ls first) (split-joined 46 l ls (labels_lack (l ∷ ls) e)) (labels_taken (l ∷ ls) 1 h.labels (omega (arith, whole))) in
    ap (λ x. option_and_then unless_root (result_ok (from_dotted x))) (dotted_joined l ls) ∙ ap (λ x. option_and_then unless_root (result_ok (name_of_parts x))) (final_dot t) ∙ ap (λ r. option_and_then unless_root (result_ok r)) taken

dotted_size : (n : Name) → length (dotted_text n) + 1 ≡ length (wire n)
dotted_size [] = refl
dotted_size (l ∷ ls) =
    let a = length-append (l ++ (46 ∷ [])) (dotted_text ls) in
    let b = length-append l (46 ∷ []) in
    let c = length-append l (wire ls) in
    let rest = dotted_size ls in
    omega (arith, a, b, c, rest)

not_at : (t : List ℕ) → (length t ≡ 1 → ⊥) → bytes_eq t (codes "@") ≡ false
not_at t h = elim (bytes_eq t (codes "@")) as (λ b. bytes_eq t (codes "@") ≡ b → b ≡ false) [
  | true ↦ λ e. absurd (h (ap (λ (l : List ℕ). length l) (same_text t (codes "@") e)))
  | false ↦ λ e. refl
] refl

dotted_other : (n : Name) → IsName n → bytes_eq (dotted_text n) (codes "@") ≡ false
dotted_other [] h = refl
dotted_other (l ∷ ls) h =
    let first = (All-head IsLabel l ls h.labels).least in
    let size = dotted_size (l ∷ ls) in
    let more = length-append l (wire ls) in
    let some = wire_some ls in
    not_at (dotted_text (l ∷ ls)) (λ same. omega (arith, first, size, more, some, same))

-- Zones

none_by : (n : Name) (z : Zone) (zs : List Zone) (b : Bool) → is_named n z ≡ b → (b || list_any (is_named n) zs) ≡ false → (list_any (is_named n) zs ≡ false → find (is_named n) zs ≡ None)
    → find (is_named n) (z ∷ zs) ≡ None
none_by n z zs true e r rest = cc
none_by n z zs false e r rest = ap (λ b. cond b (Some z) (find (is_named n) zs)) e ∙ rest r

none_named : (n : Name) (zs : List Zone) → list_any (is_named n) zs ≡ false → find (is_named n) zs ≡ None
none_named n [] e = refl
none_named n (z ∷ zs) e = none_by n z zs (is_named n z) refl e (none_named n zs)

zone_line : (z : Zone) → IsZone z → IsLine (zone_words (zone_told z))
zone_line z h =
    let servers = are_servers z.places h.sixteen h.octets in
    let count = length-words (zone_words (zone_told z)) in
    let sizes = servers_size (addresses z.places) servers.0 in
    let few = servers.1 in
    let name = dotted_size z.name in
    let whole = h.name.whole in
    omega (arith, count, sizes, few, name, whole)

zone_more : (z : Zone) (zs : Zones) → IsZone z → is_packed z.places ≡ true → list_any (is_named z.name) zs.configured ≡ false → length zs.configured < 256
    → add_zone z.name (places_of (addresses z.places)) zs ≡ Ok (record { configured = zs.configured ++ (z ∷ []); rule = zs.rule })
zone_more z zs h full new few =
    let room : leb 256 (length zs.configured) ≡ false = grind (arith, nat_tests) in
    let absent : is_zone zs z.name ≡ false = ap (λ o. is_some (option_map (λ (y : Zone). y.places) o)) (none_named z.name zs.configured new) in
    let row : with_zone z.name (places_of (addresses z.places)) zs ≡ record { configured = zs.configured ++ (z ∷ []); rule = zs.rule } =
    (λ i. record { configured = zs.configured ++ (record { name = h.lowered i; places = packed_places z.places h.sixteen full i } ∷ []); rule = zs.rule }) in
    ap (λ b. cond b (Err duplicate) (cond (leb 256 (length zs.configured)) (Err zones_full) (Ok (with_zone z.name (places_of (addresses z.places)) zs)))) absent
    ∙ ap (λ b. cond b (Err zones_full) (Ok (with_zone z.name (places_of (addresses z.places)) zs))) room ∙ ap (λ (r : Zones). Ok r) row

zones_at : List Zone → Rule → Zones
zones_at zs r = record { configured = zs; rule = r }

added : (zs before : List Zone) (r : Rule) → AllByRecursion IsZone zs → are_said before zs ≡ true → length before + length zs ≤ 256
    → Added (map zone_told zs) (record { configured = before; rule = r }) (record { configured = before ++ zs; rule = r })
added [] before r h e few = ap (λ l. record { configured = l; rule = r }) (sym (append-nil before))
added (z ∷ zs) before r h e few =
    let t = both_true (is_said_zone z && not (list_any (is_named z.name) before)) (are_said (before ++ (z ∷ [])) zs) e in
    let u = both_true (is_said_zone z) (not (list_any (is_named z.name) before)) t.0 in
    let v = both_true (not (is_named root z)) (is_said_name z.name && is_packed z.places) u.0 in
    let w = both_true (is_said_name z.name) (is_packed z.places) v.1 in
    let count = length-append before (z ∷ []) in
    let same : (before ++ (z ∷ [])) ++ zs ≡ before ++ (z ∷ zs) = append_assoc before (z ∷ []) zs in (
      dotted_lacks z.name w.0,
      zone_line z h.0,
      dotted_other z.name h.0.name,
      are_servers z.places h.0.sixteen h.0.octets,
      (
        z.name,
        dotted_read z.name h.0.name w.0 (false_of (is_named root z) v.0),
        (
          record { configured = before ++ (z ∷ []); rule = r },
          zone_more z (record { configured = before; rule = r }) h.0 w.1 (false_of (list_any (is_named z.name) before) u.1) (omega (arith, few)),
          subst (λ l. Added (map zone_told zs) (record { configured = before ++ (z ∷ []); rule = r }) (record { configured = l; rule = r })) same (added zs (before ++ (z ∷ [])) r h.1 t.1 (omega (arith, few, count))),
        ),
      ),
    )

-- The head

version_said : (r : Rule) → (version_of r ≡ 1) ⊎ (version_of r ≡ 2)
version_said one = inl refl
version_said two = inr refl

rule_back : (r : Rule) → rule_under (version_of r) ≡ r
rule_back one = refl
rule_back two = refl

refused_by : (b : Bool) (z : Zone) (zs : List Zone) → cond b (zones_refusal z zs) (Some Rootless) ≡ None → (b ≡ true) × (zones_refusal z zs ≡ None)
refused_by true z zs e = (refl, e)
refused_by false z zs e = cc

unsaid_by : (b : Bool) → cond b None (Some Unsaid) ≡ None → b ≡ true
unsaid_by true e = refl
unsaid_by false e = cc

told_by : (c : Config) (seed : List ℕ) (zs : List Zone) → c.zones.configured ≡ zs → AreParts c → (length seed ≡ 32) × AllByRecursion (λ b. b < 256) seed → head_refusal zs ≡ None → AllByRecursion IsZone zs → length zs ≤ 256
    → IsTold (told_of c seed) c.permit c.zones
told_by c seed [] same parts seeded e typed few = cc
told_by c seed (z ∷ zs) same parts seeded e typed few =
    let r = refused_by (is_said_root z) z zs e in
    let said = unsaid_by (are_said (z ∷ []) zs) r.1 in
    let t = both_true (is_named root z) (not (all_empty z.places) && is_packed z.places) r.0 in
    let u = both_true (not (all_empty z.places)) (is_packed z.places) t.1 in
    let servers : first_servers c.zones.configured ≡ addresses z.places = ap first_servers same in
    let size = parts.size in
    let first : record { name = root; places = places_of (addresses z.places) } ≡ z = (λ i. record { name = sym (name_eq-same z.name root t.0) i; places = packed_places z.places typed.0.sixteen u.1 i }) in
    let zones : root_zones (told_of c seed) ≡ record { configured = z ∷ []; rule = c.zones.rule } =
    (λ i. record { configured = record { name = root; places = places_of (servers i) } ∷ []; rule = rule_back c.zones.rule i }) ∙ ap (λ y. record { configured = y ∷ []; rule = c.zones.rule }) first in
    let whole : record { configured = z ∷ zs; rule = c.zones.rule } ≡ c.zones = ap (λ l. record { configured = l; rule = c.zones.rule }) (sym same) in
    record {
      version = version_said c.zones.rule;
      size = omega (arith, size);
      allowed = allowed c.permit [] parts.permits (let most = parts.most in omega (arith, most));
      some = subst (λ l. 1 ≤ length l) (sym servers) (some_servers z.places (false_of (all_empty z.places) u.0));
      are = subst (λ l. AreServers l) (sym servers) (are_servers z.places typed.0.sixteen typed.0.octets);
      added = subst (λ l. Added (map zone_told (drop 1 l)) (root_zones (told_of c seed)) c.zones) (sym same)
          (subst (λ y. Added (map zone_told zs) y c.zones) (sym zones) (subst (λ y. Added (map zone_told zs) (record { configured = z ∷ []; rule = c.zones.rule }) y) whole (added zs (z ∷ []) c.zones.rule typed.1 said (omega (arith, few)))));
      seed = seeded;
    }

-- The head of a configuration that has one can be read, as that configuration and that seed.
pub is_told : (c : Config) (seed : List ℕ) → AreParts c → length seed ≡ 32 → AllByRecursion (λ b. b < 256) seed → head_refusal c.zones.configured ≡ None → IsTold (told_of c seed) c.permit c.zones
is_told c seed parts many small e = told_by c seed c.zones.configured refl parts (many, small) e parts.zones parts.few
