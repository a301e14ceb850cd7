-- A text that is read as a head is the text of that head.
use Rattle.std.proofs.Common.{◌≡◌, ℕ, ◌+◌, ◌^◌, ◌<◌, ◌≤◌, Bool, true, false, not, ◌&&◌, ◌==◌, cond, eqb, leb, min, max, bytes_eq, List, [], ◌∷◌, ◌++◌, length, map, codes, decimal, Option, Some, None, Result, Ok, Err, option_map, option_and_then, refl, sym, ◌∙◌, ap, subst, arith, length-append, ◌⊎◌, inl, inr}
use Rattle.std.specs.List.{list_all, onto_first, join_with_byte, AllByRecursion}
use Rattle.std.proofs.lemmas.Bool.Decides.{nat_tests}
use Rattle.std.proofs.lemmas.List.{length-map}
use Rattle.std.proofs.lemmas.List.Splits.{join_with_byte-slice_split}
use Rattle.std.proofs.lemmas.Fmt.{decimal_digit}
use Rattle.dc_model.specs.Line.{words}
use Rattle.dc_model.specs.Name.{Name, root, address_of}
use Rattle.dc_model.specs.Places.{places_of, is_empty_place}
use Rattle.dc_model.specs.Rules.{Zones, ZoneRefusal, add_zone, Permits, PermitRefusal, add_permit, if_filled}
use Rattle.dc_text.specs.Numbers.{number_below}
use Rattle.dc_text.specs.Parts.{parts_of}
use Rattle.dc_script.specs.Script.{Words, words_of, pieces_of, most_line, is_lower_digit, bytes_spelled, at_end}
use Rattle.dc_model.specs.Address.{address_text}
use Rattle.dc_script.specs.Text.{bytes_text}
use Rattle.dc_script.specs.Heading.{HeadLine, version_line, size_line, forward_line, allow_line, root_line, zone_line, seed_line, begin_line, version_word, size_word, yes_word, seed_word, server_word, servers_said, places_said, zone_word, only_word, root_said, zone_said, heading_by, heading_said, heading_of}
use Rattle.dc_script.specs.Head.{Head, Stage, at_version, at_size, at_forward, at_allows, at_zones, at_begin, refused, going, with_version, with_size, with_forward, with_permit, with_zone, step_by, step_said, head_step, behind, other, head_from, head_of, no_head}
use Rattle.dc_script.specs.HeadText.{ZoneTold, HeadTold, yes_text, allow_words, zone_words, head_words, lines_onto, head_text, IsWord, IsLine, IsServer, AreServers, Allowed, Added, root_zones, BeginsWithHead}
use Rattle.dc_script.proofs.Hex.{bytes_text_some}
use Rattle.dc_script.proofs.Spelling.{lacks, AllLack}
use Rattle.dc_script.proofs.LineBack.{bind_back, map_back, chosen, both_true, if_true, same_text, number_back, address_back, IsFour, spelled_back}

-- Parts of a text

onto_lacks : (b c : ℕ) (parts : Words) → not (eqb c b) ≡ true → AllLack b parts → AllLack b (onto_first c parts)
onto_lacks b c [] e h = (ap (λ t. t && true) e, tt)
onto_lacks b c (p ∷ ps) e h = (ap (λ t. t && lacks b p) e ∙ h.0, h.1)

not_of : (t : Bool) → t ≡ false → not t ≡ true
not_of true e = absurd cc
not_of false e = refl

-- No part has the byte between the parts.
parts_lack : (b : ℕ) (text : List ℕ) → AllLack b (parts_of b text)
parts_lack b [] = (refl, tt)
parts_lack b (c ∷ cs) = elim (eqb c b) as (λ t. eqb c b ≡ t → AllLack b (cond t ([] ∷ parts_of b cs) (onto_first c (parts_of b cs)))) [
  | true ↦ λ e. (refl, parts_lack b cs)
  | false ↦ λ e. onto_lacks b c (parts_of b cs) (not_of (eqb c b) e) (parts_lack b cs)
] refl

lack_by : (b c : ℕ) (parts : Words) (t : Bool) → not (eqb c b) ≡ true → AllLack b parts → AllLack b (cond t ([] ∷ parts) (onto_first c parts))
lack_by b c parts true e h = (refl, h)
lack_by b c parts false e h = onto_lacks b c parts e h

-- Nor one that the text lacks.
lack_parts : (b s : ℕ) (text : List ℕ) → lacks b text ≡ true → AllLack b (parts_of s text)
lack_parts b s [] h = (refl, tt)
lack_parts b s (c ∷ cs) h = let p = both_true (not (eqb c b)) (lacks b cs) h in lack_by b c (parts_of s cs) (eqb c s) p.0 (lack_parts b s cs p.1)

-- Pieces that are joined.
join_more : (x : List ℕ) (xs : Words) → 0 < length xs → join_with_byte 10 (x ∷ xs) ≡ x ++ (10 ∷ join_with_byte 10 xs)
join_more x [] h = absurd (omega arith)
join_more x (y ∷ ys) h = refl

join_lines : (wss : List Words) (rest : Words) → 0 < length rest → join_with_byte 10 (map words wss ++ rest) ≡ lines_onto wss (join_with_byte 10 rest)
join_lines [] rest h = refl
join_lines (ws ∷ wss) rest h =
    let sum = length-append (map words wss) rest in
    join_more (words ws) (map words wss ++ rest) (omega (arith, sum, h)) ∙ ap (λ t. words ws ++ (10 ∷ t)) (join_lines wss rest h)

-- What the words of a line are

abbrev LineText : HeadLine → Words → Type 0
LineText (version_line v) ws = (ws ≡ codes "dnscache-script" ∷ decimal v ∷ []) × ((v ≡ 1) ⊎ (v ≡ 2))
LineText (size_line s) ws = (n : ℕ) × (ws ≡ codes "cachesize" ∷ decimal n ∷ []) × (n < 2 ^ 64) × (s ≡ min (max n 100) 1000000000)
LineText (forward_line b) ws = ws ≡ codes "forwardonly" ∷ yes_text b ∷ []
LineText (allow_line t) ws = ws ≡ allow_words t
LineText (root_line places) ws = (servers : List (List ℕ)) × (ws ≡ codes "zone" ∷ codes "@" ∷ map address_text servers) × (1 ≤ length servers) × AreServers servers × (places ≡ places_of servers)
LineText (zone_line name places) ws = (z : ZoneTold) × (ws ≡ zone_words z) × (bytes_eq z.text (codes "@") ≡ false) × AreServers z.servers × (zone_word z.text ≡ Some name) × (places ≡ places_of z.servers)
LineText (seed_line s) ws = (ws ≡ codes "seed" ∷ bytes_text s ∷ []) × ((length s ≡ 32) × AllByRecursion (λ b. b < 256) s)
LineText begin_line ws = ws ≡ codes "begin" ∷ []

only_back : (ws : Words) (w : List ℕ) → only_word ws ≡ Some w → ws ≡ w ∷ []
unfolding only_word
only_back [] w e = absurd cc
only_back (v ∷ []) w e = let same : v ≡ w = cc in ap (λ u. u ∷ []) same
only_back (v ∷ u ∷ ws) w e = absurd cc

-- Of a line with one word more.
one_back : {A : Type 0} (read : List ℕ → Option A) (ws : Words) (v : A) → option_and_then read (only_word ws) ≡ Some v → (w : List ℕ) × (ws ≡ w ∷ []) × (read w ≡ Some v)
one_back read ws v e = let p = bind_back read (only_word ws) v e in (p.0, only_back ws p.0 p.1, p.2)

version_back : (w : List ℕ) (v : ℕ) → version_word w ≡ Some v → (w ≡ decimal v) × ((v ≡ 1) ⊎ (v ≡ 2))
version_back w v e = elim (chosen (bytes_eq w (codes "1")) 1 (cond (bytes_eq w (codes "2")) (Some 2) None) v e) [
  | inl p ↦ (same_text w (codes "1") p.0 ∙ sym (decimal_digit 1 (omega arith)) ∙ ap decimal p.1, inl (sym p.1))
  | inr p ↦ let q = if_true (bytes_eq w (codes "2")) 2 v p.1 in (same_text w (codes "2") q.0 ∙ sym (decimal_digit 2 (omega arith)) ∙ ap decimal q.1, inr (sym q.1))
]

yes_back : (w : List ℕ) (b : Bool) → yes_word w ≡ Some b → w ≡ yes_text b
yes_back w b e = elim (chosen (bytes_eq w (codes "yes")) true (cond (bytes_eq w (codes "no")) (Some false) None) b e) [
  | inl p ↦ same_text w (codes "yes") p.0 ∙ ap yes_text p.1
  | inr p ↦ let q = if_true (bytes_eq w (codes "no")) false b p.1 in same_text w (codes "no") q.0 ∙ ap yes_text q.1
]

seed_back : (w s : List ℕ) → seed_word w ≡ Some s → (w ≡ bytes_text s) × ((length s ≡ 32) × AllByRecursion (λ b. b < 256) s)
seed_back w s e =
    let p = if_true (list_all is_lower_digit w && length w == 64) (bytes_spelled w) s e in
    let q = both_true (list_all is_lower_digit w) (length w == 64) p.0 in
    let many : length w ≡ 64 = let t = q.1 in grind (arith, nat_tests) in
    let are = spelled_back w q.0 (omega (arith, many)) in
    let half = are.half in
    let P : List ℕ → Type 0 = λ t. (w ≡ bytes_text t) × ((length t ≡ 32) × AllByRecursion (λ b. b < 256) t) in
    subst P p.1 (sym are.text ∙ sym (bytes_text_some (bytes_spelled w) (omega (arith, half, many))), (omega (arith, half, many), are.small))

filled_back : (a b : List ℕ) → if_filled a ≡ Some b → (is_empty_place b ≡ false) × (a ≡ b)
filled_back a b e = elim (is_empty_place a) as (λ t. is_empty_place a ≡ t → cond t None (Some a) ≡ Some b → (is_empty_place b ≡ false) × (a ≡ b)) [
  | true ↦ λ t h. absurd cc
  | false ↦ λ t h. let same : a ≡ b = cc in (subst (λ c. is_empty_place c ≡ false) same t, same)
] refl e

server_back : (w a : List ℕ) → server_word w ≡ Some a → (w ≡ address_text a) × IsServer a
server_back w a e =
    let p = bind_back if_filled (address_of w) a e in
    let q = filled_back p.0 a p.2 in
    let one = address_back w p.0 p.1 in
    (one.0 ∙ ap address_text q.1, (subst IsFour q.1 one.1, q.0))

servers_back : (ws : Words) (as' : List (List ℕ)) → servers_said ws ≡ Some as' → (ws ≡ map address_text as') × AllByRecursion IsServer as'
servers_back [] [] e = (refl, tt)
servers_back [] (a ∷ as') e = absurd cc
servers_back (w ∷ ws) as' e =
    let p = bind_back (λ a. option_map (λ bs. a ∷ bs) (servers_said ws)) (server_word w) as' e in
    let q = map_back (λ bs. p.0 ∷ bs) (servers_said ws) as' p.2 in
    let one = server_back w p.0 p.1 in
    let rest = servers_back ws q.0 q.1 in
    let P : List (List ℕ) → Type 0 = λ bs. (w ∷ ws ≡ map address_text bs) × AllByRecursion IsServer bs in
    subst P q.2 (ap (λ u. u ∷ ws) one.0 ∙ ap (λ us. address_text p.0 ∷ us) rest.0, (one.1, rest.1))

-- The servers that words say.
record ArePlacesOf (ws : Words) (places : List (List ℕ)) : Type 0 where
  servers : List (List ℕ)
  is : ws ≡ map address_text servers
  are : AreServers servers
  places_are : places ≡ places_of servers

places_back : (ws : Words) (places : List (List ℕ)) → places_said ws ≡ Some places → ArePlacesOf ws places
unfolding places_said
places_back ws places e = elim (leb (length ws) 16) as (λ t. leb (length ws) 16 ≡ t → cond t (option_map places_of (servers_said ws)) None ≡ Some places → ArePlacesOf ws places) [
  | true ↦ λ t h.
      let p = map_back places_of (servers_said ws) places h in
      let q = servers_back ws p.0 p.1 in
      let few : length ws ≤ 16 = grind (arith, nat_tests) in
      let count = length-map p.0 address_text in
      record { servers = p.0; is = q.0; are = (q.1, omega (arith, count, few, ap length q.0)); places_are = sym p.2 }
  | false ↦ λ t h. absurd cc
] refl e

root_back : (ws : Words) (line : HeadLine) → root_said ws ≡ Some line → LineText line (codes "zone" ∷ codes "@" ∷ ws)
root_back [] line e = absurd cc
root_back (w ∷ ws) line e =
    let p = map_back root_line (places_said (w ∷ ws)) line e in
    let q = places_back (w ∷ ws) p.0 p.1 in
    let count = length-map q.servers address_text in
    subst (λ l. LineText l (codes "zone" ∷ codes "@" ∷ w ∷ ws)) p.2
    (q.servers, ap (λ u. codes "zone" ∷ codes "@" ∷ u) q.is, omega (arith, count, ap length q.is), q.are, q.places_are)

zone_back : (ws : Words) (line : HeadLine) → zone_said ws ≡ Some line → LineText line (codes "zone" ∷ ws)
unfolding zone_said
zone_back [] line e = absurd cc
zone_back (w ∷ ws) line e = elim (bytes_eq w (codes "@")) as (λ t. bytes_eq w (codes "@") ≡ t
    → cond t (root_said ws) (option_and_then (λ name. option_map (zone_line name) (places_said ws)) (zone_word w)) ≡ Some line → LineText line (codes "zone" ∷ w ∷ ws)) [
      | true ↦ λ t h. subst (λ u. LineText line (codes "zone" ∷ u ∷ ws)) (sym (same_text w (codes "@") t)) (root_back ws line h)
      | false ↦ λ t h.
          let p = bind_back (λ name. option_map (zone_line name) (places_said ws)) (zone_word w) line h in
          let q = map_back (zone_line p.0) (places_said ws) line p.2 in
          let r = places_back ws q.0 q.1 in
          subst (λ l. LineText l (codes "zone" ∷ w ∷ ws)) q.2
          (record { text = w; servers = r.servers }, ap (λ u. codes "zone" ∷ w ∷ u) r.is, t, r.are, p.1, r.places_are)
    ] refl e

-- A first word was tested.
first_by : (w t : List ℕ) (ws : Words) (line : HeadLine) (o others : Option HeadLine) → (o ≡ Some line → LineText line (t ∷ ws)) → (others ≡ Some line → LineText line (w ∷ ws))
    → cond (bytes_eq w t) o others ≡ Some line → LineText line (w ∷ ws)
first_by w t ws line o others yes' no' e = elim (bytes_eq w t) as (λ b. bytes_eq w t ≡ b → cond b o others ≡ Some line → LineText line (w ∷ ws)) [
  | true ↦ λ b h. subst (λ u. LineText line (u ∷ ws)) (sym (same_text w t b)) (yes' h)
  | false ↦ λ b h. no' h
] refl e

version_said : (ws : Words) (line : HeadLine) → option_map version_line (option_and_then version_word (only_word ws)) ≡ Some line → LineText line (codes "dnscache-script" ∷ ws)
version_said ws line e =
    let p = map_back version_line (option_and_then version_word (only_word ws)) line e in
    let q = one_back version_word ws p.0 p.1 in
    let r = version_back q.0 p.0 q.2 in
    subst (λ l. LineText l (codes "dnscache-script" ∷ ws)) p.2 (ap (λ u. codes "dnscache-script" ∷ u) q.1 ∙ ap (λ u. codes "dnscache-script" ∷ u ∷ []) r.0, r.1)

size_said : (ws : Words) (line : HeadLine) → option_map size_line (option_and_then size_word (only_word ws)) ≡ Some line → LineText line (codes "cachesize" ∷ ws)
size_said ws line e =
    let p = map_back size_line (option_and_then size_word (only_word ws)) line e in
    let q = one_back size_word ws p.0 p.1 in
    let s = map_back (λ n. min (max n 100) 1000000000) (number_below (2 ^ 64) q.0) p.0 q.2 in
    let r = number_back (2 ^ 64) q.0 s.0 (omega arith) s.1 in
    subst (λ l. LineText l (codes "cachesize" ∷ ws)) p.2 (s.0, ap (λ u. codes "cachesize" ∷ u) q.1 ∙ ap (λ u. codes "cachesize" ∷ u ∷ []) r.0, r.1, sym s.2)

forward_said : (ws : Words) (line : HeadLine) → option_map forward_line (option_and_then yes_word (only_word ws)) ≡ Some line → LineText line (codes "forwardonly" ∷ ws)
forward_said ws line e =
    let p = map_back forward_line (option_and_then yes_word (only_word ws)) line e in
    let q = one_back yes_word ws p.0 p.1 in
    subst (λ l. LineText l (codes "forwardonly" ∷ ws)) p.2 (ap (λ u. codes "forwardonly" ∷ u) q.1 ∙ ap (λ u. codes "forwardonly" ∷ u ∷ []) (yes_back q.0 p.0 q.2))

allow_said : (ws : Words) (line : HeadLine) → option_map allow_line (only_word ws) ≡ Some line → LineText line (codes "allow" ∷ ws)
allow_said ws line e =
    let p = map_back allow_line (only_word ws) line e in
    subst (λ l. LineText l (codes "allow" ∷ ws)) p.2 (ap (λ u. codes "allow" ∷ u) (only_back ws p.0 p.1))

seed_said : (ws : Words) (line : HeadLine) → option_map seed_line (option_and_then seed_word (only_word ws)) ≡ Some line → LineText line (codes "seed" ∷ ws)
seed_said ws line e =
    let p = map_back seed_line (option_and_then seed_word (only_word ws)) line e in
    let q = one_back seed_word ws p.0 p.1 in
    let r = seed_back q.0 p.0 q.2 in
    subst (λ l. LineText l (codes "seed" ∷ ws)) p.2 (ap (λ u. codes "seed" ∷ u) q.1 ∙ ap (λ u. codes "seed" ∷ u ∷ []) r.0, r.1)

begin_said : (ws : Words) (line : HeadLine) → at_end ws begin_line ≡ Some line → LineText line (codes "begin" ∷ ws)
unfolding at_end
begin_said [] line e = let same : begin_line ≡ line = cc in subst (λ l. LineText l (codes "begin" ∷ [])) same refl
begin_said (w ∷ ws) line e = absurd cc

heading_back : (ws : Words) (line : HeadLine) → heading_said ws ≡ Some line → LineText line ws
unfolding heading_by
heading_back [] line e = absurd cc
heading_back (w ∷ ws) line e =
    first_by w (codes "dnscache-script") ws line _ _ (version_said ws line)
    (first_by w (codes "cachesize") ws line _ _ (size_said ws line)
    (first_by w (codes "forwardonly") ws line _ _ (forward_said ws line)
    (first_by w (codes "allow") ws line _ _ (allow_said ws line)
    (first_by w (codes "zone") ws line _ _ (zone_back ws line)
    (first_by w (codes "seed") ws line _ _ (seed_said ws line)
    (first_by w (codes "begin") ws line _ None (begin_said ws line) (λ h. absurd cc))))))) e

-- What a step was made of

pub record IsStep (stage : Stage) (h : Head) (text : List ℕ) : Type 0 where
  ws : Words
  line : HeadLine
  text_is : text ≡ words ws
  spaces : AllLack 32 ws
  feeds : lacks 10 text ≡ true → AllLack 10 ws
  small : length text ≤ most_line
  says : LineText line ws
  step : head_step stage h text ≡ step_by stage h line

step_of : (stage : Stage) (h : Head) (text : List ℕ) → (head_step stage h text ≡ refused) ⊎ IsStep stage h text
unfolding head_step heading_of
step_of stage h text = elim (leb (length text) most_line) as (λ t. leb (length text) most_line ≡ t → (cond t (step_said stage h (heading_said (words_of text))) refused ≡ refused) ⊎ IsStep stage h text) [
  | true ↦ λ t. elim (heading_said (words_of text)) as (λ o. heading_said (words_of text) ≡ o → (step_said stage h o ≡ refused) ⊎ IsStep stage h text) [
    | None ↦ λ o. inl refl
    | Some line ↦ λ o. inr (record {
      ws = words_of text;
      line = line;
      text_is = sym (join_with_byte-slice_split 32 text);
      spaces = parts_lack 32 text;
      feeds = lack_parts 10 32 text;
      small = let s = t in grind (arith, nat_tests);
      says = heading_back (words_of text) line o;
      step = ap (λ b. cond b (step_said stage h (heading_said (words_of text))) refused) t ∙ ap (step_said stage h) o;
    })
  ] refl
  | false ↦ λ t. inl refl
] refl

-- A line of a head that is whole.
text_back : (k n : ℕ) (stage : Stage) (g h : Head) (text p : List ℕ) (ps rest : Words) → head_from k (going stage g) (text ∷ p ∷ ps) ≡ behind h n rest
    → (s : IsStep stage g text) × (head_from (k + 1) (step_by stage g s.line) (p ∷ ps) ≡ behind h n rest)
unfolding head_from
text_back k n stage g h text p ps rest e = elim (step_of stage g text) [
  | inl r ↦ let wrong : other (k + 1) ≡ behind h n rest = sym (ap (λ t. head_from (k + 1) t (p ∷ ps)) r) ∙ e in absurd cc
  | inr s ↦ (s, sym (ap (λ t. head_from (k + 1) t (p ∷ ps)) s.step) ∙ e)
]

-- The end of a head

record BeginBack (ps : Words) (g h : Head) (rest : Words) : Type 0 where
  is : ps ≡ words (codes "begin" ∷ []) ∷ rest
  head : h ≡ g
  some : 0 < length rest

begin_by : (line : HeadLine) (k n : ℕ) (text p : List ℕ) (ps : Words) (g h : Head) (rest ws : Words) → text ≡ words ws → LineText line ws
    → head_from k (step_by at_begin g line) (p ∷ ps) ≡ behind h n rest → BeginBack (text ∷ p ∷ ps) g h rest
unfolding step_by head_from
begin_by begin_line k n text p ps g h rest ws t l e =
    let same : p ∷ ps ≡ rest = cc in
    record { is = ap (λ u. u ∷ p ∷ ps) (t ∙ ap words l) ∙ ap (λ r. words (codes "begin" ∷ []) ∷ r) same; head = cc; some = omega (arith, ap length same) }
begin_by line k n text p ps g h rest ws t l e = absurd cc

begin_back : (ps : Words) (k n : ℕ) (g h : Head) (rest : Words) → head_from k (going at_begin g) ps ≡ behind h n rest → BeginBack ps g h rest
unfolding head_from
begin_back [] k n g h rest e = absurd cc
begin_back (text ∷ []) k n g h rest e = absurd cc
begin_back (text ∷ p ∷ ps) k n g h rest e =
    let s = text_back k n at_begin g h text p ps rest e in
    begin_by s.0.line (k + 1) n text p ps g h rest s.0.ws s.0.text_is s.0.says s.1

-- Zones

abbrev last_words : List ℕ → List Words
last_words seed = (codes "seed" ∷ bytes_text seed ∷ []) ∷ (codes "begin" ∷ []) ∷ []

record ZonesBack (ps : Words) (g h : Head) (rest : Words) : Type 0 where
  zones : List ZoneTold
  new : Zones
  seed : List ℕ
  added : Added zones g.config.zones new
  seeded : (length seed ≡ 32) × AllByRecursion (λ b. b < 256) seed
  is : ps ≡ map words (map zone_words zones ++ last_words seed) ++ rest
  head : h ≡ record g { config = record g.config { zones = new }; seed = seed }
  some : 0 < length rest

zone_added : (name : Name) (z : ZoneTold) (places : List (List ℕ)) (k n : ℕ) (text p : List ℕ) (ps : Words) (g h : Head) (rest : Words) (r : Result Zones ZoneRefusal)
    → add_zone name places g.config.zones ≡ r → text ≡ words (zone_words z) → IsWord z.text → IsLine (zone_words z) → bytes_eq z.text (codes "@") ≡ false → AreServers z.servers → zone_word z.text ≡ Some name → places ≡ places_of z.servers
    → ((g' : Head) → head_from k (going at_zones g') (p ∷ ps) ≡ behind h n rest → ZonesBack (p ∷ ps) g' h rest)
    → head_from k (with_zone g r) (p ∷ ps) ≡ behind h n rest → ZonesBack (text ∷ p ∷ ps) g h rest
unfolding head_from
zone_added name z places k n text p ps g h rest (Ok zones) a t word line other' servers named are again e =
    let b = again (record g { config = record g.config { zones = zones } }) e in
    record {
      zones = z ∷ b.zones;
      new = b.new;
      seed = b.seed;
      added = (word, line, other', servers, (name, named, (zones, ap (λ q. add_zone name q g.config.zones) (sym are) ∙ a, b.added)));
      seeded = b.seeded;
      is = ap (λ u. u ∷ p ∷ ps) t ∙ ap (λ r. words (zone_words z) ∷ r) b.is;
      head = b.head;
      some = b.some;
    }
zone_added name z places k n text p ps g h rest (Err why) a t word line other' servers named are again e = absurd cc

zones_by : (line : HeadLine) (k n : ℕ) (text p : List ℕ) (ps : Words) (g h : Head) (rest ws : Words) → text ≡ words ws → AllLack 32 ws → AllLack 10 ws → length text ≤ most_line → LineText line ws
    → ((g' : Head) → head_from k (going at_zones g') (p ∷ ps) ≡ behind h n rest → ZonesBack (p ∷ ps) g' h rest)
    → head_from k (step_by at_zones g line) (p ∷ ps) ≡ behind h n rest → ZonesBack (text ∷ p ∷ ps) g h rest
unfolding step_by head_from
zones_by (zone_line name places) k n text p ps g h rest ws t spaces feeds small l again e =
    let z = l.0 in
    let is : ws ≡ zone_words z = l.1 in
    let whole : text ≡ words (zone_words z) = t ∙ ap words is in
    let one = subst (λ u. AllLack 32 u) is spaces in
    let two = subst (λ u. AllLack 10 u) is feeds in
    zone_added name z places k n text p ps g h rest (add_zone name places g.config.zones) refl whole (one.1.0, two.1.0) (subst (λ u. length u ≤ most_line) whole small) l.2 l.3 l.4 l.5 again e
zones_by (seed_line seed) k n text p ps g h rest ws t spaces feeds small l again e =
    let b = begin_back (p ∷ ps) k n (record g { seed = seed }) h rest e in
    record {
      zones = [];
      new = g.config.zones;
      seed = seed;
      added = refl;
      seeded = l.1;
      is = ap (λ u. u ∷ p ∷ ps) (t ∙ ap words l.0) ∙ ap (λ r. words (codes "seed" ∷ bytes_text seed ∷ []) ∷ r) b.is;
      head = b.head;
      some = b.some;
    }
zones_by line k n text p ps g h rest ws t spaces feeds small l again e = absurd cc

zones_back : (ps : Words) (k n : ℕ) (g h : Head) (rest : Words) → AllLack 10 ps → head_from k (going at_zones g) ps ≡ behind h n rest → ZonesBack ps g h rest
unfolding head_from
zones_back [] k n g h rest lack e = absurd cc
zones_back (text ∷ []) k n g h rest lack e = absurd cc
zones_back (text ∷ p ∷ ps) k n g h rest lack e =
    let s = text_back k n at_zones g h text p ps rest e in
    zones_by s.0.line (k + 1) n text p ps g h rest s.0.ws s.0.text_is s.0.spaces (s.0.feeds lack.0) s.0.small s.0.says (λ g' e'. zones_back (p ∷ ps) (k + 1) n g' h rest lack.1 e') s.1

-- Permissions, and the root's zone

abbrev root_words : List (List ℕ) → Words
root_words servers = codes "zone" ∷ codes "@" ∷ map address_text servers

record AllowsBack (ps : Words) (g h : Head) (rest : Words) : Type 0 where
  allows : List (List ℕ)
  permits : Permits
  servers : List (List ℕ)
  mid : Zones
  zones : List ZoneTold
  new : Zones
  seed : List ℕ
  allowed : Allowed allows g.config.permit permits
  one : 1 ≤ length servers
  are : AreServers servers
  root_added : add_zone root (places_of servers) g.config.zones ≡ Ok mid
  added : Added zones mid new
  seeded : (length seed ≡ 32) × AllByRecursion (λ b. b < 256) seed
  is : ps ≡ map words (map allow_words allows ++ (root_words servers ∷ (map zone_words zones ++ last_words seed))) ++ rest
  head : h ≡ record g { config = record g.config { permit = permits; zones = new }; seed = seed }
  some : 0 < length rest

allow_added : (allow : List ℕ) (k n : ℕ) (text p : List ℕ) (ps : Words) (g h : Head) (rest : Words) (r : Result Permits PermitRefusal)
    → add_permit allow g.config.permit ≡ r → text ≡ words (allow_words allow) → IsWord allow → IsLine (allow_words allow)
    → ((g' : Head) → head_from k (going at_allows g') (p ∷ ps) ≡ behind h n rest → AllowsBack (p ∷ ps) g' h rest)
    → head_from k (with_permit g r) (p ∷ ps) ≡ behind h n rest → AllowsBack (text ∷ p ∷ ps) g h rest
unfolding head_from
allow_added allow k n text p ps g h rest (Ok permits) a t word line again e =
    let b = again (record g { config = record g.config { permit = permits } }) e in
    record {
      allows = allow ∷ b.allows;
      permits = b.permits;
      servers = b.servers;
      mid = b.mid;
      zones = b.zones;
      new = b.new;
      seed = b.seed;
      allowed = (word, line, (permits, a, b.allowed));
      one = b.one;
      are = b.are;
      root_added = b.root_added;
      added = b.added;
      seeded = b.seeded;
      is = ap (λ u. u ∷ p ∷ ps) t ∙ ap (λ r. words (allow_words allow) ∷ r) b.is;
      head = b.head;
      some = b.some;
    }
allow_added allow k n text p ps g h rest (Err why) a t word line again e = absurd cc

root_by : (servers places : List (List ℕ)) (k n : ℕ) (text p : List ℕ) (ps : Words) (g h : Head) (rest : Words) (r : Result Zones ZoneRefusal)
    → add_zone root places g.config.zones ≡ r → text ≡ words (root_words servers) → 1 ≤ length servers → AreServers servers → places ≡ places_of servers → AllLack 10 (p ∷ ps)
    → head_from k (with_zone g r) (p ∷ ps) ≡ behind h n rest → AllowsBack (text ∷ p ∷ ps) g h rest
unfolding head_from
root_by servers places k n text p ps g h rest (Ok mid) a t some servers_are are lack e =
    let b = zones_back (p ∷ ps) k n (record g { config = record g.config { zones = mid } }) h rest lack e in
    record {
      allows = [];
      permits = g.config.permit;
      servers = servers;
      mid = mid;
      zones = b.zones;
      new = b.new;
      seed = b.seed;
      allowed = refl;
      one = some;
      are = servers_are;
      root_added = ap (λ q. add_zone root q g.config.zones) (sym are) ∙ a;
      added = b.added;
      seeded = b.seeded;
      is = ap (λ u. u ∷ p ∷ ps) t ∙ ap (λ r. words (root_words servers) ∷ r) b.is;
      head = b.head;
      some = b.some;
    }
root_by servers places k n text p ps g h rest (Err why) a t some servers_are are lack e = absurd cc

allows_by : (line : HeadLine) (k n : ℕ) (text p : List ℕ) (ps : Words) (g h : Head) (rest ws : Words) → text ≡ words ws → AllLack 32 ws → AllLack 10 ws → length text ≤ most_line → LineText line ws
    → AllLack 10 (p ∷ ps) → ((g' : Head) → head_from k (going at_allows g') (p ∷ ps) ≡ behind h n rest → AllowsBack (p ∷ ps) g' h rest)
    → head_from k (step_by at_allows g line) (p ∷ ps) ≡ behind h n rest → AllowsBack (text ∷ p ∷ ps) g h rest
unfolding step_by head_from
allows_by (allow_line allow) k n text p ps g h rest ws t spaces feeds small l lack again e =
    let whole : text ≡ words (allow_words allow) = t ∙ ap words l in
    let one = subst (λ u. AllLack 32 u) l spaces in
    let two = subst (λ u. AllLack 10 u) l feeds in
    allow_added allow k n text p ps g h rest (add_permit allow g.config.permit) refl whole (one.1.0, two.1.0) (subst (λ u. length u ≤ most_line) whole small) again e
allows_by (root_line places) k n text p ps g h rest ws t spaces feeds small l lack again e =
    root_by l.0 places k n text p ps g h rest (add_zone root places g.config.zones) refl (t ∙ ap words l.1) l.2 l.3 l.4 lack e
allows_by line k n text p ps g h rest ws t spaces feeds small l lack again e = absurd cc

allows_back : (ps : Words) (k n : ℕ) (g h : Head) (rest : Words) → AllLack 10 ps → head_from k (going at_allows g) ps ≡ behind h n rest → AllowsBack ps g h rest
unfolding head_from
allows_back [] k n g h rest lack e = absurd cc
allows_back (text ∷ []) k n g h rest lack e = absurd cc
allows_back (text ∷ p ∷ ps) k n g h rest lack e =
    let s = text_back k n at_allows g h text p ps rest e in
    allows_by s.0.line (k + 1) n text p ps g h rest s.0.ws s.0.text_is s.0.spaces (s.0.feeds lack.0) s.0.small s.0.says lack.1 (λ g' e'. allows_back (p ∷ ps) (k + 1) n g' h rest lack.1 e') s.1

-- The first three lines

-- A first line of these words, and the head that goes on behind it.
record FrontBack (ps : Words) (ws : Words) (k n : ℕ) (stage : Stage) (g h : Head) (rest : Words) : Type 0 where
  others : Words
  is : ps ≡ words ws ∷ others
  goes : head_from k (going stage g) others ≡ behind h n rest

forward_by : (line : HeadLine) (k n : ℕ) (text p : List ℕ) (ps : Words) (g h : Head) (rest ws : Words) → text ≡ words ws → LineText line ws → head_from k (step_by at_forward g line) (p ∷ ps) ≡ behind h n rest
    → (b : Bool) × FrontBack (text ∷ p ∷ ps) (codes "forwardonly" ∷ yes_text b ∷ []) k n at_allows (with_forward b g) h rest
unfolding step_by head_from
forward_by (forward_line b) k n text p ps g h rest ws t l e = (b, record { others = p ∷ ps; is = ap (λ u. u ∷ p ∷ ps) (t ∙ ap words l); goes = e })
forward_by line k n text p ps g h rest ws t l e = absurd cc

forward_back : (ps : Words) (k n : ℕ) (g h : Head) (rest : Words) → head_from k (going at_forward g) ps ≡ behind h n rest
    → (b : Bool) × FrontBack ps (codes "forwardonly" ∷ yes_text b ∷ []) (k + 1) n at_allows (with_forward b g) h rest
unfolding head_from
forward_back [] k n g h rest e = absurd cc
forward_back (text ∷ []) k n g h rest e = absurd cc
forward_back (text ∷ p ∷ ps) k n g h rest e = let s = text_back k n at_forward g h text p ps rest e in forward_by s.0.line (k + 1) n text p ps g h rest s.0.ws s.0.text_is s.0.says s.1

size_by : (line : HeadLine) (k n : ℕ) (text p : List ℕ) (ps : Words) (g h : Head) (rest ws : Words) → text ≡ words ws → LineText line ws → head_from k (step_by at_size g line) (p ∷ ps) ≡ behind h n rest
    → (m : ℕ) × (m < 2 ^ 64) × FrontBack (text ∷ p ∷ ps) (codes "cachesize" ∷ decimal m ∷ []) k n at_forward (with_size (min (max m 100) 1000000000) g) h rest
unfolding step_by head_from
size_by (size_line size) k n text p ps g h rest ws t l e = (
  l.0,
  l.2,
  record {
    others = p ∷ ps;
    is = ap (λ u. u ∷ p ∷ ps) (t ∙ ap words l.1);
    goes = sym (ap (λ z. head_from k (going at_forward (with_size z g)) (p ∷ ps)) l.3) ∙ e;
  },
)
size_by line k n text p ps g h rest ws t l e = absurd cc

size_back : (ps : Words) (k n : ℕ) (g h : Head) (rest : Words) → head_from k (going at_size g) ps ≡ behind h n rest
    → (m : ℕ) × (m < 2 ^ 64) × FrontBack ps (codes "cachesize" ∷ decimal m ∷ []) (k + 1) n at_forward (with_size (min (max m 100) 1000000000) g) h rest
unfolding head_from
size_back [] k n g h rest e = absurd cc
size_back (text ∷ []) k n g h rest e = absurd cc
size_back (text ∷ p ∷ ps) k n g h rest e = let s = text_back k n at_size g h text p ps rest e in size_by s.0.line (k + 1) n text p ps g h rest s.0.ws s.0.text_is s.0.says s.1

versions_by : (line : HeadLine) (k n : ℕ) (text p : List ℕ) (ps : Words) (g h : Head) (rest ws : Words) → text ≡ words ws → LineText line ws → head_from k (step_by at_version g line) (p ∷ ps) ≡ behind h n rest
    → (v : ℕ) × ((v ≡ 1) ⊎ (v ≡ 2)) × FrontBack (text ∷ p ∷ ps) (codes "dnscache-script" ∷ decimal v ∷ []) k n at_size (with_version v g) h rest
unfolding step_by head_from
versions_by (version_line v) k n text p ps g h rest ws t l e = (v, l.1, record { others = p ∷ ps; is = ap (λ u. u ∷ p ∷ ps) (t ∙ ap words l.0); goes = e })
versions_by line k n text p ps g h rest ws t l e = absurd cc

versions_back : (ps : Words) (k n : ℕ) (g h : Head) (rest : Words) → head_from k (going at_version g) ps ≡ behind h n rest
    → (v : ℕ) × ((v ≡ 1) ⊎ (v ≡ 2)) × FrontBack ps (codes "dnscache-script" ∷ decimal v ∷ []) (k + 1) n at_size (with_version v g) h rest
unfolding head_from
versions_back [] k n g h rest e = absurd cc
versions_back (text ∷ []) k n g h rest e = absurd cc
versions_back (text ∷ p ∷ ps) k n g h rest e = let s = text_back k n at_version g h text p ps rest e in versions_by s.0.line (k + 1) n text p ps g h rest s.0.ws s.0.text_is s.0.says s.1

-- Whole heads

abbrev zones_ok : Zones → Result Zones ZoneRefusal
zones_ok z = Ok z

same_zones : (a b : Zones) → zones_ok a ≡ zones_ok b → a ≡ b
same_zones a b e = cc

pub head_back : (text : List ℕ) (h : Head) (n : ℕ) (rest : Words) → head_of text ≡ behind h n rest → BeginsWithHead text h rest
unfolding head_text
head_back text h n rest e =
    let lack = parts_lack 10 text in
    let v = versions_back (pieces_of text) 0 n no_head h rest e in
    let s = size_back v.2.others 1 n (with_version v.0 no_head) h rest v.2.goes in
    let f = forward_back s.2.others 2 n (with_size (min (max s.0 100) 1000000000) (with_version v.0 no_head)) h rest s.2.goes in
    let lack_v = subst (λ ps. AllLack 10 ps) v.2.is lack in
    let lack_s = subst (λ ps. AllLack 10 ps) s.2.is lack_v.1 in
    let lack_f = subst (λ ps. AllLack 10 ps) f.1.is lack_s.1 in
    let a = allows_back f.1.others 3 n (with_forward f.0 (with_size (min (max s.0 100) 1000000000) (with_version v.0 no_head))) h rest lack_f.1 f.1.goes in
    let told : HeadTold = record { version = v.0; size = s.0; forward = f.0; allows = a.allows; servers = a.servers; zones = a.zones; seed = a.seed } in
    let mid : a.mid ≡ root_zones told = same_zones a.mid (root_zones told) (sym a.root_added) in
    let pieces : pieces_of text ≡ map words (head_words told) ++ rest =
    v.2.is ∙ ap (λ r. words (codes "dnscache-script" ∷ decimal v.0 ∷ []) ∷ r) (s.2.is ∙ ap (λ r. words (codes "cachesize" ∷ decimal s.0 ∷ []) ∷ r) (f.1.is ∙ ap (λ r. words (codes "forwardonly" ∷ yes_text f.0 ∷ []) ∷ r) a.is)) in
    record {
      told = told;
      permits = a.permits;
      zones = a.new;
      stands = record { version = v.1; size = s.1; allowed = a.allowed; some = a.one; are = a.are; added = subst (λ z. Added a.zones z a.new) mid a.added; seed = a.seeded };
      text_is = sym (join_with_byte-slice_split 10 text) ∙ ap (join_with_byte 10) pieces ∙ join_lines (head_words told) rest a.some;
      head_is = a.head;
    }
