-- The lines of a head, one after another.
use Rattle.std.proofs.Common.{◌≡◌, ℕ, ◌+◌, ◌<◌, ◌≤◌, Bool, true, false, cond, leb, List, [], ◌∷◌, ◌++◌, length, take, refl, sym, ◌∙◌, ap, subst, arith, append_assoc, length-append, Option, Some, None, Result, Ok, Err, inl, inr}
use Rattle.std.specs.Io.KnownBytes.{IsAtEnd, Consumes}
use Rattle.std.proofs.lemmas.List.{append-nil, take-append-le}
use Rattle.std.proofs.lemmas.Bool.{cases_lt}
use Rattle.std.proofs.lemmas.Bool.Decides.{nat_tests}
use Rattle.dc_model.specs.Name.{Name, root, lower}
use Rattle.dc_model.specs.Rules.{Zones, ZoneRefusal, duplicate, zones_full, add_zone, Permits, PermitRefusal, permits_full, add_permit, permit_added, permit_of, is_zone}
use Rattle.dc_model.specs.Rules as rules
use Rattle.dc_script.specs.Script.{Words, pieces_of, most_line}
use Rattle.dc_script.specs.Lines.{IsOneLine}
use Rattle.dc_script.specs.Heading.{HeadLine, version_line, size_line, forward_line, allow_line, root_line, zone_line, seed_line, begin_line, heading_of}
use Rattle.dc_script.specs.Head.{Head, Stage, at_version, at_size, at_forward, at_allows, at_zones, at_begin, HeadStep, refused, going, begun, with_permit, with_zone, step_by, step_said, head_step, behind, other, head_from, head_of, MayFollow, most_ahead, no_head}
use Rattle.dc_script.specs.Heads.{LinesStand, HeadStands, HeadIs}
use Rattle.dc_script.specs.declared.head.Script.{Script}
use Rattle.dc_script.specs.declared.setup.Setup.{Setup}
use Rattle.dc_script.specs.declared.head.ScriptError.{ScriptError}
use Rattle.dc_script.specs.declared.head.ScriptError.TheVariants.{Bad, ReadFault, NoMemory}
use Rattle.dc_script.proofs.ReadLemmas.{HasNoFeed, pieces-line, pieces-one, HasPiece, has_piece, cut, at_feed_of}

-- How many lines may come behind a line

abbrev ahead_of : HeadStep → ℕ
ahead_of refused = 0
ahead_of (going stage h) = most_ahead stage h
ahead_of (begun h) = 0

-- A permission that was added took a place.
permit_by : (h : Head) (b : Bool) (o : List ℕ) → leb 4096 (length h.config.permit) ≡ b
    → ahead_of (with_permit h (cond b (Err permits_full) (Ok (h.config.permit ++ (o ∷ []))))) < most_ahead at_allows h
permit_by h true o e = omega arith
permit_by h false o e =
    let sum = length-append h.config.permit (o ∷ []) in
    let few : length h.config.permit < 4096 = grind (arith, nat_tests) in
    omega (arith, sum, few)

permit_ahead : (h : Head) (o : Option (List ℕ)) → ahead_of (with_permit h (permit_added o h.config.permit)) < most_ahead at_allows h
permit_ahead h None = omega arith
permit_ahead h (Some o) = permit_by h (leb 4096 (length h.config.permit)) o refl

-- So did a zone.
zone_by : (h : Head) (named full : Bool) (name : Name) (places : List (List ℕ)) (m : ℕ) → leb 256 (length h.config.zones.configured) ≡ full → most_ahead at_zones h ≤ m
    → 0 < m → ahead_of (with_zone h (cond named (Err duplicate) (cond full (Err zones_full) (Ok (rules.with_zone name places h.config.zones))))) < m
zone_by h true full name places m e le some = some
zone_by h false true name places m e le some = some
zone_by h false false name places m e le some =
    let sum = length-append h.config.zones.configured (record { name = lower name; places = places } ∷ []) in
    let few : length h.config.zones.configured < 256 = grind (arith, nat_tests) in
    omega (arith, sum, few, le)

zone_ahead : (h : Head) (name : Name) (places : List (List ℕ)) (m : ℕ) → most_ahead at_zones h ≤ m → 0 < m → ahead_of (with_zone h (add_zone name places h.config.zones)) < m
zone_ahead h name places m le some = zone_by h (is_zone h.config.zones name) (leb 256 (length h.config.zones.configured)) name places m refl le some

step_ahead : (stage : Stage) (h : Head) (line : HeadLine) → ahead_of (step_by stage h line) < most_ahead stage h
unfolding step_by
step_ahead at_version h (version_line v) = omega arith
step_ahead at_size h (size_line n) = omega arith
step_ahead at_forward h (forward_line b) = omega arith
step_ahead at_allows h (allow_line text) = permit_ahead h (permit_of text)
step_ahead at_allows h (root_line places) = zone_ahead h root places (most_ahead at_allows h) (omega arith) (omega arith)
step_ahead at_zones h (zone_line name places) = zone_ahead h name places (most_ahead at_zones h) (omega arith) (omega arith)
step_ahead at_zones h (seed_line seed) = omega arith
step_ahead at_begin h begin_line = omega arith
step_ahead stage h line = omega arith

said_ahead : (stage : Stage) (h : Head) (line : Option HeadLine) → ahead_of (step_said stage h line) < most_ahead stage h
said_ahead at_version h None = omega arith
said_ahead at_size h None = omega arith
said_ahead at_forward h None = omega arith
said_ahead at_allows h None = omega arith
said_ahead at_zones h None = omega arith
said_ahead at_begin h None = omega arith
said_ahead stage h (Some line) = step_ahead stage h line

some_ahead : (stage : Stage) (h : Head) → 0 < most_ahead stage h
some_ahead at_version h = omega arith
some_ahead at_size h = omega arith
some_ahead at_forward h = omega arith
some_ahead at_allows h = omega arith
some_ahead at_zones h = omega arith
some_ahead at_begin h = omega arith

head_ahead_by : (b : Bool) (stage : Stage) (h : Head) (line : Option HeadLine) → ahead_of (cond b (step_said stage h line) refused) < most_ahead stage h
head_ahead_by true stage h line = said_ahead stage h line
head_ahead_by false stage h line = some_ahead stage h

head_ahead : (stage : Stage) (h : Head) (text : List ℕ) → ahead_of (head_step stage h text) < most_ahead stage h
unfolding head_step
head_ahead stage h text = head_ahead_by (leb (length text) most_line) stage h (heading_of text)

pub fewer_ahead : (stage stage' : Stage) (h h' : Head) (text : List ℕ) → head_step stage h text ≡ going stage' h' → most_ahead stage' h' < most_ahead stage h
fewer_ahead stage stage' h h' text e = subst (λ s. ahead_of s < most_ahead stage h) e (head_ahead stage h text)

-- One line

-- A line at the front of what is read.
pub line_off : (old more line rest : List ℕ) → old ++ more ≡ line ++ (10 ∷ rest) → IsOneLine line → (tail : List ℕ) → pieces_of (old ++ (more ++ tail)) ≡ line ∷ pieces_of (rest ++ tail)
line_off old more line rest e h tail =
    ap pieces_of (sym (append_assoc old more tail) ∙ ap (λ l. l ++ tail) e ∙ append_assoc line (10 ∷ rest) tail) ∙ pieces-line line (rest ++ tail) h

from_piece : (k : ℕ) (stage : Stage) (h : Head) (line piece : List ℕ) (pieces : Words)
    → head_from k (going stage h) (line ∷ piece ∷ pieces) ≡ head_from (k + 1) (head_step stage h line) (piece ∷ pieces)
unfolding head_from
from_piece k stage h line piece pieces = refl

pub from_line : (k : ℕ) (stage : Stage) (h : Head) (line : List ℕ) (pieces : Words) → HasPiece pieces → head_from k (going stage h) (line ∷ pieces) ≡ head_from (k + 1) (head_step stage h line) pieces
from_line k stage h line pieces p =
    ap (λ ps. head_from k (going stage h) (line ∷ ps)) p.1.1 ∙ from_piece k stage h line p.0 p.1.0 ∙ ap (head_from (k + 1) (head_step stage h line)) (sym p.1.1)

pub read_off : (stage : Stage) (h : Head) (old more line rest : List ℕ) → old ++ more ≡ line ++ (10 ∷ rest) → IsOneLine line → (s : HeadStep) → head_step stage h line ≡ s
    → (tail : List ℕ) (k : ℕ) → head_from k (going stage h) (pieces_of (old ++ (more ++ tail))) ≡ head_from (k + 1) s (pieces_of (rest ++ tail))
read_off stage h old more line rest e one s step tail k =
    ap (head_from k (going stage h)) (line_off old more line rest e one tail) ∙ from_line k stage h line (pieces_of (rest ++ tail)) (has_piece (rest ++ tail))
    ∙ ap (λ t. head_from (k + 1) t (pieces_of (rest ++ tail))) step

pub count_off : (old more line rest : List ℕ) → old ++ more ≡ line ++ (10 ∷ rest) → IsOneLine line → (tail : List ℕ) → length (pieces_of (old ++ (more ++ tail))) ≡ 1 + length (pieces_of (rest ++ tail))
count_off old more line rest e one tail = omega (arith, ap length (line_off old more line rest e one tail))

-- The head is whole.
pub read_begun : (stage : Stage) (h h' : Head) (old more line rest : List ℕ) → old ++ more ≡ line ++ (10 ∷ rest) → IsOneLine line → head_step stage h line ≡ begun h'
    → (tail : List ℕ) (k : ℕ) → head_from k (going stage h) (pieces_of (old ++ (more ++ tail))) ≡ behind h' (k + 1) (pieces_of (rest ++ tail))
unfolding head_from
read_begun stage h h' old more line rest e one step tail k = read_off stage h old more line rest e one (begun h') step tail k

-- The line is bad.
pub read_refused : (stage : Stage) (h : Head) (old more line rest : List ℕ) → old ++ more ≡ line ++ (10 ∷ rest) → IsOneLine line → head_step stage h line ≡ refused
    → (tail : List ℕ) (k : ℕ) → head_from k (going stage h) (pieces_of (old ++ (more ++ tail))) ≡ other (k + 1)
unfolding head_from
read_refused stage h old more line rest e one step tail k = read_off stage h old more line rest e one refused step tail k

-- There is no whole line.
pub read_open : (stage : Stage) (h : Head) (old more bytes tail : List ℕ) → bytes ≡ old ++ more → IsOneLine bytes → tail ≡ []
    → (k : ℕ) → head_from k (going stage h) (pieces_of (old ++ (more ++ tail))) ≡ other (k + 1)
unfolding head_from
read_open stage h old more bytes tail e one none k =
    let all : old ++ (more ++ tail) ≡ bytes = ap (λ t. old ++ (more ++ t)) none ∙ ap (λ m. old ++ m) (append-nil more) ∙ sym e in
    ap (λ b. head_from k (going stage h) (pieces_of b)) all ∙ ap (head_from k (going stage h)) (pieces-one bytes one)

pub read_stopped : (stage : Stage) (h : Head) (old more bytes : List ℕ) → bytes ≡ old ++ more → IsOneLine bytes
    → ((k : ℕ) → head_from k (going stage h) (pieces_of (old ++ more)) ≡ other (k + 1)) × (length (pieces_of (old ++ more)) ≡ 1)
unfolding head_from
read_stopped stage h old more bytes e one =
    let all : pieces_of (old ++ more) ≡ bytes ∷ [] = ap pieces_of (sym e) ∙ pieces-one bytes one in
    (λ k. ap (head_from k (going stage h)) all, ap length all)

long_refused : (stage : Stage) (h : Head) (line : List ℕ) → most_line < length line → head_step stage h line ≡ refused
unfolding head_step
long_refused stage h line long = let over : leb (length line) most_line ≡ false = grind (arith, nat_tests) in ap (λ b. cond b (step_said stage h (heading_of line)) refused) over

long_by : (stage : Stage) (h : Head) (text : List ℕ) (k : ℕ) → HasNoFeed (take (most_line + 1) text) → head_from k (going stage h) (pieces_of text) ≡ other (k + 1)
unfolding head_from
long_by stage h text k front = elim (cut text) [
  | inl none ↦ ap (head_from k (going stage h)) (pieces-one text none)
  | inr p ↦
      let long : most_line < length p.0 = elim (cases_lt most_line (length p.0)) [
        | inl lt ↦ lt
        | inr le ↦ absurd (at_feed_of text p.0 p.1.0 (most_line + 1) p.1.1.0 (omega arith) front)
      ] in
      ap (λ t. head_from k (going stage h) (pieces_of t)) p.1.1.0 ∙ ap (head_from k (going stage h)) (pieces-line p.0 p.1.0 p.1.1.1)
      ∙ from_line k stage h p.0 (pieces_of p.1.0) (has_piece p.1.0) ∙ ap (λ s. head_from (k + 1) s (pieces_of p.1.0)) (long_refused stage h p.0 long)
]

-- The next line is too long.
pub read_long : (stage : Stage) (h : Head) (old more bytes : List ℕ) (m : ℕ) → bytes ≡ old ++ more → m ≡ most_line + 1 → most_line < length bytes → IsOneLine (take m bytes)
    → (tail : List ℕ) (k : ℕ) → head_from k (going stage h) (pieces_of (old ++ (more ++ tail))) ≡ other (k + 1)
read_long stage h old more bytes m e is long one tail k =
    let all : bytes ++ tail ≡ old ++ (more ++ tail) = ap (λ b. b ++ tail) e ∙ append_assoc old more tail in
    let front : take m bytes ≡ take m (bytes ++ tail) = sym (take-append-le m bytes tail (omega (arith, is, long))) in
    let P : List ℕ → Type 0 = λ t. HasNoFeed t in
    let Q : ℕ → Type 0 = λ j. HasNoFeed (take j (bytes ++ tail)) in
    ap (λ t. head_from k (going stage h) (pieces_of t)) (sym all) ∙ long_by stage h (bytes ++ tail) k (subst Q is (subst P front one))

-- Nothing follows the bytes of a source at its end.
pub none_follows : (left : Option (List ℕ)) (tail : List ℕ) → IsAtEnd left → MayFollow left tail → tail ≡ []
none_follows left tail h (inr e) = e
none_follows None tail h (inl e) = cc
none_follows (Some z) tail h (inl e) = let same : z ≡ tail = cc in sym same ∙ h

-- All lines

-- So many lines were read: whatever follows, the head goes on with the rest.
pub record HeadSoFar {S : Type 0} (took : S → List ℕ → S → Type 0) (source now : S) (stage : Stage) (h : Head) (rest : List ℕ) (lines : ℕ) (more : List ℕ) : Type 0 where
  pub taken : took source more now
  pub read : (tail : List ℕ) → head_of (more ++ tail) ≡ head_from lines (going stage h) (pieces_of (rest ++ tail))
  pub count : (tail : List ℕ) → length (pieces_of (more ++ tail)) ≡ lines + length (pieces_of (rest ++ tail))
  pub near : lines + most_ahead stage h ≤ 4358

pub far_start : {S : Type 0} (took : S → List ℕ → S → Type 0) → ((a : S) → took a [] a) → (source : S) (stage : Stage) (h : Head) (rest : List ℕ)
    → stage ≡ at_version → h ≡ no_head → rest ≡ [] → HeadSoFar took source source stage h rest 0 []
far_start took none source stage h rest s e r = record {
  taken = none source;
  read = λ tail. ap (λ t. head_from 0 (going t no_head) (pieces_of tail)) (sym s) ∙ ap (λ g. head_from 0 (going stage g) (pieces_of tail)) (sym e) ∙ ap (λ l. head_from 0 (going stage h) (pieces_of (l ++ tail))) (sym r);
  count = λ tail. omega (arith, ap (λ l. length (pieces_of (l ++ tail))) r);
  near = let first : most_ahead stage h ≡ 4358 = ap (λ t. most_ahead t h) s ∙ ap (most_ahead at_version) e in omega (arith, first);
}

pub far_more : {S : Type 0} (took : S → List ℕ → S → Type 0) → ((a b c : S) (xs ys : List ℕ) → took a xs b → took b ys c → took a (xs ++ ys) c)
    → (source mid now : S) (stage stage' : Stage) (h h' : Head) (rest rest' : List ℕ) (lines : ℕ) (more next : List ℕ)
    → HeadSoFar took source mid stage h rest lines more → took mid next now
    → ((tail : List ℕ) (k : ℕ) → head_from k (going stage h) (pieces_of (rest ++ (next ++ tail))) ≡ head_from (k + 1) (going stage' h') (pieces_of (rest' ++ tail)))
    → ((tail : List ℕ) → length (pieces_of (rest ++ (next ++ tail))) ≡ 1 + length (pieces_of (rest' ++ tail)))
    → most_ahead stage' h' < most_ahead stage h
    → HeadSoFar took source now stage' h' rest' (lines + 1) (more ++ next)
far_more took both source mid now stage stage' h h' rest rest' lines more next far t read count less = record {
  taken = both source mid now more next far.taken t;
  read = λ tail. ap head_of (append_assoc more next tail) ∙ far.read (next ++ tail) ∙ read tail lines;
  count = λ tail. omega (arith, ap (λ l. length (pieces_of l)) (append_assoc more next tail), far.count (next ++ tail), count tail);
  near = let n = far.near in omega (arith, n, less);
}

pub far_whole : {S : Type 0} (took : S → List ℕ → S → Type 0) (source mid : S) (stage : Stage) (h h' : Head) (rest rest' : List ℕ) (lines : ℕ) (more next : List ℕ)
    → HeadSoFar took source mid stage h rest lines more
    → ((tail : List ℕ) (k : ℕ) → head_from k (going stage h) (pieces_of (rest ++ (next ++ tail))) ≡ behind h' (k + 1) (pieces_of (rest' ++ tail)))
    → (tail : List ℕ) → head_of ((more ++ next) ++ tail) ≡ behind h' (lines + 1) (pieces_of (rest' ++ tail))
far_whole took source mid stage h h' rest rest' lines more next far read tail = ap head_of (append_assoc more next tail) ∙ far.read (next ++ tail) ∙ read tail lines

pub far_bad : {S : Type 0} (took : S → List ℕ → S → Type 0) (source mid : S) (stage : Stage) (h : Head) (rest : List ℕ) (lines : ℕ) (more next tail : List ℕ)
    → HeadSoFar took source mid stage h rest lines more
    → ((k : ℕ) → head_from k (going stage h) (pieces_of (rest ++ (next ++ tail))) ≡ other (k + 1))
    → head_of ((more ++ next) ++ tail) ≡ other (lines + 1)
far_bad took source mid stage h rest lines more next tail far read = ap head_of (append_assoc more next tail) ∙ far.read (next ++ tail) ∙ read lines

pub far_stopped : {S : Type 0} (took : S → List ℕ → S → Type 0) (source mid : S) (stage : Stage) (h : Head) (rest : List ℕ) (lines : ℕ) (more next : List ℕ)
    → HeadSoFar took source mid stage h rest lines more
    → ((k : ℕ) → head_from k (going stage h) (pieces_of (rest ++ next)) ≡ other (k + 1)) → length (pieces_of (rest ++ next)) ≡ 1
    → head_of (more ++ next) ≡ other (length (pieces_of (more ++ next)))
far_stopped took source mid stage h rest lines more next far read one =
    let number : lines + 1 ≡ length (pieces_of (more ++ next)) = omega (arith, far.count next, one) in
    far.read next ∙ read lines ∙ ap other number

-- With what the source had left

told_by : (result : Result Script ScriptError) (bytes text : List ℕ) (old new : Option (List ℕ)) → Consumes old new bytes → HeadStands result bytes new → old ≡ Some text → HeadIs result text new
told_by result bytes text None new taken stands e = absurd cc
told_by result bytes text (Some x) None taken stands e = absurd taken
told_by (Ok s) bytes text (Some x) (Some y) taken stands e =
    let all : text ≡ bytes ++ y = let same : x ≡ text = cc in sym same ∙ taken in
    (y, refl, ap head_of all ∙ stands y)
told_by (Err (Bad k)) bytes text (Some x) (Some y) taken stands e =
    let all : text ≡ bytes ++ y = let same : x ≡ text = cc in sym same ∙ taken in
    ap head_of all ∙ stands y (inl refl)
told_by (Err ReadFault) bytes text (Some x) (Some y) taken stands e = tt
told_by (Err NoMemory) bytes text (Some x) (Some y) taken stands e = tt

pub head_told : {S : Type 0} (took : S → List ℕ → S → Type 0) (left : S → Option (List ℕ)) → ((a b : S) (xs : List ℕ) → took a xs b → Consumes (left a) (left b) xs)
    → (result : Result Script ScriptError) (a b : S) (bytes : List ℕ) → took a bytes b → HeadStands result bytes (left b)
    → (text : List ℕ) → left a ≡ Some text → HeadIs result text (left b)
head_told took left rule result a b bytes taken stands text e = told_by result bytes text (left a) (left b) (rule a b bytes taken) stands e

-- A fault in the lines is one of the head.
pub lines_fail : (why : ScriptError) (new : Setup) (rest bytes : List ℕ) (left : Option (List ℕ)) → LinesStand (Err why) new rest bytes left → HeadStands (Err why) bytes left
lines_fail (Bad k) new rest bytes left stands = stands
lines_fail ReadFault new rest bytes left stands = stands
lines_fail NoMemory new rest bytes left stands = stands
