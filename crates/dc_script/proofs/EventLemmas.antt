-- The line of an event is read as the event.
use Rattle.std.proofs.Common.{◌≡◌, ℕ, ◌+◌, ◌^◌, ◌<◌, ◌≤◌, Bool, true, false, cond, leb, bytes_eq, List, [], ◌∷◌, ◌++◌, length, codes, decimal, Option, Some, None, option_map, refl, sym, ◌∙◌, ap, arith}
use Rattle.std.specs.List.{AllByRecursion}
use Rattle.std.proofs.lemmas.Bool.Decides.{nat_tests}
use Rattle.dc_model.specs.Event.{Event, Kind, tick, request, datagram, link_up, link_bytes, link_down, bind_refused, conn_up, conn_bytes, conn_down}
use Rattle.dc_model.specs.Name.{address_of}
use Rattle.dc_model.specs.Line.{words}
use Rattle.dc_model.specs.Places.{no_address}
use Rattle.dc_text.specs.Numbers.{number_below}
use Rattle.dc_script.specs.Script.{Words, words_of, kind_word, has_number, has_sender, has_bytes_word, bytes_word, taken_if, behind_at, moment_taken, kind_taken, at_end, event_said, event_of_line, most_line}
use Rattle.dc_model.specs.Address.{address_text}
use Rattle.dc_script.specs.Text.{bytes_text}
use Rattle.dc_script.specs.EventText.{kind_text, word_if, event_words, event_text, events_text, IsWritten}
use Rattle.dc_script.proofs.Spelling.{lacks, AllLack, split-joined, number-decimal, decimal-lacks, address-text, address-lacks, address-short, bytes-word, bytes-lack, joined-lacks, lacks-feed}
use Rattle.dc_model.proofs.LineLemmas.{words_size, length-words, short}
use Rattle.dc_script.specs.Read.{says, line_event, after_events}
use Rattle.dc_script.proofs.ReadLemmas.{HasNoFeed, says-event, says-end}
use Rattle.dc_script.proofs.Hex.{length-hex}

-- A word that is wanted is taken off.
taken_word : {A : Type 0} (wanted : Bool) (absent v : A) (read : List ℕ → Option A) (w : List ℕ) (ws : Words)
    → (wanted ≡ true → read w ≡ Some v) → (wanted ≡ false → v ≡ absent) → taken_if wanted absent read (word_if wanted w ++ ws) ≡ Some (v, ws)
unfolding taken_if
taken_word {A} true absent v read w ws here gone = ap (option_map (λ (x : A). (x, ws))) (here refl)
taken_word {A} false absent v read w ws here gone = ap (λ (x : A). Some (x, ws)) (sym (gone refl))

last_word : {A : Type 0} (wanted : Bool) (absent v : A) (read : List ℕ → Option A) (w : List ℕ)
    → (wanted ≡ true → read w ≡ Some v) → (wanted ≡ false → v ≡ absent) → taken_if wanted absent read (word_if wanted w) ≡ Some (v, [])
unfolding taken_if
last_word {A} true absent v read w here gone = ap (option_map (λ (x : A). (x, []))) (here refl)
last_word {A} false absent v read w here gone = ap (λ (x : A). Some (x, [])) (sym (gone refl))

kind-text : (k : Kind) → kind_word (kind_text k) ≡ Some k
kind-text tick = refl
kind-text request = refl
kind-text datagram = refl
kind-text link_up = refl
kind-text link_bytes = refl
kind-text link_down = refl
kind-text bind_refused = refl
kind-text conn_up = refl
kind-text conn_bytes = refl
kind-text conn_down = refl

-- The words behind the kind.
abbrev tail_words : Event → Words
tail_words e = word_if (has_number e.kind) (decimal e.id) ++ (word_if (has_sender e.kind) (address_text e.addr) ++ (word_if (has_sender e.kind) (decimal e.port) ++ word_if (has_bytes_word e.kind) (bytes_text e.bytes)))

moment-word : (e : Event) → IsWritten e → moment_taken (decimal e.now ∷ kind_text e.kind ∷ tail_words e) ≡ Some (e.now, kind_text e.kind ∷ tail_words e)
unfolding moment_taken
moment-word e w =
    let small = w.bounds.moment in
    ap (option_map (λ (v : ℕ). (v, kind_text e.kind ∷ tail_words e))) (number-decimal (2 ^ 62) e.now small (omega (arith, small)))

kind-words : (e : Event) → kind_taken (kind_text e.kind ∷ tail_words e) ≡ Some (e.kind, tail_words e)
unfolding kind_taken
kind-words e = ap (option_map (λ (k : Kind). (k, tail_words e))) (kind-text e.kind)

pub event-words : (e : Event) → IsWritten e → event_said (event_words e) ≡ Some e
unfolding event_said behind_at at_end
event-words e w =
    let id_small = w.bounds.numbered in
    let port_small = w.bounds.port_bound in
    let port_text : number_below (2 ^ 16) (decimal e.port) ≡ Some e.port = number-decimal (2 ^ 16) e.port port_small (omega (arith, port_small)) in
    let number = taken_word (has_number e.kind) 0 e.id (number_below (2 ^ 64)) (decimal e.id)
    (word_if (has_sender e.kind) (address_text e.addr) ++ (word_if (has_sender e.kind) (decimal e.port) ++ word_if (has_bytes_word e.kind) (bytes_text e.bytes)))
    (λ h. number-decimal (2 ^ 64) e.id id_small id_small) w.no_number in
    let addr = taken_word (has_sender e.kind) no_address e.addr address_of (address_text e.addr)
    (word_if (has_sender e.kind) (decimal e.port) ++ word_if (has_bytes_word e.kind) (bytes_text e.bytes))
    (λ h. address-text e.addr w.bounds.octets w.octets) (λ h. (w.no_sender h).0) in
    let port = taken_word (has_sender e.kind) 0 e.port (number_below (2 ^ 16)) (decimal e.port) (word_if (has_bytes_word e.kind) (bytes_text e.bytes))
    (λ h. port_text) (λ h. (w.no_sender h).1) in
    let bytes = last_word (has_bytes_word e.kind) [] e.bytes bytes_word (bytes_text e.bytes) (λ h. bytes-word e.bytes w.bytes w.bounds.most) w.no_bytes in
    rw (moment-word e w, kind-words e, number, addr, port, bytes) refl

lacks_if : (b : ℕ) (wanted : Bool) (w : List ℕ) (ws : Words) → lacks b w ≡ true → AllLack b ws → AllLack b (word_if wanted w ++ ws)
lacks_if b true w ws h k = (h, k)
lacks_if b false w ws h k = k

lacks_last : (b : ℕ) (wanted : Bool) (w : List ℕ) → lacks b w ≡ true → AllLack b (word_if wanted w)
lacks_last b true w h = (h, tt)
lacks_last b false w h = tt

kind-lacks : (b : ℕ) (k : Kind) → b < 45 → lacks b (kind_text k) ≡ true
kind-lacks b tick h = grind (arith, nat_tests)
kind-lacks b request h = grind (arith, nat_tests)
kind-lacks b datagram h = grind (arith, nat_tests)
kind-lacks b link_up h = grind (arith, nat_tests)
kind-lacks b link_bytes h = grind (arith, nat_tests)
kind-lacks b link_down h = grind (arith, nat_tests)
kind-lacks b bind_refused h = grind (arith, nat_tests)
kind-lacks b conn_up h = grind (arith, nat_tests)
kind-lacks b conn_bytes h = grind (arith, nat_tests)
kind-lacks b conn_down h = grind (arith, nat_tests)

at-lacks : (b : ℕ) → b < 45 → lacks b (codes "at") ≡ true
at-lacks b h = grind (arith, nat_tests)

-- No word of an event has a byte below the dash.
pub words-lack : (b : ℕ) (e : Event) → IsWritten e → b < 45 → AllLack b (event_words e)
words-lack b e w h =
    let now_small = w.bounds.moment in
    let id_small = w.bounds.numbered in
    let port_small = w.bounds.port_bound in (
      at-lacks b h,
      (
        decimal-lacks b e.now (omega (arith, h)) (omega (arith, now_small)),
        (
          kind-lacks b e.kind h,
          lacks_if b (has_number e.kind) (decimal e.id) _ (decimal-lacks b e.id (omega (arith, h)) id_small)
              (lacks_if b (has_sender e.kind) (address_text e.addr) _ (address-lacks b e.addr (omega (arith, h)) w.octets)
              (lacks_if b (has_sender e.kind) (decimal e.port) _ (decimal-lacks b e.port (omega (arith, h)) (omega (arith, port_small)))
              (lacks_last b (has_bytes_word e.kind) (bytes_text e.bytes) (bytes-lack b e.bytes h)))),
        ),
      ),
    )

pub event-text : (e : Event) → IsWritten e → event_of_line (event_text e) ≡ Some e
unfolding event_of_line event_text
event-text e w =
    let parted : words_of (words (event_words e)) ≡ event_words e = split-joined 32 (codes "at") _ (words-lack 32 e w (omega arith)) in
    ap event_said parted ∙ event-words e w

-- How long the line is

size_if : (wanted : Bool) (w : List ℕ) (ws : Words) → words_size (word_if wanted w ++ ws) ≤ length w + 1 + words_size ws
size_if true w ws = omega arith
size_if false w ws = omega arith

size_last : (wanted : Bool) (w : List ℕ) → words_size (word_if wanted w) ≤ length w + 1
size_last true w = omega arith
size_last false w = omega arith

kind-short : (k : Kind) → length (kind_text k) ≤ 11
kind-short tick = omega arith
kind-short request = omega arith
kind-short datagram = omega arith
kind-short link_up = omega arith
kind-short link_bytes = omega arith
kind-short link_down = omega arith
kind-short bind_refused = omega arith
kind-short conn_up = omega arith
kind-short conn_bytes = omega arith
kind-short conn_down = omega arith

bytes-short : (bs : List ℕ) → length bs ≤ 65535 → length (bytes_text bs) ≤ 131070
bytes-short [] h = omega arith
bytes-short (b ∷ bs) h = let count = length-hex (b ∷ bs) in omega (arith, count, h)

text-short : (e : Event) → IsWritten e → length (event_text e) ≤ most_line
unfolding event_text
text-short e w =
    let moment_small = w.bounds.moment in
    let port_small = w.bounds.port_bound in
    let whole = length-words (event_words e) in
    let moment = short e.now (omega (arith, moment_small)) in
    let kind = kind-short e.kind in
    let id = short e.id w.bounds.numbered in
    let addr = address-short e.addr w.bounds.octets w.octets in
    let port = short e.port (omega (arith, port_small)) in
    let bytes = bytes-short e.bytes w.bounds.most in
    let one = size_if (has_number e.kind) (decimal e.id) (word_if (has_sender e.kind) (address_text e.addr) ++ (word_if (has_sender e.kind) (decimal e.port) ++ word_if (has_bytes_word e.kind) (bytes_text e.bytes))) in
    let two = size_if (has_sender e.kind) (address_text e.addr) (word_if (has_sender e.kind) (decimal e.port) ++ word_if (has_bytes_word e.kind) (bytes_text e.bytes)) in
    let three = size_if (has_sender e.kind) (decimal e.port) (word_if (has_bytes_word e.kind) (bytes_text e.bytes)) in
    let four = size_last (has_bytes_word e.kind) (bytes_text e.bytes) in
    omega (arith, whole, moment, kind, id, addr, port, bytes, one, two, three, four)

-- The line is no longer than a line may be.
line-event : (e : Event) → IsWritten e → line_event (event_text e) ≡ Some e
line-event e w =
    let less = text-short e w in
    let within : leb (length (event_text e)) most_line ≡ true = grind (arith, nat_tests) in
    ap (λ b. cond b (event_of_line (event_text e)) None) within ∙ event-text e w

text-one : (e : Event) → IsWritten e → HasNoFeed (event_text e)
unfolding event_text
text-one e w = lacks-feed (event_text e) (joined-lacks 10 32 (event_words e) refl (words-lack 10 e w (omega arith)))

text-other : (e : Event) → bytes_eq (event_text e) (codes "end") ≡ false
unfolding event_text
text-other e = refl

-- The lines of events and `end` say the events.
pub events-text : (es : List Event) → AllByRecursion IsWritten es → (n : ℕ) → says n (events_text es) ≡ record { events = es; bad = None }
events-text [] w n = says-end n
events-text (e ∷ es) w n =
    says-event n (event_text e) (events_text es) e (text-one e w.0) (text-other e) (line-event e w.0) ∙ ap (after_events (e ∷ [])) (events-text es w.1 (n + 1))
