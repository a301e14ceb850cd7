-- What the lines of events say.
use Rattle.std.proofs.Common.{◌≡◌, ◌<◌, ◌≤◌, ◌^◌, ℕ, suc, zero, Bool, true, false, List, [], ◌∷◌, ◌++◌, length, map, slice_index, Some, None, refl, sym, ap, ◌∙◌, arith}
use Rattle.std.specs.Prelude.{All}
use Rattle.std.specs.List.{AllByRecursion}
use Rattle.std.proofs.lemmas.List.Elements.{recursion_from_All}
use Rattle.dc_model.specs.Event.{Event, IsEvent, Kind, tick, request, datagram, link_up, link_bytes, link_down, bind_refused, conn_up, conn_bytes, conn_down}
use Rattle.dc_model.specs.Line.{words}
use Rattle.dc_model.specs.Places.{no_address}
use Rattle.dc_model.specs.Rules.{Permits, Zones}
use Rattle.dc_script.specs.Script.{has_number, has_sender, has_bytes_word}
use Rattle.dc_script.specs.EventText.{event_words, event_text, IsWritten}
use Rattle.dc_script.specs.Head.{script_said}
use Rattle.dc_script.specs.HeadText.{HeadTold, IsTold, head_text, head_told}
use Rattle.dc_script.specs.Read.{end_text}
use Rattle.dc_script.proofs.HeadTextLemmas.{script_read}
use Rattle.dc_record.specs.Plain.{number_if, address_if, bytes_if, plain}
use Rattle.dc_record.specs.Recorded.{HasOctets, lines_of}
use Rattle.dc_record.proofs.RecordLemmas.{lines_end}

-- Each number of a list is below 256.
below_each : (xs : List ℕ) → ((i : ℕ) → slice_index xs i < 256) → AllByRecursion (λ b. b < 256) xs
below_each [] h = tt
below_each (x ∷ xs) h = (h 0, below_each xs (λ i. h (suc i)))

-- An event of this kind has these words where it has those of its plain one.
same_words : (now : ℕ) (kind : Kind) (id : ℕ) (addr : List ℕ) (port : ℕ) (bytes : List ℕ)
    → event_words (plain (record { now = now; kind = kind; id = id; addr = addr; port = port; bytes = bytes }))
    ≡ event_words (record { now = now; kind = kind; id = id; addr = addr; port = port; bytes = bytes })
same_words now tick id addr port bytes = refl
same_words now request id addr port bytes = refl
same_words now datagram id addr port bytes = refl
same_words now link_up id addr port bytes = refl
same_words now link_bytes id addr port bytes = refl
same_words now link_down id addr port bytes = refl
same_words now bind_refused id addr port bytes = refl
same_words now conn_up id addr port bytes = refl
same_words now conn_bytes id addr port bytes = refl
same_words now conn_down id addr port bytes = refl

same_text : (e : Event) → event_text (plain e) ≡ event_text e
unfolding event_text
same_text e = ap words (same_words e.now e.kind e.id e.addr e.port e.bytes)

-- Bounds

number_small : (b : Bool) (n most : ℕ) → 0 < most → n < most → number_if b n < most
number_small false n most some h = some
number_small true n most some h = h

address_long : (b : Bool) (addr : List ℕ) → length addr ≡ 4 → length (address_if b addr) ≡ 4
address_long false addr h = refl
address_long true addr h = h

address_octets : (b : Bool) (addr : List ℕ) → ((i : ℕ) → slice_index addr i < 256) → (i : ℕ) → slice_index (address_if b addr) i < 256
address_octets false addr h zero = omega arith
address_octets false addr h (suc zero) = omega arith
address_octets false addr h (suc (suc zero)) = omega arith
address_octets false addr h (suc (suc (suc zero))) = omega arith
address_octets false addr h (suc (suc (suc (suc i)))) = omega arith
address_octets true addr h i = h i

bytes_most : (b : Bool) (bytes : List ℕ) → length bytes ≤ 65535 → length (bytes_if b bytes) ≤ 65535
bytes_most false bytes h = omega arith
bytes_most true bytes h = h

bytes_small : (b : Bool) (bytes : List ℕ) → ((i : ℕ) → slice_index bytes i < 256) → (i : ℕ) → slice_index (bytes_if b bytes) i < 256
bytes_small false bytes h i = omega arith
bytes_small true bytes h i = h i

plain_bounds : (e : Event) → IsEvent e → IsEvent (plain e)
plain_bounds e h = record {
  moment = h.moment;
  numbered = number_small (has_number e.kind) e.id (2 ^ 64) (omega arith) h.numbered;
  octets = address_long (has_sender e.kind) e.addr h.octets;
  port_bound = number_small (has_sender e.kind) e.port (2 ^ 16) (omega arith) h.port_bound;
  most = bytes_most (has_bytes_word e.kind) e.bytes h.most;
  octet = bytes_small (has_bytes_word e.kind) e.bytes h.octet;
}

-- What isn't wanted is absent.

no_number : (b : Bool) (n : ℕ) → b ≡ false → number_if b n ≡ 0
no_number false n e = refl
no_number true n e = cc

no_addr : (b : Bool) (addr : List ℕ) → b ≡ false → address_if b addr ≡ no_address
no_addr false addr e = refl
no_addr true addr e = cc

no_bytes : (b : Bool) (bytes : List ℕ) → b ≡ false → bytes_if b bytes ≡ []
no_bytes false bytes e = refl
no_bytes true bytes e = cc

-- A script can hold it.
plain_written : (e : Event) → IsEvent e → HasOctets e → IsWritten (plain e)
plain_written e h o = record {
  bounds = plain_bounds e h;
  octets = below_each (address_if (has_sender e.kind) e.addr) (address_octets (has_sender e.kind) e.addr o);
  bytes = below_each (bytes_if (has_bytes_word e.kind) e.bytes) (bytes_small (has_bytes_word e.kind) e.bytes h.octet);
  no_number = no_number (has_number e.kind) e.id;
  no_sender = λ b. (no_addr (has_sender e.kind) e.addr b, no_number (has_sender e.kind) e.port b);
  no_bytes = no_bytes (has_bytes_word e.kind) e.bytes;
}

plain_each : (es : List Event) → AllByRecursion IsEvent es → AllByRecursion HasOctets es → AllByRecursion IsWritten (map plain es)
plain_each [] h o = tt
plain_each (e ∷ es) h o = (plain_written e h.0 o.0, plain_each es h.1 o.1)

-- Whole runs

plain_lines : (es : List Event) → lines_of (map plain es) ≡ lines_of es
plain_lines [] = refl
plain_lines (e ∷ es) = λ i. (same_text e i ++ (10 ∷ [])) ++ plain_lines es i

all_written : (es : List Event) → All IsEvent es → AllByRecursion HasOctets es → AllByRecursion IsWritten (map plain es)
all_written es h o = plain_each es (recursion_from_All IsEvent es h) o

-- Behind the lines of a head and with the line `end` behind them, they are a whole script.
pub recorded_said : (h : HeadTold) (permits : Permits) (zones : Zones) (es : List Event) → IsTold h permits zones → All IsEvent es → AllByRecursion HasOctets es
    → script_said (head_text h (lines_of es ++ end_text)) ≡ record { head = Some (head_told h permits zones); said = record { events = map plain es; bad = None } }
recorded_said h permits zones es t w o =
    ap (λ x. script_said (head_text h (x ++ end_text))) (sym (plain_lines es)) ∙ ap (λ x. script_said (head_text h x)) (lines_end (map plain es))
    ∙ script_read h permits zones (map plain es) t (all_written es w o)
