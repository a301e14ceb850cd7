-- What a packet's message has, and the rows that it takes.
use Rattle.std.proofs.Common.{◌≡◌, ℕ, zero, suc, ◌+◌, ◌<◌, ◌≤◌, Bool, true, false, if◌then◌else◌, List, [], ◌∷◌, length, get_or, map, refl, sym, ◌∙◌, ap, arith, Option, Some, None}
use Rattle.std.specs.Prelude.{IfSome}
use Rattle.std.specs.List.{AllByRecursion}
use Rattle.std.proofs.lemmas.Bool.Decides.{nat_tests}
use Rattle.dc_model.specs.Event.{line}
use Rattle.dc_model.specs.Line as cause
use Rattle.dc_model.specs.Message.{Record, Message, HasNames, IsRecord, message_of, rcode}
use Rattle.dc_model.specs.Marks as marks
use Rattle.dc_model.specs.Marks.{Marks, marks_of, class_of}
use Rattle.dc_model.specs.Puts.{puts_given, lines_given, given_of}
use Rattle.dc_model.specs.Transmission.{Accepted}
use Rattle.dc_model.proofs.MessageLemmas.{message_of-IsMessage}
use Rattle.dc_model.proofs.FormLemmas.{message_of-formed}
use Rattle.dc_packet.specs.Rows.{Rows, AreRowsOf, message_in}
use Rattle.dc_marks.specs.Places.{no_record, IsNumberOf}
use Rattle.dc_marks.specs.Marked.{AreMarks}
use Rattle.dc_marks.specs.declared.mark.Found.{Found}
use Rattle.dc_marks.proofs.MarkLemmas.{message_in-is}
use Rattle.dc_machine.specs.Query.{top_of, name_of, wanted_of, counted}
use Rattle.dc_machine.specs.Turn.{Setting, State, first, ends, dropped, kept_of, after_puts, class_row, kept_row, marked_row, message_row, heard_row, one_more, is_last_turn}
use Rattle.dc_heard.specs.Said.{IsThere, HasSoa}
use Rattle.dc_heard.specs.Quiet.{AreFormed}
use Rattle.dc_heard.proofs.Saying.{number_within}

-- The message

pub said_is : (p : List ℕ) (t : Rows) → AreRowsOf p t → message_of p ≡ Some (message_in p)
said_is p t h = h.reads ∙ ap (λ (m : Message). Some m) (message_in-is p h.message h.reads)

pub formed_in : (p : List ℕ) (t : Rows) → AreRowsOf p t → AreFormed (message_in p)
formed_in p t h = message_of-formed p (message_in p) (said_is p t h)

names_at : (p : List ℕ) (rs : List Record) (i : ℕ) → i < length rs → AllByRecursion (IsRecord p) rs → HasNames (get_or rs i no_record).body
names_at p [] i h a = absurd (omega arith)
names_at p (r ∷ rs) zero h a = a.0.names
names_at p (r ∷ rs) (suc i) h a = names_at p rs i (omega arith) a.1

there : (p : List ℕ) (m : Message) (soa : Option ℕ) (r : Option Record) → AllByRecursion (IsRecord p) m.records → IsNumberOf m.records soa r → IfSome soa (IsThere m)
there p m None r a h = tt
there p m (Some n) r a h =
    let within : n < length m.records = number_within m.records n (Some n) r h refl in
    record { within = within; names = names_at p m.records n within a }

pub soa_there : (p : List ℕ) (t : Rows) (f : Found) (k : Marks) → AreRowsOf p t → AreMarks (message_in p) f k → HasSoa (message_in p) f
soa_there p t f k h a = there p (message_in p) f.soa k.soa (message_of-IsMessage p (message_in p) (said_is p t h)).records a.soa

-- Its row

pub message_is : (o : Option Message) (m : Message) (a : Accepted) (g : Setting) (s : State) (k : Marks) (c : marks.Class)
    → o ≡ Some m → marks_of (name_of s.query) (wanted_of s.query) m ≡ k → c ≡ class_of (top_of s.query).control (rcode m) k
    → message_row o a g s ≡ first (puts_given (kept_of c (given_of g.zones (top_of s.query).control a.server m)))
    (map line (lines_given (kept_of c (given_of g.zones (top_of s.query).control a.server m))))
    (class_row c k m a g (after_puts (puts_given (kept_of c (given_of g.zones (top_of s.query).control a.server m))) g s))
unfolding message_row marked_row kept_row
message_is o m a g s k c e f h =
    ap (λ (x : Option Message). message_row x a g s) e
    ∙ ap (λ (x : Marks). marked_row (class_of (top_of s.query).control (rcode m) x) x m a g s) f
    ∙ ap (λ (x : marks.Class). marked_row x k m a g s) (sym h)

pub message_none : (o : Option Message) (a : Accepted) (g : Setting) (s : State) → o ≡ None → message_row o a g s ≡ ends s.query [] (dropped cause.malformed)
unfolding message_row
message_none o a g s e = ap (λ (x : Option Message). message_row x a g s) e

-- A turn

pub heard_last : (a : Accepted) (g : Setting) (s : State) → 100 ≤ s.query.turns + 1 → heard_row a g s ≡ ends (counted s.query) [] (dropped cause.turns)
unfolding heard_row
heard_last a g s h =
    let e : is_last_turn s ≡ true = grind (arith, nat_tests) in
    ap (λ (b : Bool). if b then ends (one_more s).query [] (dropped cause.turns) else message_row (message_of a.packet) a g (one_more s)) e

pub heard_on : (a : Accepted) (g : Setting) (s : State) → s.query.turns + 1 < 100 → heard_row a g s ≡ message_row (message_of a.packet) a g (one_more s)
unfolding heard_row
heard_on a g s h =
    let e : is_last_turn s ≡ false = grind (arith, nat_tests) in
    ap (λ (b : Bool). if b then ends (one_more s).query [] (dropped cause.turns) else message_row (message_of a.packet) a g (one_more s)) e
