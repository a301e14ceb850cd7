-- What is promised of a whole script, by its head and by what was played behind it.
use Rattle.std.proofs.Common.{◌≡◌, ℕ, ◌+◌, List, [], ◌++◌, refl, ap, sym, ◌∙◌, append_assoc, subst}
use Rattle.dc_model.specs.Event.{Event, Action}
use Rattle.dc_script.specs.Head.{Head, HeadRead, behind, other, head_of}
use Rattle.dc_script.specs.Script.{pieces_of}
use Rattle.dc_script.specs.Read.{says}
use Rattle.dc_script.specs.Text.{text_of}
use Rattle.dc_play.specs.Playing as playing
use Rattle.dc_play.specs.Playing.{outcome_of}
use Rattle.dc_play.specs.declared.played.Played.{Played}
use Rattle.dc_play.specs.declared.played.Played.TheVariants as played
use Rattle.dc_play.proofs.Promises.{outcome_same}
use Rattle.dc_status.specs.declared.status.Status.{Status}
use Rattle.dc_status.specs.declared.status.Status.TheVariants.{BadScript}
use Rattle.dc_status.specs.Played.{status_of}
use Rattle.dc_serving.specs.Runs.{machine_run}
use Rattle.dc_commands.specs.Replay.{Outcome, outcome, whole_text, with_status, Keeps}

-- A head with a bad line comes to that line.
pub other_keeps : (limit k : ℕ) (h : HeadRead) (whole : List ℕ) → h ≡ other k → Keeps (outcome limit h) whole [] (BadScript k)
unfolding outcome
other_keeps limit k h whole e = rw e (refl, refl)

-- Behind a head that isn't whole nothing was read.
pub nothing_whole : (k : ℕ) (h : HeadRead) → h ≡ other k → [] ≡ whole_text h
unfolding whole_text
nothing_whole k h e = rw e refl

-- What was kept of events is kept of a script.
as_status : (o : playing.Outcome) (whole text : List ℕ) (p : Played) → playing.Keeps o whole text p → Keeps (with_status o) whole text (status_of p)
as_status o whole text played.Done h = (ap status_of h.0, h.1)
as_status o whole text played.Spent h = (ap status_of h.0, h.1)
as_status o whole text (played.Bad k) h = (ap status_of h.0, h.1)
as_status o whole text played.ReadFault h = h
as_status o whole text played.WriteFault h = h

outcome_behind : (run : List Event → List Action) (limit k : ℕ) (read : HeadRead) (h : Head) (text : List ℕ) → ((es : List Event) → run es ≡ machine_run h.config h.seed es)
    → read ≡ behind h k (pieces_of text) → with_status (outcome_of run limit (says (k + 1) text)) ≡ outcome limit read
unfolding outcome
outcome_behind run limit k read h text same e = rw e (ap with_status (outcome_same run (machine_run h.config h.seed) same limit (says (k + 1) text)))

whole_behind : (run : List Event → List Action) (k : ℕ) (read : HeadRead) (h : Head) (text : List ℕ) → ((es : List Event) → run es ≡ machine_run h.config h.seed es)
    → read ≡ behind h k (pieces_of text) → text_of (run (says (k + 1) text).events) ≡ whole_text read
unfolding whole_text
whole_behind run k read h text same e = rw e (ap text_of (same (says (k + 1) text).events))

-- Behind a whole head the promise is that of the events.
pub behind_keeps : (run : List Event → List Action) (limit k : ℕ) (h : Head) (head rest more tail text : List ℕ) (p : Played) (status : Status)
    → ((es : List Event) → run es ≡ machine_run h.config h.seed es)
    → ((t : List ℕ) → head_of (head ++ t) ≡ behind h k (pieces_of (rest ++ t)))
    → playing.Keeps (outcome_of run limit (says (k + 1) (rest ++ (more ++ tail)))) (text_of (run (says (k + 1) (rest ++ more)).events)) text p
    → status ≡ status_of p
    → Keeps (outcome limit (head_of ((head ++ more) ++ tail))) (whole_text (head_of (head ++ more))) text status
behind_keeps run limit k h head rest more tail text p status same read kept answered =
    let all : head_of ((head ++ more) ++ tail) ≡ behind h k (pieces_of (rest ++ (more ++ tail))) = ap head_of (append_assoc head more tail) ∙ read (more ++ tail) in
    let promised = outcome_behind run limit k (head_of ((head ++ more) ++ tail)) h (rest ++ (more ++ tail)) same all in
    let whole = whole_behind run k (head_of (head ++ more)) h (rest ++ more) same (read more) in
    subst (λ s. Keeps (outcome limit (head_of ((head ++ more) ++ tail))) (whole_text (head_of (head ++ more))) text s) (sym answered)
    (subst (λ w. Keeps (outcome limit (head_of ((head ++ more) ++ tail))) w text (status_of p)) whole
    (subst (λ o. Keeps o (text_of (run (says (k + 1) (rest ++ more)).events)) text (status_of p)) promised
    (as_status (outcome_of run limit (says (k + 1) (rest ++ (more ++ tail)))) (text_of (run (says (k + 1) (rest ++ more)).events)) text p kept)))

-- What is kept for a status is kept for one that it is.
pub kept_for : (promised : Outcome) (whole text : List ℕ) (status known : Status) → Keeps promised whole text status → status ≡ known → Keeps promised whole text known
kept_for promised whole text status known kept e = subst (λ s. Keeps promised whole text s) e kept
