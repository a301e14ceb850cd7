-- What is told of a recorded world.
use Rattle.std.proofs.Common.{◌≡◌, ℕ, ◌+◌, Bool, true, false, cond, bytes_eq, List, [], ◌∷◌, ◌++◌, length, codes, Option, Some, None, refl, sym, ◌∙◌, ap}
use Rattle.std.proofs.lemmas.List.{append_cancel_right}
use Rattle.dc_model.specs.Event.{Event}
use Rattle.dc_event.specs.Told.{Tells}
use Rattle.dc_script.specs.Script.{Said, Words, said_at_end, with_event, said_from, pieces_of}
use Rattle.dc_script.specs.Read.{line_event, says}
use Rattle.dc_script.specs.World.{Recorded, HandedOut}

at_end : (m n : ℕ) (pieces : Words) → (said_at_end m pieces).events ≡ (said_at_end n pieces).events
at_end m n [] = refl
at_end m n ([] ∷ []) = refl
at_end m n ([] ∷ w ∷ ws) = refl
at_end m n ((c ∷ cs) ∷ ws) = refl

with_one : (m n : ℕ) (o : Option Event) (s t : Said) → s.events ≡ t.events → (with_event m o s).events ≡ (with_event n o t).events
with_one m n None s t h = refl
with_one m n (Some e) s t h = ap (λ es. e ∷ es) h

by_line : (b : Bool) (m n : ℕ) (o : Option Event) (pieces : Words) (s t : Said) → s.events ≡ t.events
    → (cond b (said_at_end m pieces) (with_event m o s)).events ≡ (cond b (said_at_end n pieces) (with_event n o t)).events
by_line true m n o pieces s t h = at_end m n pieces
by_line false m n o pieces s t h = with_one m n o s t h

-- The events that pieces say don't depend on the number of the first line.
pub same_events : (m n : ℕ) (pieces : Words) → (said_from line_event m pieces).events ≡ (said_from line_event n pieces).events
unfolding said_from
same_events m n [] = refl
same_events m n (piece ∷ []) = refl
same_events m n (text ∷ piece ∷ pieces) =
    by_line (bytes_eq text (codes "end")) m n (line_event text) (piece ∷ pieces) (said_from line_event (m + 1) (piece ∷ pieces)) (said_from line_event (n + 1) (piece ∷ pieces))
    (same_events (m + 1) (n + 1) (piece ∷ pieces))

-- Where the bytes taken are told, so are the events.
pub HandedOut-tells : {S K : Type 0} (took : S → List ℕ → S → Type 0) (refused : S → S → Type 0) (faults : S → ℕ) (old new : Recorded S K) → Tells took old.source new.source
    → Tells (HandedOut took refused faults) old new
HandedOut-tells took refused faults old new told xs ys p q =
    let bytes : p.heard.bytes ≡ q.heard.bytes = told p.heard.bytes q.heard.bytes p.heard.taken q.heard.taken in
    let one = p.heard.read [] 0 in
    let two = q.heard.read [] 0 in
    let text = ap (λ b. says 0 (old.unread ++ (b ++ []))) bytes in
    let whole : xs ++ (says (0 + length xs) (new.unread ++ [])).events ≡ ys ++ (says (0 + length ys) (new.unread ++ [])).events =
    ap (λ s. s.events) (sym one ∙ text ∙ two) in
    let rest : (says (0 + length xs) (new.unread ++ [])).events ≡ (says (0 + length ys) (new.unread ++ [])).events = same_events (0 + length xs) (0 + length ys) (pieces_of (new.unread ++ [])) in
    append_cancel_right xs ys (says (0 + length ys) (new.unread ++ [])).events (ap (λ es. xs ++ es) (sym rest) ∙ whole)
