-- A text that is read as a script is the text of its head and events.
use Rattle.std.proofs.Common.{◌≡◌, ℕ, ◌+◌, Bool, true, false, cond, leb, bytes_eq, List, [], ◌∷◌, ◌++◌, length, codes, Option, Some, None, refl, sym, ◌∙◌, ap, subst}
use Rattle.std.specs.List.{join_with_byte, AllByRecursion}
use Rattle.dc_model.specs.Event.{Event}
use Rattle.dc_script.specs.Script.{Words, Said, said_at_end, with_event, said_from, event_of_line, most_line}
use Rattle.dc_script.specs.Read.{line_event}
use Rattle.dc_script.specs.EventText.{event_text, events_text, IsWritten}
use Rattle.dc_script.specs.Head.{Head, HeadRead, behind, other, head_of, script_said, said_behind}
use Rattle.dc_script.specs.HeadText.{head_text, IsScriptText}
use Rattle.dc_script.proofs.LineBack.{line-back, same_text}
use Rattle.dc_script.proofs.HeadBack.{head_back}

-- The pieces are the lines of events and `end`.
abbrev AreLines : Words → List Event → Type 0
AreLines pieces es = (join_with_byte 10 pieces ≡ events_text es) × AllByRecursion IsWritten es

no_bad : (k : ℕ) (es : List Event) (A : Type 0) → Some k ≡ None → A
no_bad k es A e = absurd cc

-- The line `end`, with nothing behind it.
end_is : (text : List ℕ) (pieces : Words) (n : ℕ) (es : List Event) → text ≡ codes "end" → said_at_end n pieces ≡ record { events = es; bad = None } → AreLines (text ∷ pieces) es
end_is text [] n es t e = no_bad (n + 1) es _ (ap (λ s. s.bad) e)
end_is text ([] ∷ []) n es t e = subst (AreLines (text ∷ [] ∷ [])) (ap (λ s. s.events) e) (ap (λ l. l ++ (10 ∷ [])) t, tt)
end_is text ([] ∷ w ∷ ws) n es t e = no_bad (n + 1) es _ (ap (λ s. s.bad) e)
end_is text ((c ∷ cs) ∷ ws) n es t e = no_bad (n + 1) es _ (ap (λ s. s.bad) e)

within : (b : Bool) (o : Option Event) (e : Event) → cond b o None ≡ Some e → o ≡ Some e
within true o e h = h
within false o e h = absurd cc

line_is : (text : List ℕ) (e : Event) → line_event text ≡ Some e → (text ≡ event_text e) × IsWritten e
line_is text e h = line-back text e (within (leb (length text) most_line) (event_of_line text) e h)

-- A line, and what stands behind it.
line_by : (b : Bool) (o : Option Event) (text p : List ℕ) (ps : Words) (n : ℕ) (later : Said) (es : List Event) → bytes_eq text (codes "end") ≡ b → line_event text ≡ o
    → ((gs : List Event) → later ≡ record { events = gs; bad = None } → AreLines (p ∷ ps) gs)
    → cond b (said_at_end n (p ∷ ps)) (with_event n o later) ≡ record { events = es; bad = None } → AreLines (text ∷ p ∷ ps) es
line_by true o text p ps n later es b t again e = end_is text (p ∷ ps) n es (same_text text (codes "end") b) e
line_by false None text p ps n later es b t again e = no_bad n es _ (ap (λ s. s.bad) e)
line_by false (Some first) text p ps n later es b t again e =
    let good : later.bad ≡ None = ap (λ s. s.bad) e in
    let whole : later ≡ record { events = later.events; bad = None } = ap (λ o. record { events = later.events; bad = o }) good in
    let rest = again later.events whole in
    let one = line_is text first t in
    subst (AreLines (text ∷ p ∷ ps)) (ap (λ s. s.events) e)
    (ap (λ l. text ++ (10 ∷ l)) rest.0 ∙ ap (λ l. l ++ (10 ∷ events_text later.events)) one.0, (one.1, rest.1))

said_back : (pieces : Words) (n : ℕ) (es : List Event) → said_from line_event n pieces ≡ record { events = es; bad = None } → AreLines pieces es
unfolding said_from
said_back [] n es e = no_bad n es _ (ap (λ s. s.bad) e)
said_back (p ∷ []) n es e = no_bad n es _ (ap (λ s. s.bad) e)
said_back (text ∷ p ∷ ps) n es e =
    line_by (bytes_eq text (codes "end")) (line_event text) text p ps n (said_from line_event (n + 1) (p ∷ ps)) es refl refl (λ gs g. said_back (p ∷ ps) (n + 1) gs g) e

script_by : (text : List ℕ) (r : HeadRead) (h : Head) (es : List Event) → head_of text ≡ r → said_behind r ≡ record { head = Some h; said = record { events = es; bad = None } } → IsScriptText text h es
script_by text (behind g k pieces) h es e s =
    let b = head_back text g k pieces e in
    let same : g ≡ h = let some : Some g ≡ Some h = ap (λ x. x.head) s in cc in
    let lines = said_back pieces (k + 1) es (ap (λ x. x.said) s) in
    record {
      told = b.told;
      permits = b.permits;
      zones = b.zones;
      stands = b.stands;
      written = lines.1;
      text_is = b.text_is ∙ ap (head_text b.told) lines.0;
      head_is = sym same ∙ b.head_is;
    }
script_by text (other k) h es e s = let none : None ≡ Some h = ap (λ x. x.head) s in absurd cc

pub script_back : (text : List ℕ) (h : Head) (es : List Event) → script_said text ≡ record { head = Some h; said = record { events = es; bad = None } } → IsScriptText text h es
script_back text h es s = script_by text (head_of text) h es refl s
