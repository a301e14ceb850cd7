-- The verdict on a script, by its head.
use Rattle.std.proofs.Common.{◌≡◌, ℕ, ◌+◌, ◌<◌, ◌≤◌, ◌^◌, eqb, length, ◌∷◌, arith, true, false, List, [], ◌++◌, Option, Some, None, refl, ap, sym, ◌∙◌, subst}
use Rattle.std.proofs.lemmas.List.Splits.{length-slice_split}
use Rattle.std.proofs.lemmas.List.Sums.{count_by-le-length}
use Rattle.std.specs.Prelude.{nat_lt}
use Rattle.dc_model.specs.Event.{Event}
use Rattle.dc_script.specs.Head.{Head, HeadStep, refused, going, begun, at_version, no_head, behind, other, head_from, head_step, head_of}
use Rattle.dc_script.specs.Script.{Words, pieces_of}
use Rattle.dc_script.specs.Read.{says}
use Rattle.dc_audit.specs.Verdict.{verdict_of, verdict_or, by_head, by_events, by_size, compared, texts_of}
use Rattle.dc_audit.specs.declared.outcome.Verdict.TheVariants.{Bad, Large}

pub of_other : (script recorded : List ℕ) (k : ℕ) → head_of script ≡ other k → Bad k ≡ verdict_of script recorded
unfolding verdict_of by_head
of_other script recorded k e = sym (ap (λ h. by_head h recorded) e)

by_events_is : (h : Head) (bad : Option ℕ) (es : List Event) (recorded : List ℕ)
    → verdict_or (by_size (nat_lt 10000000 h.config.size) (compared 0 (texts_of h.config h.seed es) recorded)) bad ≡ by_events h bad es recorded
unfolding by_events
by_events_is h None es recorded = refl
by_events_is h (Some k) es recorded = refl

of_behind : (script recorded : List ℕ) (h : Head) (k : ℕ) (text : List ℕ) → head_of script ≡ behind h k (pieces_of text)
    → verdict_or (by_size (nat_lt 10000000 h.config.size) (compared 0 (texts_of h.config h.seed (says (k + 1) text).events) recorded)) (says (k + 1) text).bad ≡ verdict_of script recorded
unfolding verdict_of by_head
of_behind script recorded h k text e = by_events_is h (says (k + 1) text).bad (says (k + 1) text).events recorded ∙ sym (ap (λ r. by_head r recorded) e)

-- The text behind a head, where what is left of it is told.
same_rest : (rest left : List ℕ) → Some left ≡ Some rest → rest ≡ left
same_rest rest left e = cc

pub of_large : (script recorded : List ℕ) (h : Head) (k : ℕ) (front left : List ℕ)
    → (rest : List ℕ) × (Some left ≡ Some rest) × (head_of script ≡ behind h k (pieces_of (front ++ rest)))
    → nat_lt 10000000 h.config.size ≡ true → verdict_or Large (says (k + 1) (front ++ left)).bad ≡ verdict_of script recorded
of_large script recorded h k front left head size =
    let e = subst (λ r. head_of script ≡ behind h k (pieces_of (front ++ r))) (same_rest head.0 left head.1) head.2 in
    let said = says (k + 1) (front ++ left) in
    ap (λ b. verdict_or (by_size b (compared 0 (texts_of h.config h.seed said.events) recorded)) said.bad) (sym size) ∙ of_behind script recorded h k (front ++ left) e

pub of_compared : (script recorded : List ℕ) (h : Head) (k : ℕ) (front left : List ℕ)
    → (rest : List ℕ) × (Some left ≡ Some rest) × (head_of script ≡ behind h k (pieces_of (front ++ rest)))
    → nat_lt 10000000 h.config.size ≡ false
    → verdict_or (compared 0 (texts_of h.config h.seed (says (k + 1) (front ++ left)).events) recorded) (says (k + 1) (front ++ left)).bad ≡ verdict_of script recorded
of_compared script recorded h k front left head size =
    let e = subst (λ r. head_of script ≡ behind h k (pieces_of (front ++ r))) (same_rest head.0 left head.1) head.2 in
    let said = says (k + 1) (front ++ left) in
    ap (λ b. verdict_or (by_size b (compared 0 (texts_of h.config h.seed said.events) recorded)) said.bad) (sym size) ∙ of_behind script recorded h k (front ++ left) e

-- Behind a head there are no more pieces than in all.
shorter : (k : ℕ) (step : HeadStep) (pieces : Words) (h : Head) (j : ℕ) (rest : Words) → head_from k step pieces ≡ behind h j rest → length rest ≤ length pieces
unfolding head_from
shorter k refused pieces h j rest e = cc
shorter k (begun g) pieces h j rest e = let same : pieces ≡ rest = cc in rw same (omega arith)
shorter k (going stage g) [] h j rest e = cc
shorter k (going stage g) (piece ∷ []) h j rest e = cc
shorter k (going stage g) (text ∷ piece ∷ pieces) h j rest e = let less = shorter (k + 1) (head_step stage g text) (piece ∷ pieces) h j rest e in omega (arith, less)

pub pieces_few : (script : List ℕ) (h : Head) (k : ℕ) (front left : List ℕ) → (rest : List ℕ) × (Some left ≡ Some rest) × (head_of script ≡ behind h k (pieces_of (front ++ rest)))
    → length script < 2 ^ 60 → length (pieces_of (front ++ left)) ≤ 2 ^ 60
pieces_few script h k front left head few =
    let e = subst (λ r. head_of script ≡ behind h k (pieces_of (front ++ r))) (same_rest head.0 left head.1) head.2 in
    let less = shorter 0 (going at_version no_head) (pieces_of script) h k (pieces_of (front ++ left)) e in
    let all = length-slice_split (λ c. eqb c 10) script in
    let most = count_by-le-length (λ c. eqb c 10) script in
    omega (arith, less, all, most, few)
