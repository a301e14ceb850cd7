-- The lines of an audit, one after another.
use Rattle.std.proofs.Common.{◌≡◌, ℕ, suc, ◌+◌, ◌<◌, ◌≤◌, List, [], ◌∷◌, ◌++◌, length, drop, get_or, refl, ap, sym, ◌∙◌, append_assoc, add-one, drop-cons}
use Rattle.std.proofs.lemmas.List.{drop_all, append-nil}
use Rattle.std.specs.Prelude.{codes}
use Rattle.dc_auditing.specs.Report.{line_of, word_of, number_of, number_text, report_of}
use Rattle.dc_auditing.specs.declared.finding.Finding.{Finding}

report_cons : (name : List ℕ) (names : List (List ℕ)) (f : Finding) (fs : List Finding) → report_of (name ∷ names) (f ∷ fs) ≡ line_of name f ++ report_of names fs
unfolding report_of
report_cons name names f fs = refl

-- the line of one more name
pub report_more : (done done' : List ℕ) (names : List (List ℕ)) (fs : List Finding) (i : ℕ) (name : List ℕ) (f d : Finding) (all : List ℕ) → i < length names → i < length fs
    → name ≡ get_or names i name → f ≡ get_or fs i d → done' ≡ done ++ line_of name f → done ++ report_of (drop i names) (drop i fs) ≡ all
    → done' ++ report_of (drop (i + 1) names) (drop (i + 1) fs) ≡ all
report_more done done' names fs i name f d all lt lt' n g more so_far =
    let next : drop i names ≡ name ∷ drop (i + 1) names = rw add-one (drop-cons names i name lt ∙ ap (λ c. c ∷ drop (suc i) names) (sym n)) in
    let next' : drop i fs ≡ f ∷ drop (i + 1) fs = rw add-one (drop-cons fs i d lt' ∙ ap (λ c. c ∷ drop (suc i) fs) (sym g)) in
    ap (λ l. l ++ report_of (drop (i + 1) names) (drop (i + 1) fs)) more ∙ append_assoc done (line_of name f) (report_of (drop (i + 1) names) (drop (i + 1) fs))
    ∙ ap (λ l. done ++ l) (sym ((λ j. report_of (next j) (next' j)) ∙ report_cons name (drop (i + 1) names) f (drop (i + 1) fs))) ∙ so_far

pub report_all : (done : List ℕ) (names : List (List ℕ)) (fs : List Finding) (i : ℕ) (all : List ℕ) → length names ≤ i → done ++ report_of (drop i names) (drop i fs) ≡ all → done ≡ all
unfolding report_of
report_all done names fs i all le so_far = sym (append-nil done) ∙ ap (λ l. done ++ report_of l (drop i fs)) (sym (drop_all i names le)) ∙ so_far

-- a line, part by part
pub line_parts : (t t1 t2 t3 t4 t5 w n name : List ℕ) (f : Finding) → t1 ≡ t ++ w → w ≡ word_of f → t2 ≡ t1 ++ codes " " → t3 ≡ t2 ++ n → n ≡ name → t4 ≡ t3 ++ number_text (number_of f) → t5 ≡ t4 ++ 10 ∷ []
    → t5 ≡ t ++ line_of name f
unfolding line_of
line_parts t t1 t2 t3 t4 t5 w n name f a b c d e g h =
    h ∙ ap (λ l. l ++ 10 ∷ []) (g ∙ ap (λ l. l ++ number_text (number_of f)) (d ∙ (λ i. (c ∙ ap (λ l. l ++ codes " ") (a ∙ ap (λ l. t ++ l) b)) i ++ e i))) ∙ simp append_assoc
