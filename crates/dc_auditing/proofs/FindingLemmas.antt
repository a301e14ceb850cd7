-- Findings, where verdicts are spread.
use Rattle.std.proofs.Common.{◌≡◌, ℕ, suc, ◌+◌, ◌<◌, Bool, true, false, not, cond, eqb, List, [], ◌∷◌, ◌++◌, length, map, drop, get_or, refl, ap, sym, ◌∙◌, arith, append_assoc, add-one, drop-cons, Option, Some, None}
use Rattle.std.specs.Prelude.{option_map, ◌&&◌, ◌≤◌}
use Rattle.std.specs.List.{count_by, list_all}
use Rattle.std.proofs.lemmas.List.{drop_all, append-nil}
use Rattle.std.proofs.lemmas.List.Folds.{sum_by-zero}
use Rattle.dc_audit.specs.Verdict.{verdict_on}
use Rattle.dc_audit.specs.declared.judge.Pair.{Pair}
use Rattle.dc_audit.specs.declared.outcome.Verdict.{Verdict}
use Rattle.dc_audit.specs.declared.outcome.Verdict.TheVariants.{Same, Differs, Bad, Large}
use Rattle.dc_auditing.specs.Findings.{Recorded, finding_of, is_same}
use Rattle.dc_auditing.specs.Runs.{spread, recorded_of, found_of, held_in}
use Rattle.dc_auditing.specs.declared.finding.Finding.{Finding}
use Rattle.dc_auditing.specs.declared.finding.Finding.TheVariants.{Judged, Missing}

-- What is found of each name is the verdict on its pair.
pub found_spread : (bs : List Bool) (ps : List Pair) → map found_of (spread bs (map verdict_on ps)) ≡ map finding_of (held_in bs ps)
unfolding spread
found_spread [] ps = refl
found_spread (false ∷ bs) ps = ap (λ l. Missing ∷ l) (found_spread bs ps)
found_spread (true ∷ bs) [] = ap (λ l. Missing ∷ l) (found_spread bs [])
found_spread (true ∷ bs) (p ∷ ps) = ap (λ l. Judged (verdict_on p) ∷ l) (found_spread bs ps)

-- One name after another

pub first_placed : (v : Verdict) (vs : List Verdict) (there : Bool) → there ≡ true → (bs : List Bool) → map found_of (spread (there ∷ bs) (v ∷ vs)) ≡ Judged v ∷ map found_of (spread bs vs)
unfolding spread
first_placed v vs there e bs = rw e refl

pub none_placed : (vs : List Verdict) (there : Bool) → (there ≡ true → vs ≡ []) → (bs : List Bool) → map found_of (spread (there ∷ bs) vs) ≡ Missing ∷ map found_of (spread bs vs)
unfolding spread
none_placed vs false h bs = refl
none_placed [] true h bs = refl
none_placed (v ∷ vs) true h bs = let e = h refl in cc

pub placed_more : (done done' : List Finding) (present : List Bool) (i : ℕ) (b d : Bool) (rest rest' : List Verdict) (f : Finding) (all : List Finding) → i < length present → b ≡ get_or present i d
    → ((bs : List Bool) → map found_of (spread (b ∷ bs) rest) ≡ f ∷ map found_of (spread bs rest')) → done' ≡ done ++ f ∷ []
    → done ++ map found_of (spread (drop i present) rest) ≡ all → done' ++ map found_of (spread (drop (i + 1) present) rest') ≡ all
placed_more done done' present i b d rest rest' f all lt is step more so_far =
    let next : drop i present ≡ b ∷ drop (i + 1) present = rw add-one (drop-cons present i d lt ∙ ap (λ c. c ∷ drop (suc i) present) (sym is)) in
    let here = ap (λ l. map found_of (spread l rest)) next ∙ step (drop (i + 1) present) in
    ap (λ l. l ++ map found_of (spread (drop (i + 1) present) rest')) more ∙ append_assoc done (f ∷ []) (map found_of (spread (drop (i + 1) present) rest'))
    ∙ ap (λ l. done ++ l) (sym here) ∙ so_far

pub placed_all : (done : List Finding) (present : List Bool) (i : ℕ) (rest : List Verdict) (all : List Finding) → length present ≤ i → done ++ map found_of (spread (drop i present) rest) ≡ all → done ≡ all
unfolding spread
placed_all done present i rest all le so_far = sym (append-nil done) ∙ ap (λ l. done ++ map found_of (spread l rest)) (sym (drop_all i present le)) ∙ so_far

-- None differs exactly where all are the same.

same_is : (f : Finding) → eqb (cond (not (is_same f)) 1 0) 0 ≡ is_same f
same_is (Judged Same) = refl
same_is (Judged (Differs k)) = refl
same_is (Judged (Bad k)) = refl
same_is (Judged Large) = refl
same_is Missing = refl

all_like : (p q : Finding → Bool) → ((f : Finding) → p f ≡ q f) → (fs : List Finding) → list_all p fs ≡ list_all q fs
all_like p q h [] = refl
all_like p q h (f ∷ fs) = ap (λ b. b && list_all p fs) (h f) ∙ ap (λ b. q f && b) (all_like p q h fs)

pub none_unequal : (fs : List Finding) → eqb (count_by (λ f. not (is_same f)) fs) 0 ≡ list_all is_same fs
none_unequal fs = sum_by-zero (λ f. cond (not (is_same f)) 1 0) fs ∙ all_like _ is_same same_is fs
