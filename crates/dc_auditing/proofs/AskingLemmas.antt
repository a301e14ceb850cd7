-- How the calls of the files fared, name by name.
use Rattle.std.proofs.Common.{◌≡◌, ℕ, Bool, List, [], ◌∷◌, ◌++◌, map, Option, Result, Err, refl, sym, ap, ◌∙◌, subst}
use Rattle.std.proofs.lemmas.List.{map-append}
use Rattle.dc_event.specs.Causes.{Fares, fares_behind}
use Rattle.dc_config.specs.Tree.{Tree}
use Rattle.dc_auditing.specs.Findings.{Recorded, recorded_at, recording_of, paths_of}
use Rattle.dc_auditing.specs.Runs.{well, well_why}
use Rattle.dc_auditing.specs.declared.reading.Unread.{Unread}

-- the exit of a `?`, behind calls that went well
pub fares_exits : {F T : Type 0} (asked : F → List (List ℕ) → F → Type 0) (both : (a b c : F) (xs ys : List (List ℕ)) → asked a xs b → asked b ys c → asked a (xs ++ ys) c)
    (refused : F → F → Type 0) (faults : F → ℕ) (old mid new : F) (paths : List (List ℕ)) (r : Result T Unread) (y why : Unread) → r ≡ Err y → y ≡ why
    → asked old paths mid → faults mid ≡ faults old → Fares asked refused faults (well_why why) mid new → Fares asked refused faults (well r) old new
fares_exits {F} {T} asked both refused faults old mid new paths r y why e f gains stays h =
    let P : Bool → Type 0 = λ b. Fares asked refused faults b old new in
    subst P (sym (ap well e ∙ ap well_why f)) (fares_behind asked both refused faults (well_why why) old mid new paths gains stays h)

paths_both : (xs ys : List (List ℕ)) → paths_of (xs ++ ys) ≡ paths_of xs ++ paths_of ys
paths_both [] ys = refl
paths_both (x ∷ xs) ys = ap (λ l. x ∷ recording_of x ∷ l) (paths_both xs ys)

-- the files of one more name were asked for
pub asked_more : {F : Type 0} (asked : F → List (List ℕ) → F → Type 0) (both : (a b c : F) (xs ys : List (List ℕ)) → asked a xs b → asked b ys c → asked a (xs ++ ys) c)
    (old mid new : F) (before after : List (List ℕ)) (text name : List ℕ) → text ≡ name → after ≡ before ++ name ∷ [] → asked old (paths_of before) mid → asked mid (text ∷ recording_of text ∷ []) new
    → asked old (paths_of after) new
asked_more asked both old mid new before after text name t a p q =
    let paths : paths_of before ++ (text ∷ recording_of text ∷ []) ≡ paths_of after = sym (ap paths_of (a ∙ ap (λ n. before ++ n ∷ []) (sym t)) ∙ paths_both before (text ∷ [])) in
    subst (λ l. asked old l new) paths (both old mid new (paths_of before) (text ∷ recording_of text ∷ []) p q)

-- what is held of one more name
pub told_more : (t : Tree) (held held' : List (Option Recorded)) (run : Option Recorded) (text name : List ℕ) (before after : List (List ℕ)) → held ≡ map (recorded_at t) before → held' ≡ held ++ run ∷ []
    → run ≡ recorded_at t text → text ≡ name → after ≡ before ++ name ∷ [] → held' ≡ map (recorded_at t) after
told_more t held held' run text name before after h m r n a =
    m ∙ ap (λ l. l ++ run ∷ []) h ∙ ap (λ o. map (recorded_at t) before ++ o ∷ []) (r ∙ ap (recorded_at t) n) ∙ sym (map-append (recorded_at t) before (name ∷ [])) ∙ ap (map (recorded_at t)) (sym a)
