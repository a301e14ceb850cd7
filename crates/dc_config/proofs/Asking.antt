-- How the calls of the files fared, step by step.
use Rattle.std.proofs.Common.{◌≡◌, ℕ, Bool, List, [], ◌∷◌, ◌++◌, Option, Result, Err, codes, sym, ap, ◌∙◌, subst, append_assoc}
use Rattle.std.proofs.lemmas.List.{append-nil}
use Rattle.dc_event.specs.Causes.{Fares, fares_behind}
use Rattle.dc_config.specs.Tree.{Tree}
use Rattle.dc_config.specs.Asked.{well, well_error, path_of, paths_of, AskedZones}
use Rattle.dc_config.specs.declared.error.ConfigError.{ConfigError}

-- the exit of a `?`, behind calls that went well
pub fares_exits : {F T : Type 0} (asked : F → List (List ℕ) → F → Type 0) (both : (a b c : F) (xs ys : List (List ℕ)) → asked a xs b → asked b ys c → asked a (xs ++ ys) c)
    (refused : F → F → Type 0) (faults : F → ℕ) (old mid new : F) (paths : List (List ℕ)) (r : Result T ConfigError) (y why : ConfigError) → r ≡ Err y → y ≡ why
    → asked old paths mid → faults mid ≡ faults old → Fares asked refused faults (well_error why) mid new → Fares asked refused faults (well r) old new
fares_exits {F} {T} asked both refused faults old mid new paths r y why e f gains stays h =
    let P : Bool → Type 0 = λ b. Fares asked refused faults b old new in
    subst P (sym (ap well e ∙ ap well_error f)) (fares_behind asked both refused faults (well_error why) old mid new paths gains stays h)

-- one more file was asked for
pub one_more : {F : Type 0} (asked : F → List (List ℕ) → F → Type 0) (both : (a b c : F) (xs ys : List (List ℕ)) → asked a xs b → asked b ys c → asked a (xs ++ ys) c)
    (old mid new : F) (done all : List (List ℕ)) (file : List ℕ) (files rest : List (List ℕ)) → asked old done mid → done ++ paths_of files ≡ all → files ≡ file ∷ rest → asked mid (path_of file) new
    → (xs : List (List ℕ)) × asked old xs new × (xs ++ paths_of rest ≡ all)
one_more asked both old mid new done all file files rest a e s b =
    (done ++ path_of file, both old mid new done (path_of file) a b, append_assoc done (path_of file) (paths_of rest) ∙ ap (λ l. done ++ paths_of l) (sym s) ∙ e)

-- the folder, and then its files
pub zones_asked : {F : Type 0} (tree : F → Option Tree) (asked : F → List (List ℕ) → F → Type 0)
    (both : (a b c : F) (xs ys : List (List ℕ)) → asked a xs b → asked b ys c → asked a (xs ++ ys) c) (old mid new : F) (files : List (List ℕ))
    → asked old (codes "servers" ∷ []) mid → asked mid (paths_of files) new → asked old (codes "servers" ∷ (paths_of files ++ [])) new
zones_asked tree asked both old mid new files a b = rw append-nil (both old mid new (codes "servers" ∷ []) (paths_of files) a b)

-- and then others
pub asked_behind : {F : Type 0} (tree : F → Option Tree) (asked : F → List (List ℕ) → F → Type 0)
    (both : (a b c : F) (xs ys : List (List ℕ)) → asked a xs b → asked b ys c → asked a (xs ++ ys) c) (old mid new : F) (behind : List (List ℕ))
    → AskedZones tree asked [] old mid → asked mid behind new → AskedZones tree asked behind old new
asked_behind tree asked both old mid new behind z b = record {
  files = z.files;
  told = z.told;
  asks = along _ _ (append-nil (paths_of z.files)) (both old mid new (codes "servers" ∷ (paths_of z.files ++ [])) behind z.asks b);
}
  where
    along : (xs ys : List (List ℕ)) → xs ≡ ys → asked old (codes "servers" ∷ (xs ++ behind)) new → asked old (codes "servers" ∷ (ys ++ behind)) new
    along xs ys e h = let P : List (List ℕ) → Type 0 = λ l. asked old (codes "servers" ∷ (l ++ behind)) new in subst P e h
