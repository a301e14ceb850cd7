-- The nearest zone, from a name upwards.
use Rattle.std.proofs.Common.{◌≡◌, Bool, true, false, cond, List, [], ◌∷◌, ◌++◌, refl, sym, ap, ◌∙◌, append_assoc, ℕ, Some, None, find, unwrap_or, is_some, option_map}
use Rattle.dc_model.specs.Name.{Name, root, lower, name_eq, suffixes}
use Rattle.dc_model.specs.Rules.{Zone, Zones, is_zone, nearest}
use Rattle.dc_model.proofs.ZoneLemmas.{lower-lower}
use Rattle.dc_rules.specs.Table.{IsEnd}

is_zone-lower : (zs : Zones) (n : Name) → is_zone zs (lower n) ≡ is_zone zs n
is_zone-lower zs n = ap (λ m. is_some (option_map (λ (x : Zone). x.places) (find (λ (x : Zone). name_eq x.name m) zs.configured))) (lower-lower n)

-- of a configured zone it is that zone
pub nearest-zone : (zs : Zones) (n : Name) → is_zone zs n ≡ true → nearest zs n ≡ lower n
nearest-zone zs [] h = ap (λ b. unwrap_or (cond b (Some []) None) root) h
nearest-zone zs (l ∷ ls) h = ap (λ b. unwrap_or (cond b (Some (lower (l ∷ ls))) (find (is_zone zs) (suffixes (lower ls)))) root) (is_zone-lower zs (l ∷ ls) ∙ h)

-- of the root it is the root
pub nearest-root : (zs : Zones) → nearest zs [] ≡ []
nearest-root zs = by (is_zone zs [])
  where
    by : (b : Bool) → unwrap_or (cond b (Some []) None) root ≡ []
    by true = refl
    by false = refl

-- of a name that is no zone it is that of the name above
pub nearest-above : (zs : Zones) (l : List ℕ) (ls : Name) → is_zone zs (l ∷ ls) ≡ false → nearest zs (l ∷ ls) ≡ nearest zs ls
nearest-above zs l ls h = ap (λ b. unwrap_or (cond b (Some (lower (l ∷ ls))) (find (is_zone zs) (suffixes (lower ls)))) root) (is_zone-lower zs (l ∷ ls) ∙ h)

-- where a walk from the name upwards stands: at an end of the name that has the same nearest zone
pub record IsWalk (zs : Zones) (name end : Name) : Type 0 where
  pub same : nearest zs end ≡ nearest zs name
  pub front : IsEnd name end

pub walk_start : (zs : Zones) (n : Name) → IsWalk zs n n
walk_start zs n = record { same = refl; front = ([], refl) }

pub walk_up : (zs : Zones) (n end above : Name) (l : List ℕ) → IsWalk zs n end → end ≡ l ∷ above → is_zone zs end ≡ false → IsWalk zs n above
walk_up zs n end above l w e h =
    let no : is_zone zs (l ∷ above) ≡ false = ap (λ m. is_zone zs m) (sym e) ∙ h in
    record {
      same = sym (nearest-above zs l above no) ∙ ap (λ m. nearest zs m) (sym e) ∙ w.same;
      front = (w.front.0 ++ (l ∷ []), w.front.1 ∙ ap (λ m. w.front.0 ++ m) e ∙ sym (append_assoc w.front.0 (l ∷ []) above));
    }

pub walk_zone : (zs : Zones) (n end : Name) → IsWalk zs n end → is_zone zs end ≡ true → lower end ≡ nearest zs n
walk_zone zs n end w h = sym (nearest-zone zs end h) ∙ w.same

pub walk_root : (zs : Zones) (n end : Name) → IsWalk zs n end → end ≡ [] → lower end ≡ nearest zs n
walk_root zs n end w e = ap (λ m. lower m) e ∙ sym (nearest-root zs) ∙ ap (λ m. nearest zs m) (sym e) ∙ w.same
