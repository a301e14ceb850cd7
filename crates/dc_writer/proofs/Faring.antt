-- How a sink fares where texts are written one after another.
use Rattle.std.proofs.Common.{◌≡◌, ℕ, Bool, true, false, not, List, [], ◌++◌, subst}
use Rattle.dc_event.specs.Answers.{well_put}
use Rattle.dc_event.specs.Causes.{Fares}
use Rattle.dc_event.specs.declared.answers.Put.{Put}
use Rattle.dc_writer.specs.Fated.{Fated, Fated-both}
use Rattle.dc_writer.specs.Written.{Written, unwritten, Passes, Wrote}

module _ {K : Type 0} (gained : K → List ℕ → K → Type 0) (refused : K → K → Type 0) (faults : K → ℕ)
    (both : (a b c : K) (xs ys : List ℕ) → gained a xs b → gained b ys c → gained a (xs ++ ys) c) where
  -- A text was written, and then more was done.
  pub fated_behind : (f g h : Bool) (k l m : K) (held text left : List ℕ) → Passes gained faults f g k held text l left → Fated gained refused faults f g k l → Fated gained refused faults g h l m
      → Fated gained refused faults f h k m
  fated_behind false false h k l m held text left w p q = Fated-both gained refused faults both false false h k l m w.0 (λ e f. w.1) p q
  fated_behind false true h k l m held text left w p q = Fated-both gained refused faults both false true h k l m [] (λ e f. cc) p q
  fated_behind true false h k l m held text left w p q = absurd w
  fated_behind true true h k l m held text left w p q = Fated-both gained refused faults both true true h k l m [] (λ e f. cc) p q

  -- No text was cut off before that.
  pub fated_then : (g h : Bool) (k l m : K) (held left : List ℕ) → g ≡ false → Passes gained faults false g k [] held l left → Fated gained refused faults false g k l → Fated gained refused faults false h l m
      → Fated gained refused faults false h k m
  fated_then false h k l m held left e w p q = fated_behind false false h k l m [] held left w p q
  fated_then true h k l m held left e w p q = cc

  -- The same of writers.
  pub fared_both : {s t : Written} {k l : K} {xs : List ℕ} (h : Bool) (m : K) → Wrote gained faults s k xs t l → Fated gained refused faults s.failed t.failed k l → Fated gained refused faults t.failed h l m
      → Fated gained refused faults s.failed h k m
  fared_both {s} {t} {k} {l} {xs} h m w p q = fated_behind s.failed t.failed h k l m s.held xs t.held w.passed p q

  -- Nothing had failed before, and this was answered in the end.
  fares_by : (well : Bool) (k m : K) → Fated gained refused faults false (not well) k m → Fares gained refused faults well k m
  fares_by true k m p = p
  fares_by false k m p = p

  pub whole_fares : (s : Written) (result : Put) (k m : K) → s ≡ unwritten → Fated gained refused faults s.failed (not (well_put result)) k m → Fares gained refused faults (well_put result) k m
  whole_fares s result k m fresh p =
      fares_by (well_put result) k m (subst (λ (x : Written). Fated gained refused faults x.failed (not (well_put result)) k m) fresh p)
