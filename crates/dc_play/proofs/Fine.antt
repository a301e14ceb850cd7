-- How source and sink fared, by the answer behind the loop.
use Rattle.std.proofs.Common.{◌≡◌, ℕ, Bool, true, false, not, ◌&&◌, List, refl}
use Rattle.dc_event.specs.Causes.{Fares}
use Rattle.dc_script.specs.Fated.{Fated}
use Rattle.dc_serve.specs.Serve.{count_served}
use Rattle.dc_serve.specs.declared.Served.{Served}
use Rattle.dc_serve.specs.declared.Served.TheVariants as served
use Rattle.dc_play.specs.Playing.{answer_from, reads_well, writes_well}

-- Whether a read has failed.
pub read_fared : (answer : Served) (read written : Bool) (faults : ℕ) → faults ≡ count_served answer 0 → (faults ≡ 0 → read ≡ false)
    → (answer ≡ served.Failed → written ≡ false → read ≡ true) → written && read ≡ false → read ≡ not (reads_well (answer_from answer (not written)))
read_fared answer read true faults count calm cause apart = apart
read_fared served.Finished read false faults count calm cause apart = calm count
read_fared served.Spent read false faults count calm cause apart = calm count
read_fared served.Ended read false faults count calm cause apart = calm count
read_fared served.Failed read false faults count calm cause apart = cause refl refl
read_fared (served.Bad line) read false faults count calm cause apart = calm count

-- Whether a write has.
pub write_fared : (answer : Served) (written : Bool) → written ≡ not (writes_well (answer_from answer (not written)))
write_fared answer true = refl
write_fared served.Finished false = refl
write_fared served.Spent false = refl
write_fared served.Ended false = refl
write_fared served.Failed false = refl
write_fared (served.Bad line) false = refl

pub fares_of : {S A : Type 0} (gained : S → List A → S → Type 0) (refused : S → S → Type 0) (faults : S → ℕ) (well failed : Bool) (old new : S)
    → failed ≡ not well → Fated gained refused faults false failed old new → Fares gained refused faults well old new
fares_of gained refused faults true false old new e f = f
fares_of gained refused faults false true old new e f = f
fares_of gained refused faults true true old new e f = cc
fares_of gained refused faults false false old new e f = cc

-- What a lent source or sink did, its owner's did.
pub fares_lent : {R S A : Type 0} (old new : R) (now : R → S) (gained : S → List A → S → Type 0) (refused : S → S → Type 0) (faults : S → ℕ)
    (lent : R → List A → R → Type 0) (unlent : R → R → Type 0) → ((a b : R) (xs : List A) → lent a xs b → gained (now a) xs (now b)) → ((a b : R) → unlent a b → refused (now a) (now b))
    → (well : Bool) → Fares lent unlent (λ r. faults (now r)) well old new → Fares gained refused faults well (now old) (now new)
fares_lent old new now gained refused faults lent unlent first last true f = f
fares_lent old new now gained refused faults lent unlent first last false f = record {
  list = f.list;
  before = now f.before;
  gains = first old f.before f.list f.gains;
  well = f.well;
  last = last f.before new f.last;
  count = f.count;
}
