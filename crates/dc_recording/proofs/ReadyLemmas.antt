-- What is ready, by how far it came.
use Rattle.std.proofs.Common.{◌≡◌, inl, inr, ℕ, List, [], length, refl, ap, sym, ◌∙◌, subst, Option, Some, None, Result, Ok, Err}
use Rattle.dc_rules.specs.declared.config.Config.{Config}
use Rattle.dc_config.specs.Environment.{Environment}
use Rattle.dc_config.specs.Tree.{Tree}
use Rattle.dc_config.specs.Conf.{conf_of}
use Rattle.dc_config.specs.Modes.{bad_recorded, first_of}
use Rattle.dc_config.specs.Variables.{bad_variable}
use Rattle.dc_config.specs.declared.error.Variable.{Variable as Named}
use Rattle.dc_config.specs.declared.error.ConfigError.{ConfigError}
use Rattle.dc_script.specs.HeadText.{IsTold}
use Rattle.dc_record.specs.HeadOf.{told_of}
use Rattle.dc_serving.specs.Serving.{IsConfigured, FitsConf}
use Rattle.dc_serving.specs.Setup.{Unread, SetsUp}
use Rattle.dc_serving.specs.declared.setup.Basis.{Basis}
use Rattle.dc_serving.proofs.BegunLemmas.{read, unread}
use Rattle.dc_status.specs.Faults.{nobody, fault_of}
use Rattle.dc_status.specs.declared.status.Status.{Status}
use Rattle.dc_status.specs.declared.status.Status.TheVariants.{Done, Spent, Usage, BadVariable, NoRoot, BadZone, BadPermit, FilesFault, SeedShort, ReadFault, WriteFault, BadScript, BadImage, Unequal, WorldFault, NoMemory}
use Rattle.dc_recording.specs.declared.ready.Ready.{Ready}
use Rattle.dc_recording.specs.Rooted.{rooted}
use Rattle.dc_recording.specs.Recording.{head_lines, Unready, FitsRecorded}
use Rattle.dc_recording.specs.Ready.{ReadyWith, Readies, ReadiesBy, FitsReady, fault_by}

none_some : {A : Type 0} (o : Option A) (x : A) → o ≡ None → o ≡ Some x → ⊥
none_some o x e f = cc

some_same : {A : Type 0} (o : Option A) (a b : A) → o ≡ Some a → o ≡ Some b → a ≡ b
some_same o a b e f = cc

first_none : (a b : Option Named) → first_of a b ≡ None → a ≡ None
first_none None b e = refl
first_none (Some v) b e = cc

-- Where no variable is bad, none of the first three is.
recorded_good : (env : Environment) → bad_recorded env ≡ None → bad_variable env ≡ None
recorded_good env e = first_none (bad_variable env) _ e

abbrev unready : Status → Result Ready Status
unready status = Err status

-- A variable is bad.
pub readies_variable : {S : Type 0} (took : S → List ℕ → S → Type 0) (left : S → Option (List ℕ)) (env : Environment) (tree : Option Tree) (source : S) (v : Named)
    → took source [] source → bad_recorded env ≡ Some v → Readies took left env tree source source (unready (BadVariable v))
readies_variable took left env tree source v t bad = record {
  bytes = [];
  taken = t;
  reads = inl (bad, refl);
  conf = λ a e good. absurd (none_some (bad_recorded env) v good bad);
  variable = λ u e. ap (λ w. unready (BadVariable w)) (some_same (bad_recorded env) v u bad e);
}

-- Not all was read.

unread_unready : (configured : Config → Type 0) (bad : Option Named) (taken : List ℕ) (left : Option (List ℕ)) (status : Status)
    → ((v : Named) → status ≡ BadVariable v → ⊥) → Unread status taken left → Unready configured bad taken left status
unread_unready configured bad taken left (BadVariable v) other h = absurd (other v refl)
unread_unready configured bad taken left NoRoot other h = h
unread_unready configured bad taken left (BadZone f) other h = h
unread_unready configured bad taken left (BadPermit f) other h = h
unread_unready configured bad taken left FilesFault other h = h
unread_unready configured bad taken left NoMemory other h = tt
unread_unready configured bad taken left SeedShort other h = h
unread_unready configured bad taken left ReadFault other h = h
unread_unready configured bad taken left Done other h = absurd h
unread_unready configured bad taken left Spent other h = absurd h
unread_unready configured bad taken left Usage other h = absurd h
unread_unready configured bad taken left WriteFault other h = absurd h
unread_unready configured bad taken left (BadScript k) other h = absurd h
unread_unready configured bad taken left BadImage other h = absurd h
unread_unready configured bad taken left Unequal other h = absurd h
unread_unready configured bad taken left WorldFault other h = absurd h

unread_fits : (taken : List ℕ) (left : Option (List ℕ)) (status : Status) (conf : Result Config ConfigError) → ((v : Named) → status ≡ BadVariable v → ⊥) → Unread status taken left → FitsConf status conf
    → FitsRecorded status conf
unread_fits taken left (BadVariable v) conf other h f = absurd (other v refl)
unread_fits taken left NoRoot conf other h f = f
unread_fits taken left (BadZone g) conf other h f = f
unread_fits taken left (BadPermit g) conf other h f = f
unread_fits taken left FilesFault conf other h f = tt
unread_fits taken left NoMemory conf other h f = tt
unread_fits taken left SeedShort conf other h f = f
unread_fits taken left ReadFault conf other h f = f
unread_fits taken left Done conf other h f = absurd h
unread_fits taken left Spent conf other h f = absurd h
unread_fits taken left Usage conf other h f = absurd h
unread_fits taken left WriteFault conf other h f = absurd h
unread_fits taken left (BadScript k) conf other h f = absurd h
unread_fits taken left BadImage conf other h f = absurd h
unread_fits taken left Unequal conf other h f = absurd h
unread_fits taken left WorldFault conf other h f = absurd h

pub readies_unread : {S : Type 0} (took : S → List ℕ → S → Type 0) (left : S → Option (List ℕ)) (env : Environment) (tree : Option Tree) (source source' : S) (why : Status)
    → bad_recorded env ≡ None → SetsUp took left env tree source source' (unread why) → Readies took left env tree source source' (unready why)
readies_unread took left env tree source source' why good s =
    let other : (v : Named) → why ≡ BadVariable v → ⊥ = λ v e. none_some (bad_variable env) v (recorded_good env good) ((s.variable v).0 (ap unread e)) in
    record {
      bytes = s.bytes;
      taken = s.taken;
      reads = unread_unready (IsConfigured env tree) (bad_recorded env) s.bytes (left source') why other s.reads;
      conf = λ t e _. unread_fits s.bytes (left source') why (conf_of env t) other s.reads (s.conf t e);
      variable = λ v e. absurd (none_some (bad_recorded env) v good e);
    }

-- All was read.

ready_reads : (configured : Config → Type 0) (bad : Option Named) (taken : List ℕ) (left : Option (List ℕ)) (b : Basis) (r : Result Ready Status)
    → bad ≡ None → configured b.config → taken ≡ b.seed → length taken ≡ 32 → ReadyWith b r → ReadiesBy configured bad taken left r
ready_reads configured bad taken left b (Ok r) good fits same whole h = (
  good,
  record {
    config = b.config;
    begun = record {
      configured_so = fits;
      said = h.0;
      seed = whole;
      told = subst (λ s. IsTold (told_of (rooted b.config) s) (rooted b.config).permit (rooted b.config).zones) (sym same) h.5;
    };
    config_is = h.1;
    seed_is = same ∙ sym h.2;
    first_is = h.3;
    head_is = h.4 ∙ ap (λ s. head_lines b.config s) (sym same);
  },
)
ready_reads configured bad taken left b (Err status) good fits same whole (inl h) =
    subst (Unready configured bad taken left) (sym h.0) (inr (good, refl, whole, (b.config, fits, h.1)))
ready_reads configured bad taken left b (Err status) good fits same whole (inr h) = subst (Unready configured bad taken left) (sym h) tt

ready_fits : (b : Basis) (r : Result Ready Status) (conf : Result Config ConfigError) → ReadyWith b r → conf ≡ Ok b.config → FitsReady r conf
ready_fits b (Ok r) conf h e = (b.config, e, h.0)
ready_fits b (Err status) conf (inl h) e = subst (λ s. FitsRecorded s conf) (sym h.0) (b.config, e, h.1)
ready_fits b (Err status) conf (inr h) e = subst (λ s. FitsRecorded s conf) (sym h) tt

pub readies_read : {S : Type 0} (took : S → List ℕ → S → Type 0) (left : S → Option (List ℕ)) (env : Environment) (tree : Option Tree) (source source' : S) (b : Basis) (r : Result Ready Status)
    → bad_recorded env ≡ None → SetsUp took left env tree source source' (read b) → ReadyWith b r → Readies took left env tree source source' r
readies_read took left env tree source source' b r good s h = record {
  bytes = s.bytes;
  taken = s.taken;
  reads = ready_reads (IsConfigured env tree) (bad_recorded env) s.bytes (left source') b r good s.reads.0 s.reads.1 s.reads.2 h;
  conf = λ t e _. ready_fits b r (conf_of env t) h (s.conf t e);
  variable = λ v e. absurd (none_some (bad_recorded env) v good e);
}

-- Whether it is ready or not, no call failed.
pub ready_fault : (b : Basis) (r : Result Ready Status) → ReadyWith b r → fault_by r ≡ nobody
ready_fault b (Ok r) h = refl
ready_fault b (Err status) (inl h) = ap fault_of h.0
ready_fault b (Err status) (inr h) = ap fault_of h
