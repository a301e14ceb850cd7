-- A session of a service that keeps its cache, by how far it came.
use Rattle.std.proofs.Common.{◌≡◌, inl, inr, ℕ, ◌+◌, ◌≤◌, Bool, true, List, [], length, refl, ap, sym, ◌∙◌, subst, Option, Some, None, Result, Ok, Err, ◌↔◌}
use Rattle.dc_model.specs.Cache.{Cache}
use Rattle.dc_event.specs.Causes.{Fares}
use Rattle.dc_event.specs.History.{Exchange}
use Rattle.dc_rules.specs.declared.config.Config.{Config}
use Rattle.dc_config.specs.Environment.{Environment}
use Rattle.dc_config.specs.Tree.{Tree}
use Rattle.dc_config.specs.Conf.{conf_of}
use Rattle.dc_config.specs.Modes.{bad_kept, first_of}
use Rattle.dc_config.specs.Variables.{bad_variable}
use Rattle.dc_config.specs.declared.error.Variable.{Variable as Named}
use Rattle.dc_config.specs.declared.error.ConfigError.{ConfigError}
use Rattle.dc_core.specs.Running.{Running}
use Rattle.dc_image.specs.declared.load.ImageError.{ImageError}
use Rattle.dc_image.specs.declared.load.ImageError.TheVariants as error
use Rattle.dc_play.specs.Playing.{limit_of}
use Rattle.dc_serving.specs.Serving.{ServesFrom, IsConfigured, FitsConf}
use Rattle.dc_serving.specs.Setup.{Unread, SetsUp}
use Rattle.dc_serving.specs.declared.setup.Basis.{Basis}
use Rattle.dc_serving.proofs.BegunLemmas.{read, unread, unheard_cases, core_after}
use Rattle.dc_status.specs.Faults.{fault_of, source_well, world_well}
use Rattle.dc_status.specs.declared.status.Status.{Status}
use Rattle.dc_status.specs.declared.status.Status.TheVariants.{Done, Spent, Usage, BadVariable, NoRoot, BadZone, BadPermit, FilesFault, SeedShort, ReadFault, WriteFault, BadScript, BadImage, Unequal, WorldFault, NoMemory}
use Rattle.dc_keep.specs.First.{IsFirst, Begins, well_begun}
use Rattle.dc_keep.specs.Left.{HasEnded, Leaves}
use Rattle.dc_keep.specs.Saving.{LeavesLast}
use Rattle.dc_keep.specs.Keeping.{size_of, status_unloaded, Begun, Unserved, IsSession, FitsKept, ReadSo, Kept}

-- Variables

none_some : {A : Type 0} (o : Option A) (x : A) → o ≡ None → o ≡ Some x → ⊥
none_some o x e f = cc

first_none : (a b : Option Named) → first_of a b ≡ None → a ≡ None
first_none None b e = refl
first_none (Some v) b e = cc

-- Where no variable is bad, none of the first three is.
kept_good : (env : Environment) → bad_kept env ≡ None → bad_variable env ≡ None
kept_good env e = first_none (bad_variable env) _ e

-- No variable is told, and none is bad.
no_variable : (env : Environment) (status : Status) → bad_kept env ≡ None → ((v : Named) → status ≡ BadVariable v → ⊥) → (v : Named) → (status ≡ BadVariable v) ↔ (bad_kept env ≡ Some v)
no_variable env status good other v = (λ e. absurd (other v e), λ e. absurd (none_some (bad_kept env) v good e))

same_variable : (a b : Named) → a ≡ b → BadVariable a ≡ BadVariable b
same_variable a b e = ap BadVariable e

some_same : (o : Option Named) (a b : Named) → o ≡ Some a → o ≡ Some b → a ≡ b
some_same o a b e f = cc

status_same : (a b : Named) → BadVariable a ≡ BadVariable b → a ≡ b
status_same a b e = cc

-- What fits the configuration

fits_kept : (status : Status) (conf : Result Config ConfigError) → FitsConf status conf → FitsKept status conf
fits_kept (BadVariable v) conf h = h
fits_kept NoRoot conf h = h
fits_kept (BadZone f) conf h = h
fits_kept (BadPermit f) conf h = h
fits_kept FilesFault conf h = h
fits_kept NoMemory conf h = h
fits_kept SeedShort conf h = h
fits_kept ReadFault conf h = h
fits_kept WorldFault conf h = h
fits_kept Done conf h = h
fits_kept Spent conf h = h
fits_kept (BadScript k) conf h = h
fits_kept Usage conf h = h
fits_kept WriteFault conf h = absurd h
fits_kept BadImage conf h = absurd h
fits_kept Unequal conf h = h

-- Not all was read

unread_unserved : {W : Type 0} (history : W → List Exchange → W → Type 0) (world : W) (configured : Config → Type 0) (taken : List ℕ) (left image_left : Option (List ℕ)) (status : Status)
    → Unread status taken left → history world [] world → Unserved history world world configured taken left [] image_left status
unread_unserved history world configured taken left image_left (BadVariable v) h k = (h, refl, k)
unread_unserved history world configured taken left image_left NoRoot h k = (h, refl, k)
unread_unserved history world configured taken left image_left (BadZone f) h k = (h, refl, k)
unread_unserved history world configured taken left image_left (BadPermit f) h k = (h, refl, k)
unread_unserved history world configured taken left image_left FilesFault h k = (h, refl, k)
unread_unserved history world configured taken left image_left NoMemory h k = k
unread_unserved history world configured taken left image_left SeedShort h k = (h.0, h.1, refl, k)
unread_unserved history world configured taken left image_left ReadFault h k = (inl (h, refl), k)
unread_unserved history world configured taken left image_left Done h k = absurd h
unread_unserved history world configured taken left image_left Spent h k = absurd h
unread_unserved history world configured taken left image_left Usage h k = absurd h
unread_unserved history world configured taken left image_left WriteFault h k = absurd h
unread_unserved history world configured taken left image_left (BadScript n) h k = absurd h
unread_unserved history world configured taken left image_left BadImage h k = absurd h
unread_unserved history world configured taken left image_left Unequal h k = absurd h
unread_unserved history world configured taken left image_left WorldFault h k = absurd h

unread_so : (status : Status) (taken : List ℕ) (left : Option (List ℕ)) (seed image : Bool → Type 0) → Unread status taken left → seed (source_well (fault_of status)) → image true
    → ReadSo status taken seed image
unread_so (BadVariable v) taken left seed image h s i = (s, i)
unread_so NoRoot taken left seed image h s i = (s, i)
unread_so (BadZone f) taken left seed image h s i = (s, i)
unread_so (BadPermit f) taken left seed image h s i = (s, i)
unread_so FilesFault taken left seed image h s i = (s, i)
unread_so NoMemory taken left seed image h s i = (s, i)
unread_so SeedShort taken left seed image h s i = (s, i)
unread_so ReadFault taken left seed image h s i = inl (h, s, i)
unread_so Done taken left seed image h s i = absurd h
unread_so Spent taken left seed image h s i = absurd h
unread_so Usage taken left seed image h s i = absurd h
unread_so WriteFault taken left seed image h s i = absurd h
unread_so (BadScript k) taken left seed image h s i = absurd h
unread_so BadImage taken left seed image h s i = absurd h
unread_so Unequal taken left seed image h s i = absurd h
unread_so WorldFault taken left seed image h s i = absurd h

unread_variable : (env : Environment) (status : Status) → bad_kept env ≡ None → ((v : Named) → (unread status ≡ unread (BadVariable v)) ↔ (bad_variable env ≡ Some v))
    → (v : Named) → (status ≡ BadVariable v) ↔ (bad_kept env ≡ Some v)
unread_variable env status good told = no_variable env status good (λ v e. none_some (bad_variable env) v (kept_good env good) ((told v).0 (ap unread e)))

-- The whole, by how far it came. What these four say of is a session that ended with a status and left a core, or none.

-- A variable is bad.
pub kept_variable : {S W I O : Type 0} (took : S → List ℕ → S → Type 0) (left : S → Option (List ℕ)) (refused : S → S → Type 0) (faults : S → ℕ)
    (history : W → List Exchange → W → Type 0) (used_up : W → Type 0) (broken : W → ℕ → Type 0)
    (image_took : I → List ℕ → I → Type 0) (image_left : I → Option (List ℕ)) (image_refused : I → I → Type 0) (image_faults : I → ℕ)
    (gained : O → List ℕ → O → Type 0) (env : Environment) (tree : Option Tree)
    (source : S) (world : W) (image : I) (out : O) (limit : ℕ) (v : Named) (status : Status) (core : Option Running)
    → took source [] source → image_took image [] image → history world [] world → gained out [] out
    → bad_kept env ≡ Some v → status ≡ BadVariable v → core ≡ None
    → Kept took left refused faults history used_up broken image_took image_left image_refused image_faults gained env tree source source world world image image out out limit status core
kept_variable took left refused faults history used_up broken image_took image_left image_refused image_faults gained env tree source world image out limit v status core t i h g bad is none =
    subst (λ k. Kept took left refused faults history used_up broken image_took image_left image_refused image_faults gained env tree source source world world image image out out limit status k) (sym none)
    (subst (λ s. Kept took left refused faults history used_up broken image_took image_left image_refused image_faults gained env tree source source world world image image out out limit s None) (sym is) (record {
      bytes = [];
      taken = t;
      image_bytes = [];
      image_taken = i;
      session = ((refl, refl, h), g);
      conf = λ a e good. absurd (none_some (bad_kept env) v good bad);
      variable = λ u. (λ e. bad ∙ ap Some (status_same v u e), λ e. same_variable v u (some_same (bad_kept env) v u bad e));
      read_so = (refl, refl);
    }))

-- The configuration or the seed wasn't read.
pub kept_unread : {S W I O : Type 0} (took : S → List ℕ → S → Type 0) (left : S → Option (List ℕ)) (refused : S → S → Type 0) (faults : S → ℕ)
    (history : W → List Exchange → W → Type 0) (used_up : W → Type 0) (broken : W → ℕ → Type 0)
    (image_took : I → List ℕ → I → Type 0) (image_left : I → Option (List ℕ)) (image_refused : I → I → Type 0) (image_faults : I → ℕ)
    (gained : O → List ℕ → O → Type 0) (env : Environment) (tree : Option Tree)
    (source source' : S) (world : W) (image : I) (out : O) (limit : ℕ) (why status : Status) (core : Option Running)
    → image_took image [] image → history world [] world → gained out [] out
    → bad_kept env ≡ None → SetsUp took left env tree source source' (unread why) → Fares took refused faults (source_well (fault_of why)) source source'
    → status ≡ why → core ≡ None
    → Kept took left refused faults history used_up broken image_took image_left image_refused image_faults gained env tree source source' world world image image out out limit status core
kept_unread took left refused faults history used_up broken image_took image_left image_refused image_faults gained env tree source source' world image out limit why status core i h g good s f is none =
    subst (λ k. Kept took left refused faults history used_up broken image_took image_left image_refused image_faults gained env tree source source' world world image image out out limit status k) (sym none)
    (subst (λ a. Kept took left refused faults history used_up broken image_took image_left image_refused image_faults gained env tree source source' world world image image out out limit a None) (sym is) (record {
      bytes = s.bytes;
      taken = s.taken;
      image_bytes = [];
      image_taken = i;
      session = (unread_unserved history world (IsConfigured env tree) s.bytes (left source') (image_left image) why s.reads h, g);
      conf = λ t e _. fits_kept why (conf_of env t) (s.conf t e);
      variable = unread_variable env why good s.variable;
      read_so = unread_so why s.bytes (left source') (λ well. Fares took refused faults well source source') (λ well. Fares image_took image_refused image_faults well image image) s.reads f refl;
    }))

-- No first cache was loaded.

unloaded_unserved : {W : Type 0} (history : W → List Exchange → W → Type 0) (world : W) (configured : Config → Type 0) (c : Config) (taken : List ℕ) (left : Option (List ℕ))
    (image : List ℕ) (image_left : Option (List ℕ)) (why : ImageError)
    → configured c → length taken ≡ 32 → length image ≤ 24 + size_of c + 1 → Begins (size_of c) image image_left (Err why) → history world [] world
    → Unserved history world world configured taken left image image_left (status_unloaded why)
unloaded_unserved history world configured c taken left image image_left error.Empty fits whole most b h = absurd b
unloaded_unserved history world configured c taken left image image_left error.Bad fits whole most b h =
    (record { config = c; configured_so = fits; seed = whole; some = b.0; none = b.1; most = most }, h)
unloaded_unserved history world configured c taken left image image_left error.ReadFault fits whole most b h = (inr whole, h)
unloaded_unserved history world configured c taken left image image_left error.NoMemory fits whole most b h = h

unloaded_fits : (why : ImageError) (conf : Result Config ConfigError) (c : Config) → conf ≡ Ok c → FitsKept (status_unloaded why) conf
unloaded_fits error.Empty conf c e = (c, e)
unloaded_fits error.Bad conf c e = (c, e)
unloaded_fits error.ReadFault conf c e = (c, e)
unloaded_fits error.NoMemory conf c e = tt

unloaded_other : (why : ImageError) (v : Named) → status_unloaded why ≡ BadVariable v → ⊥
unloaded_other error.Empty v e = cc
unloaded_other error.Bad v e = cc
unloaded_other error.ReadFault v e = cc
unloaded_other error.NoMemory v e = cc

-- What loading answered.
abbrev loading : ImageError → Result Cache ImageError
loading why = Err why

unloaded_so : (why : ImageError) (taken : List ℕ) (seed image : Bool → Type 0) → length taken ≡ 32 → seed true → image (well_begun (loading why)) → ReadSo (status_unloaded why) taken seed image
unloaded_so error.Empty taken seed image whole s i = (s, i)
unloaded_so error.Bad taken seed image whole s i = (s, i)
unloaded_so error.ReadFault taken seed image whole s i = inr (whole, s, i)
unloaded_so error.NoMemory taken seed image whole s i = (s, i)

pub kept_unloaded : {S W I O : Type 0} (took : S → List ℕ → S → Type 0) (left : S → Option (List ℕ)) (refused : S → S → Type 0) (faults : S → ℕ)
    (history : W → List Exchange → W → Type 0) (used_up : W → Type 0) (broken : W → ℕ → Type 0)
    (image_took : I → List ℕ → I → Type 0) (image_left : I → Option (List ℕ)) (image_refused : I → I → Type 0) (image_faults : I → ℕ)
    (gained : O → List ℕ → O → Type 0) (env : Environment) (tree : Option Tree)
    (source source' : S) (world : W) (image image' : I) (out : O) (limit : ℕ) (b : Basis) (bytes : List ℕ) (why : ImageError) (status : Status) (core : Option Running)
    → history world [] world → gained out [] out
    → bad_kept env ≡ None → SetsUp took left env tree source source' (read b) → faults source' ≡ faults source
    → image_took image bytes image' → length bytes ≤ 24 + size_of b.config + 1 → Begins (size_of b.config) bytes (image_left image') (Err why)
    → Fares image_took image_refused image_faults (well_begun (loading why)) image image'
    → status ≡ status_unloaded why → core ≡ None
    → Kept took left refused faults history used_up broken image_took image_left image_refused image_faults gained env tree source source' world world image image' out out limit status core
kept_unloaded took left refused faults history used_up broken image_took image_left image_refused image_faults gained env tree source source' world image image' out limit b bytes why status core h g good s f t most begins fares is none =
    subst (λ k. Kept took left refused faults history used_up broken image_took image_left image_refused image_faults gained env tree source source' world world image image' out out limit status k) (sym none)
    (subst (λ a. Kept took left refused faults history used_up broken image_took image_left image_refused image_faults gained env tree source source' world world image image' out out limit a None) (sym is) (record {
      bytes = s.bytes;
      taken = s.taken;
      image_bytes = bytes;
      image_taken = t;
      session = (unloaded_unserved history world (IsConfigured env tree) b.config s.bytes (left source') bytes (image_left image') why s.reads.0 s.reads.2 most begins h, g);
      conf = λ a e _. unloaded_fits why (conf_of env a) b.config (s.conf a e);
      variable = no_variable env (status_unloaded why) good (unloaded_other why);
      read_so = unloaded_so why s.bytes (λ well. Fares took refused faults well source source') (λ well. Fares image_took image_refused image_faults well image image') s.reads.2 f fares;
    }))

-- It began.

leaves_cases : {O : Type 0} (gained : O → List ℕ → O → Type 0) (c : Cache) (old new : O) (ended after : Status) (P : Status → Type 0) → P ended → P WriteFault
    → Leaves gained c old new ended after → P after
leaves_cases gained c old new ended after P same cut (inl s) = subst P (sym s.same) same
leaves_cases gained c old new ended after P same cut (inr (inl s)) = subst P (sym s.fault) cut
leaves_cases gained c old new ended after P same cut (inr (inr s)) = subst P (sym s.same) same

last_cases : {O : Type 0} (gained : O → List ℕ → O → Type 0) (old new : O) (ended after : Status) (core : Option Running) (P : Status → Type 0) → P ended → P WriteFault
    → LeavesLast gained old new ended after core → P after
last_cases gained old new ended after None P same cut h = subst P (sym h.0) same
last_cases gained old new ended after (Some core) P same cut h = leaves_cases gained core.machine.cache old new ended after P same cut h

-- What holds of each status that there may be.
begun_cases : {W O : Type 0} (history : W → List Exchange → W → Type 0) (used_up : W → Type 0) (broken : W → ℕ → Type 0) (gained : O → List ℕ → O → Type 0)
    (old new : W) (out out' : O) (c : Config) (first : Cache) (seed : List ℕ) (limit : ℕ) (ended after : Status) (core : Option Running) (P : Status → Type 0)
    → P Done → P Spent → ((k : ℕ) → P (BadScript k)) → P WorldFault → P NoMemory → P WriteFault
    → ServesFrom history used_up broken old new c first seed limit ended core → LeavesLast gained out out' ended after core → P after
begun_cases history used_up broken gained old new out out' c first seed limit ended after core P done spent bad world memory write serves leaves =
    last_cases gained out out' ended after core P (core_after history used_up broken old new c first seed limit ended core P done spent bad world memory serves) write leaves

-- A failed save is no fault of the world.

ended_world : (ended : Status) → HasEnded ended → world_well (fault_of ended) ≡ true
ended_world ended (inl e) = ap (λ a. world_well (fault_of a)) e
ended_world ended (inr e) = ap (λ a. world_well (fault_of a)) e

leaves_world : {O : Type 0} (gained : O → List ℕ → O → Type 0) (c : Cache) (old new : O) (ended after : Status)
    → Leaves gained c old new ended after → world_well (fault_of ended) ≡ world_well (fault_of after)
leaves_world gained c old new ended after (inl s) = ap (λ a. world_well (fault_of a)) (sym s.same)
leaves_world gained c old new ended after (inr (inl s)) = ended_world ended s.well ∙ sym (ap (λ a. world_well (fault_of a)) s.fault)
leaves_world gained c old new ended after (inr (inr s)) = ap (λ a. world_well (fault_of a)) (sym s.same)

pub last_world : {O : Type 0} (gained : O → List ℕ → O → Type 0) (old new : O) (ended after : Status) (core : Option Running)
    → LeavesLast gained old new ended after core → world_well (fault_of ended) ≡ world_well (fault_of after)
last_world gained old new ended after None h = ap (λ a. world_well (fault_of a)) (sym h.0)
last_world gained old new ended after (Some core) h = leaves_world gained core.machine.cache old new ended after h

begun_session : {W O : Type 0} (history : W → List Exchange → W → Type 0) (used_up : W → Type 0) (broken : W → ℕ → Type 0) (gained : O → List ℕ → O → Type 0)
    (old new : W) (out out' : O) (configured : Config → Type 0) (taken seed : List ℕ) (left : Option (List ℕ)) (image : List ℕ) (image_left : Option (List ℕ))
    (c : Config) (first : Cache) (limit : ℕ) (ended after : Status) (core : Option Running)
    → configured c → taken ≡ seed → length taken ≡ 32 → IsFirst (size_of c) image image_left first
    → ServesFrom history used_up broken old new c first seed limit ended core → LeavesLast gained out out' ended after core
    → IsSession history used_up broken gained old new out out' configured taken left image image_left limit after core
begun_session history used_up broken gained old new out out' configured taken seed left image image_left c first limit ended after None fits same whole is serves leaves =
    let begun : Begun configured taken image image_left c first = record { configured_so = fits; seed = whole; first_is = is } in (
      subst (Unserved history old new configured taken left image image_left) (sym leaves.0)
          (unheard_cases history old new c (Unserved history old new configured taken left image image_left) (λ h. h) (λ h. (c, first, begun, h)) ended serves),
      leaves.1,
    )
begun_session history used_up broken gained old new out out' configured taken seed left image image_left c first limit ended after (Some core) fits same whole is serves leaves =
    let begun : Begun configured taken image image_left c first = record { configured_so = fits; seed = whole; first_is = is } in
    (c, first, begun, ended, subst (λ s. ServesFrom history used_up broken old new c first s limit ended (Some core)) (sym same) serves, leaves)

-- The same of a limit that is told otherwise.
pub within : {W : Type 0} (history : W → List Exchange → W → Type 0) (used_up : W → Type 0) (broken : W → ℕ → Type 0) (old new : W)
    (c : Config) (first : Cache) (seed : List ℕ) (turns other : ℕ) (ended : Status) (core : Option Running) → turns ≡ other
    → ServesFrom history used_up broken old new c first seed (limit_of turns) ended core → ServesFrom history used_up broken old new c first seed (limit_of other) ended core
within history used_up broken old new c first seed turns other ended core e h = subst (λ n. ServesFrom history used_up broken old new c first seed (limit_of n) ended core) e h

pub kept_begun : {S W I O : Type 0} (took : S → List ℕ → S → Type 0) (left : S → Option (List ℕ)) (refused : S → S → Type 0) (faults : S → ℕ)
    (history : W → List Exchange → W → Type 0) (used_up : W → Type 0) (broken : W → ℕ → Type 0)
    (image_took : I → List ℕ → I → Type 0) (image_left : I → Option (List ℕ)) (image_refused : I → I → Type 0) (image_faults : I → ℕ)
    (gained : O → List ℕ → O → Type 0) (env : Environment) (tree : Option Tree)
    (source source' : S) (world world' : W) (image image' : I) (out out' : O) (limit : ℕ) (b : Basis) (bytes : List ℕ) (first : Cache) (ended status : Status) (core last : Option Running)
    → bad_kept env ≡ None → SetsUp took left env tree source source' (read b) → faults source' ≡ faults source
    → image_took image bytes image' → Begins (size_of b.config) bytes (image_left image') (Ok first) → image_faults image' ≡ image_faults image
    → ServesFrom history used_up broken world world' b.config first b.seed limit ended core → LeavesLast gained out out' ended status core → last ≡ core
    → Kept took left refused faults history used_up broken image_took image_left image_refused image_faults gained env tree source source' world world' image image' out out' limit status last
kept_begun took left refused faults history used_up broken image_took image_left image_refused image_faults gained env tree source source' world world' image image' out out' limit b bytes first ended status core last good s f t is i serves leaves same =
    let c = b.config in
    subst (λ k. Kept took left refused faults history used_up broken image_took image_left image_refused image_faults gained env tree source source' world world' image image' out out' limit status k) (sym same)
    (record {
      bytes = s.bytes;
      taken = s.taken;
      image_bytes = bytes;
      image_taken = t;
      session = begun_session history used_up broken gained world world' out out' (IsConfigured env tree) s.bytes b.seed (left source') bytes (image_left image') c first limit ended status core
          s.reads.0 s.reads.1 s.reads.2 is serves leaves;
      conf = λ a e _. begun_cases history used_up broken gained world world' out out' c first b.seed limit ended status core (λ x. FitsKept x (conf_of env a))
          (c, s.conf a e) (c, s.conf a e) (λ k. (c, s.conf a e)) (c, s.conf a e) tt (c, s.conf a e) serves leaves;
      variable = no_variable env status good (begun_cases history used_up broken gained world world' out out' c first b.seed limit ended status core (λ x. (v : Named) → x ≡ BadVariable v → ⊥)
          (λ v e. cc) (λ v e. cc) (λ k v e. cc) (λ v e. cc) (λ v e. cc) (λ v e. cc) serves leaves);
      read_so = begun_cases history used_up broken gained world world' out out' c first b.seed limit ended status core
          (λ x. ReadSo x s.bytes (λ well. Fares took refused faults well source source') (λ well. Fares image_took image_refused image_faults well image image'))
          (f, i) (f, i) (λ k. (f, i)) (f, i) (f, i) (f, i) serves leaves;
    })
