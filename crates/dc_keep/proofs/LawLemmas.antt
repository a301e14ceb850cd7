-- Laws on kept caches.
use Rattle.std.proofs.Common.{◌≡◌, inl, inr, ℕ, ◌≤◌, true, List, [], length, Option, Some, Result, Ok, Err, refl, ap, sym, ◌∙◌, subst, arith, length-drop}
use Rattle.std.specs.Io.KnownBytes.{IsAtEnd}
use Rattle.dc_model.specs.Cache.{Cache}
use Rattle.dc_model.specs.Event.{Event}
use Rattle.dc_event.specs.History.{Exchange}
use Rattle.dc_rules.specs.Settings.{rules_of}
use Rattle.dc_rules.specs.declared.config.Config.{Config}
use Rattle.dc_config.specs.Environment.{Environment}
use Rattle.dc_config.specs.Tree.{Tree}
use Rattle.dc_config.specs.Conf.{conf_of}
use Rattle.dc_config.specs.declared.error.ConfigError.{ConfigError}
use Rattle.dc_image.specs.Image.{IsImage, at_rest, block_in}
use Rattle.dc_image.specs.Loaded.{IsNoImage}
use Rattle.dc_image.proofs.ImageLemmas.{one_cache}
use Rattle.dc_serving.specs.Serving.{IsConfigured, IsFault, machine_from}
use Rattle.dc_status.specs.Faults.{fault_of, files_well, source_well, world_well}
use Rattle.dc_status.specs.declared.status.Status.{Status}
use Rattle.dc_status.specs.declared.status.Status.TheVariants.{Done, Spent, Usage, BadVariable, NoRoot, BadZone, BadPermit, FilesFault, SeedShort, ReadFault, WriteFault, BadScript, BadImage, Unequal, WorldFault, NoMemory}
use Rattle.dc_serving.proofs.Complete.{memory_alone}
use Rattle.dc_keep.specs.Complete.{IsGood}
use Rattle.dc_keep.specs.First.{IsFirst}
use Rattle.dc_keep.specs.Keeping.{FitsKept, Unloaded, Unserved, size_of}
use Rattle.dc_keep.proofs.Sizes.{run_size}

-- Sizes

image_size : (size : ℕ) (bytes : List ℕ) (c : Cache) → IsImage size bytes c → c.size ≡ size
unfolding block_in
image_size size bytes c h = omega (arith, h.laid.holds.block, h.whole, length-drop 24 bytes)

pub first_size : (size : ℕ) (bytes : List ℕ) (left : Option (List ℕ)) (first : Cache) → IsFirst size bytes left first → first.size ≡ size
first_size size bytes left first (inl h) = image_size size bytes first h.0
first_size size bytes left first (inr h) = ap (λ (c : Cache). c.size) h.2

pub last_size : (c : Config) (first : Cache) (seed : List ℕ) (events : List Event) → (machine_from c first seed events).cache.size ≡ first.size
unfolding machine_from
last_size c first seed events = run_size (rules_of c) seed first events

-- What comes back

rested : (c : Cache) → c.motion ≡ 0 → at_rest c ≡ c
rested c e = ap (λ m. record c { motion = m }) (sym e)

no_bytes : (size : ℕ) (image : List ℕ) (c : Cache) → IsImage size image c → image ≡ [] → ⊥
no_bytes size image c h e = let some = h.whole in let none : length image ≡ 0 = ap length e in omega (arith, some, none)

pub comes_back : (size : ℕ) (image : List ℕ) (last : Cache) (left : Option (List ℕ)) (first : Cache) → IsImage size image last → IsFirst size image left first → first ≡ at_rest last
comes_back size image last left first h (inl k) = sym (one_cache size image last first h k.0 ∙ rested first k.1)
comes_back size image last left first h (inr k) = absurd (no_bytes size image last h k.0)

-- What keeps a service from being served

other_conf : (conf : Result Config ConfigError) (c : Config) (why : ConfigError) → conf ≡ Ok c → conf ≡ Err why → ⊥
other_conf conf c why e f = cc

one_conf : (conf : Result Config ConfigError) (c d : Config) → conf ≡ Ok c → conf ≡ Ok d → d ≡ c
one_conf conf c d e f = cc

-- A good image isn't refused.
good_image : (size : ℕ) (image : List ℕ) (left : Option (List ℕ)) → IsGood size image left → (image ≡ [] → ⊥) → IsNoImage size image left → ⊥
good_image size image left (inl e) some none = some e
good_image size image left (inr g) some none = none g.0 g.1 g.2 g.3

good_loaded : (env : Environment) (t : Tree) (c : Config) (taken image : List ℕ) (image_left : Option (List ℕ)) → conf_of env t ≡ Ok c → IsGood (size_of c) image image_left
    → Unloaded (IsConfigured env (Some t)) taken image image_left → ⊥
good_loaded env t c taken image image_left e good u =
    let same : u.config ≡ c = one_conf (conf_of env t) c u.config e (u.configured_so t refl) in
    good_image (size_of c) image image_left good u.some (subst (λ d. IsNoImage (size_of d) image image_left) same u.none)

pub only_faults : {W : Type 0} (history : W → List Exchange → W → Type 0) (old new : W) (env : Environment) (t : Tree) (c : Config) (taken : List ℕ) (left : Option (List ℕ))
    (image : List ℕ) (image_left : Option (List ℕ)) (status : Status)
    → conf_of env t ≡ Ok c → (IsAtEnd left → 32 ≤ length taken) → IsGood (size_of c) image image_left
    → FitsKept status (conf_of env t) → Unserved history old new (IsConfigured env (Some t)) taken left image image_left status → IsFault status
only_faults history old new env t c taken left image image_left FilesFault e s good f u = tt
only_faults history old new env t c taken left image image_left ReadFault e s good f u = tt
only_faults history old new env t c taken left image image_left WorldFault e s good f u = tt
only_faults history old new env t c taken left image image_left NoMemory e s good f u = tt
only_faults history old new env t c taken left image image_left (BadVariable v) e s good f u = absurd (other_conf (conf_of env t) c _ e f)
only_faults history old new env t c taken left image image_left NoRoot e s good f u = absurd (other_conf (conf_of env t) c _ e f)
only_faults history old new env t c taken left image image_left (BadZone g) e s good f u = absurd (other_conf (conf_of env t) c _ e f)
only_faults history old new env t c taken left image image_left (BadPermit g) e s good f u = absurd (other_conf (conf_of env t) c _ e f)
only_faults history old new env t c taken left image image_left SeedShort e s good f u = let whole = s u.1 in let short = u.0 in omega (arith, whole, short)
only_faults history old new env t c taken left image image_left BadImage e s good f u = good_loaded env t c taken image image_left e good u.0
only_faults history old new env t c taken left image image_left Done e s good f u = absurd u
only_faults history old new env t c taken left image image_left Spent e s good f u = absurd u
only_faults history old new env t c taken left image image_left Usage e s good f u = absurd u
only_faults history old new env t c taken left image image_left WriteFault e s good f u = absurd u
only_faults history old new env t c taken left image image_left (BadScript k) e s good f u = absurd u
only_faults history old new env t c taken left image image_left Unequal e s good f u = absurd u

pub only_memory : {W : Type 0} (history : W → List Exchange → W → Type 0) (old new : W) (env : Environment) (t : Tree) (c : Config) (taken : List ℕ) (left : Option (List ℕ))
    (image : List ℕ) (image_left : Option (List ℕ)) (status : Status)
    → conf_of env t ≡ Ok c → (IsAtEnd left → 32 ≤ length taken) → IsGood (size_of c) image image_left
    → FitsKept status (conf_of env t) → Unserved history old new (IsConfigured env (Some t)) taken left image image_left status
    → files_well (fault_of status) ≡ true → source_well (fault_of status) ≡ true → world_well (fault_of status) ≡ true → status ≡ NoMemory
only_memory history old new env t c taken left image image_left status e s good f u =
    memory_alone status (only_faults history old new env t c taken left image image_left status e s good f u)
