-- Actions that go out with outer numbers of links.
use Rattle.std.specs.Prelude.{◌≡◌, ℕ, List, [], ◌∷◌, ◌++◌, refl}
use Rattle.std.proofs.Common.{◌∙◌, ap}
use Rattle.dc_model.specs.Event.{Action}
use Rattle.dc_split.specs.Routing.{outer, all_outer}
use Rattle.dc_shard.specs.declared.outward.Outward.{Outward}

-- The actions were acted by what stands behind, with outer numbers.
pub record Passed {O : Type 0} (acted : O → List Action → O → Type 0) (old : Outward O) (actions : List Action) (new : Outward O) : Type 0 where
  pub cores : new.cores ≡ old.cores
  pub core : new.core ≡ old.core
  pub name : new.out.ghost_name ≡ old.out.ghost_name
  pub acts : acted old.out.now (all_outer old.cores old.core actions) new.out.now

outer_both : (cores core : ℕ) (xs ys : List Action) → all_outer cores core (xs ++ ys) ≡ all_outer cores core xs ++ all_outer cores core ys
outer_both cores core [] ys = refl
outer_both cores core (x ∷ xs) ys = ap (λ l. outer cores core x ∷ l) (outer_both cores core xs ys)

pub Passed-none : {O : Type 0} (acted : O → List Action → O → Type 0) → ((a : O) → acted a [] a) → (a : Outward O) → Passed acted a [] a
Passed-none acted none a = record { cores = refl; core = refl; name = refl; acts = none a.out.now }

pub Passed-both : {O : Type 0} (acted : O → List Action → O → Type 0) → ((a b c : O) (xs ys : List Action) → acted a xs b → acted b ys c → acted a (xs ++ ys) c)
    → (a b c : Outward O) (xs ys : List Action) → Passed acted a xs b → Passed acted b ys c → Passed acted a (xs ++ ys) c
Passed-both {O} acted both a b c xs ys p q =
    let second : acted b.out.now (all_outer a.cores a.core ys) c.out.now = rw (← p.cores, ← p.core) q.acts in
    record {
      cores = q.cores ∙ p.cores;
      core = q.core ∙ p.core;
      name = q.name ∙ p.name;
      acts = rw (outer_both a.cores a.core xs ys) (both a.out.now b.out.now c.out.now _ _ p.acts second);
    }
