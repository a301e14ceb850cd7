-- Steps of clients, one behind the other.
use Rattle.std.proofs.Common.{◌≡◌, List, [], ◌++◌, refl, sym, ◌∙◌, subst}
use Rattle.dc_model.specs.Cache.{Cache}
use Rattle.dc_model.specs.Event.{Action}
use Rattle.dc_machine.specs.Machine.{Machine, Stepped, did, after}
use Rattle.dc_clients.specs.View.{machine_of, Took}
use Rattle.dc_clients.specs.declared.clients.Clients.{Clients}

module _ {S O : Type 0} (acted : O → List Action → O → Type 0) (cache : S → Cache) where
  -- Nothing was done.
  pub took_nothing : (none : (a : O) → acted a [] a) (a : O) (c : Clients S) → Took acted cache a c a c (did [] (machine_of cache c))
  took_nothing none a c = record { acts = none a; machine = refl; rules = refl }

  -- The same step by another name.
  pub took_as : {a b : O} {c d : Clients S} (s t : Stepped) → s ≡ t → Took acted cache a c b d t → Took acted cache a c b d s
  took_as {a} {b} {c} {d} s t e h = let P : Stepped → Type 0 = λ x. Took acted cache a c b d x in subst P (sym e) h

  -- One step behind another.
  pub took_then : (both : (a b c : O) (xs ys : List Action) → acted a xs b → acted b ys c → acted a (xs ++ ys) c)
      {x y z : O} {c d e : Clients S} {s t : Stepped} → Took acted cache x c y d s → Took acted cache y d z e t → Took acted cache x c z e (after s.actions t)
  took_then both {x} {y} {z} {c} {d} {e} {s} {t} h k = record {
    acts = both x y z s.actions t.actions h.acts k.acts;
    machine = k.machine;
    rules = k.rules ∙ h.rules;
  }

  -- One step behind another, where the second is that of a machine, and the first leaves this machine.
  pub took_on : (both : (a b c : O) (xs ys : List Action) → acted a xs b → acted b ys c → acted a (xs ++ ys) c)
      {x y z : O} {c d e : Clients S} {s : Stepped} (next : Machine → Stepped) → Took acted cache x c y d s → Took acted cache y d z e (next (machine_of cache d))
      → Took acted cache x c z e (after s.actions (next s.machine))
  took_on both {x} {y} {z} {c} {d} {e} {s} next h k =
      let P : Machine → Type 0 = λ m. Took acted cache x c z e (after s.actions (next m)) in
      subst P h.machine (took_then both h k)
