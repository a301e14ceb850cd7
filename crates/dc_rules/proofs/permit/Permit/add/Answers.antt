use Rattle.std.proofs.Common.{[], ◌∷◌, map, arith, ap, sym, subst, ◌∙◌}
use Rattle.std.specs.List.{AllByRecursion}
use Rattle.std.proofs.lemmas.List.{map-append}
use Rattle.dc_rules.proofs.Permissions.{AreOctets, permit-octets, octets-push}
use Rattle.dc_rules.proofs.permit.Permit.add.Goals as goal

pub invariant_of-self : goal.invariant_of-self
invariant_of-self c =
    let len = rw c.unwrap.ensures at c.push.ensures.len in
    let items = rw c.unwrap.ensures at c.push.ensures.items in
    let added = ap (λ xs. map (λ x. x.items) xs) items ∙ map-append _ _ (c.in-Some.found ∷ []) in
    record {
      most = omega arith;
      room = omega (arith, c.push.ensures.capacity);
      octets = subst (λ ps. AllByRecursion AreOctets ps) (sym added) (octets-push _ c.in-Some.found.items c.self.invariant.octets (permit-octets c.args.text.now c.in-Some.found.items c.in-Some.ensures));
    }
