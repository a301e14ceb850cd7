use Rattle.std.proofs.Common.{◌≡◌, true, length, map, sym, ap, subst, ◌∙◌, rules}
use Rattle.std.specs.List.{AllByRecursion, list_any}
use Rattle.std.proofs.lemmas.List.Folds.{list_any_at}
use Rattle.std.proofs.Math.ListN.{drop_of_length-le}
use Rattle.dc_model.specs.Rules.{Permits}
use Rattle.dc_rules.specs.Allowed.{permits_of, HasPlaces}
use Rattle.dc_rules.specs.declared.permit.Permit.TheInside.{Inside}
use Rattle.dc_rules.proofs.Permissions.{AreOctets, begins, allowed_is}
use Rattle.dc_rules.proofs.permit.Permit.allows.Goals as goal

-- each permission has one to four octets
all : (a : Inside) (ps : Permits) → permits_of a ≡ ps → HasPlaces a → AllByRecursion AreOctets ps
all a ps e h = subst (λ l. AllByRecursion AreOctets l) e h.octets

pub returns-then-starts_with : goal.returns-then-starts_with
returns-then-starts_with c =
    let four : length c.args.addr ≡ 4 = search rules in
    let items = c.deref-octets-items.result.now in
    let here : begins c.args.addr c.octets-item.result.items ≡ true =
    ap (λ o. begins c.args.addr o) (sym c.as_slice.ensures.value) ∙ sym c.starts_with.ensures.value ∙ c.if-starts_with.true in
    let found = list_any_at (λ p. begins c.args.addr p.items) items c.loop-octets.octets-index c.octets-item.result c.loop-octets-test.true (ap (λ p. begins c.args.addr p.items) (sym c.octets-item.is) ∙ here) in
    sym (allowed_is c.args.addr items c.args.self.now four (ap (λ xs. map (λ p. p.items) xs) c.deref-octets-items.ensures.value ∙ c.self.view_is) (all c.self.inside c.args.self.now c.self.view_is c.self.invariant) ∙ found)

pub returns : goal.returns
returns c =
    let four : length c.args.addr ≡ 4 = search rules in
    let items = c.deref-octets-items.result.now in
    let none = c.loop-octets.invariant ∙ ap (λ xs. list_any (λ p. begins c.args.addr p.items) xs) (drop_of_length-le items c.loop-octets-test.false) in
    sym (allowed_is c.args.addr items c.args.self.now four (ap (λ xs. map (λ p. p.items) xs) c.deref-octets-items.ensures.value ∙ c.self.view_is) (all c.self.inside c.args.self.now c.self.view_is c.self.invariant) ∙ none)
