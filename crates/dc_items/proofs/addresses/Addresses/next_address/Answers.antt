use Rattle.std.proofs.Common.{◌≤◌, ◌∷◌, length, drop, sym, ◌∙◌, ap, arith}
use Rattle.dc_items.specs.Left.{addresses_in}
use Rattle.dc_items.proofs.AddressLemmas.{first_address, no_address}
use Rattle.dc_items.proofs.addresses.Addresses.next_address.Goals as goal

pub returns-in_err-first : goal.returns-in_err-first
returns-in_err-first c =
    let none = sym c.self.view_is ∙ no_address c.self.inside.rest.now c.in_err-first.ensures.cases in
    rw c.from_residual.ensures (none, none)

pub returns : goal.returns
returns c =
    let ends = c.in_ok-first.ensures.cases in
    let room : 4 ≤ length c.self.inside.rest.now = omega (arith, ends.2) in
    let whole = sym c.self.view_is ∙ first_address c.self.inside.rest.now room in
    whole ∙ ap (λ x. x ∷ addresses_in (drop 4 c.self.inside.rest.now)) (sym ends.0) ∙ ap (λ x. c.in_ok-first.first.now ∷ addresses_in x) (sym ends.1)
