use Rattle.std.proofs.Common.{sym, ◌∙◌}
use Rattle.std.proofs.lemmas.Bool.{false≢true}
use Rattle.dc_name.proofs.AddressLemmas.{address_name-five}
use Rattle.dc_name.proofs.name.Name.is_address.Goals as goal

pub returns-then-not-is_root : goal.returns-then-not-is_root
returns-then-not-is_root c =
    sym (address_name-five _ _ _ _ c.args.self.now c.in_ok-second.second c.in_ok-third.third c.in_ok-fourth.fourth c.in_ok-parent.field-0
    (sym c.suffix-first.ensures.value ∙ c.in_ok-second.ensures.first) c.in_ok-third.ensures.first c.in_ok-fourth.ensures.first c.in_ok-parent.ensures.first
    (λ e. false≢true (sym c.if-not-is_root.true ∙ c.is_root.ensures.1 e)))
