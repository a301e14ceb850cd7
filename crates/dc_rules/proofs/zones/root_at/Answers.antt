use Rattle.std.proofs.Common.{◌∙◌, sym, ap}
use Rattle.dc_model.specs.Name.{lower}
use Rattle.dc_rules.specs.declared.zones.Zone.{Zone as Row}
use Rattle.dc_rules.specs.Table.{zone_of}
use Rattle.dc_rules.proofs.Leading.{led_at}
use Rattle.dc_rules.proofs.zones.root_at.Goals as goal

pub returns-then-is_root : goal.returns-then-is_root
returns-then-is_root c =
    let row = c.index-zones-at.result in
    led_at zone_of c.args.zones.now c.loop-at.at row c.loop-at-test.true c.loop-at.invariant
    (ap (λ (r : Row). lower r.name) (sym c.index-zones-at.is) ∙ ap lower (sym c.suffix.ensures.value ∙ c.is_root.ensures.0 c.if-is_root.true))
