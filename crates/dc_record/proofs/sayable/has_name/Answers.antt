use Rattle.std.proofs.Common.{sym, ap, ◌∙◌}
use Rattle.dc_model.specs.Name.{same}
use Rattle.dc_rules.specs.declared.zones.Zone.{Zone as Row}
use Rattle.dc_record.proofs.HeadPieces.{any_here, any_past}
use Rattle.dc_record.proofs.sayable.has_name.Goals as goal

pub returns-then-same : goal.returns-then-same
returns-then-same c =
    let name = c.args.zone.now.name in
    sym (c.loop-other.invariant ∙ any_here name c.args.zones.now c.loop-other.other-index c.other-item.result c.loop-other-test.true
    (ap (λ (r : Row). same r.name name) (sym c.other-item.is) ∙ (λ i. same (sym c.name.ensures.name i) (sym c.name-in-loop-other.ensures.name i)) ∙ sym c.same.ensures ∙ c.if-same.true))

pub loop-other-preserved : goal.loop-other-preserved
loop-other-preserved c =
    let name = c.args.zone.now.name in
    c.loop-other.invariant ∙ any_past name c.args.zones.now c.loop-other.other-index c.other-item.result c.loop-other-test.true
    (ap (λ (r : Row). same r.name name) (sym c.other-item.is) ∙ (λ i. same (sym c.name.ensures.name i) (sym c.name-in-loop-other.ensures.name i)) ∙ sym c.same.ensures ∙ c.if-same.false)
