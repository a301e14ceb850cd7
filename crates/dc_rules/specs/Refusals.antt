-- The errors of `add` as the refusals that they stand for, and the two rules.
use Rattle.dc_model.specs.Rules as model
use Rattle.dc_rules.specs.declared.error.ZoneError.{ZoneError}
use Rattle.dc_rules.specs.declared.error.ZoneError.TheVariants as zone
use Rattle.dc_rules.specs.declared.error.PermitError.{PermitError}
use Rattle.dc_rules.specs.declared.error.PermitError.TheVariants as permit
use Rattle.dc_rules.specs.declared.zones.Rule.{Rule}
use Rattle.dc_rules.specs.declared.zones.Rule.TheVariants.{One, Two}

-- The refusal of a zone that an error stands for.
abbrev pub zone_refusal : ZoneError → model.ZoneRefusal
zone_refusal zone.Duplicate = model.duplicate
zone_refusal zone.Full = model.zones_full

-- The refusal of a permission that an error stands for.
abbrev pub permit_refusal : PermitError → model.PermitRefusal
permit_refusal permit.BadName = model.bad_name
permit_refusal permit.Full = model.permits_full

-- The rule that a value stands for.
abbrev pub rule_of : Rule → model.Rule
rule_of One = model.one
rule_of Two = model.two
