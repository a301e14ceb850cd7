-- The rules that a configuration says.
use Rattle.dc_model.specs.Rules.{Rules}
use Rattle.dc_rules.specs.declared.config.Config.{Config}

-- The zones, the permissions and whether forwarding.
abbrev pub rules_of : Config → Rules
rules_of c = record { zones = c.zones; permits = c.permit; forward = c.forward }
