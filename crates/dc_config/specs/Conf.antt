-- The configuration that an environment and files give, or the first refusal.
use Rattle.std.specs.Prelude.{Result, Ok}
use Rattle.dc_model.specs.Rules.{Zones, Permits}
use Rattle.dc_rules.specs.declared.config.Config.{Config}
use Rattle.dc_config.specs.Environment.{Environment}
use Rattle.dc_config.specs.Tree.{Tree}
use Rattle.dc_config.specs.Answered.{and_then}
use Rattle.dc_config.specs.Variables.{variables_of}
use Rattle.dc_config.specs.Folders.{zones_of, permits_of}
use Rattle.dc_config.specs.declared.error.ConfigError.{ConfigError}
use Rattle.dc_config.specs.declared.variables.Variables.{Variables}

-- A configuration of these parts.
abbrev pub config_of : Variables → Zones → Permits → Config
config_of v zones permit = record { size = v.size; forward = v.forward; ip = v.ip; ipsend = v.ipsend; zones = zones; permit = permit }

-- With these variables: the zones come before the permissions.
unfoldable pub conf_with : Tree → Variables → Result Config ConfigError
conf_with t v = and_then (λ zones. and_then (λ permit. Ok (config_of v zones permit)) (permits_of t)) (zones_of t)

-- The variables come before the files.
unfoldable pub conf_of : Environment → Tree → Result Config ConfigError
conf_of env t = and_then (conf_with t) (variables_of env)
