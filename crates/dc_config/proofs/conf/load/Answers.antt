use Rattle.std.proofs.Common.{sym, ap, ◌∙◌, Ok, Result}
use Rattle.std.proofs.lemmas.Result.{err_from_is_err_and}
use Rattle.dc_model.specs.Rules.{Zones, Permits}
use Rattle.dc_rules.specs.declared.config.Config.{Config}
use Rattle.dc_config.specs.Tree.{Tree}
use Rattle.dc_config.specs.Answered.{and_then}
use Rattle.dc_config.specs.Folders.{zones_of, permits_of}
use Rattle.dc_config.specs.Variables.{bad_variable}
use Rattle.dc_config.specs.Conf.{config_of, conf_of}
use Rattle.dc_config.specs.declared.error.ConfigError.{ConfigError}
use Rattle.dc_config.specs.declared.variables.Variables.{Variables}
use Rattle.dc_config.proofs.Steps.{refused, refuses, refuses-along, exits}
use Rattle.dc_config.proofs.Naming.{names_bad, exit_names}
use Rattle.dc_config.proofs.Asking.{fares_exits, asked_behind}
use Rattle.dc_config.proofs.Zoned.{conf_refused, conf_is}
use Rattle.dc_config.proofs.conf.load.Goals as goal

-- what follows the zones, and what follows the permissions
abbrev with_permits : Variables → Zones → Permits → Result Config ConfigError
with_permits v zones permit = Ok (config_of v zones permit)

abbrev with_zones : Tree → Variables → Zones → Result Config ConfigError
with_zones t v zones = and_then (with_permits v zones) (permits_of t)

pub returns-in_err-read-clause-variable : goal.returns-in_err-read-clause-variable
returns-in_err-read-clause-variable g c =
    let p = err_from_is_err_and c.from_residual.result c.from_residual.ensures.1 in
    exit_names c.from_residual.result p.0 c.in_err-read.field-0.0 (bad_variable c.args.env.now) p.1 p.2 (names_bad c.args.env.now c.in_err-read.field-0.0 (sym c.in_err-read.ensures))

pub returns-in_err-read-clause-conf : goal.returns-in_err-read-clause-conf
returns-in_err-read-clause-conf g c = λ t e.
    let p = err_from_is_err_and c.from_residual.result c.from_residual.ensures.1 in
    exits _ (conf_of c.args.env.now t) p.0 c.in_err-read.field-0.0 p.1 p.2 (refuses _ _ (conf_refused c.args.env.now t c.in_err-read.field-0.0 (sym c.in_err-read.ensures)))

pub returns-in_err-zones-clause-conf : goal.returns-in_err-zones-clause-conf
returns-in_err-zones-clause-conf g c = λ t e.
    let p = err_from_is_err_and c.from_residual-in_err-zones.result c.from_residual-in_err-zones.ensures.1 in
    let whole = conf_is c.args.env.now t c.in_ok-read.read (sym c.in_ok-read.ensures) in
    exits _ (conf_of c.args.env.now t) p.0 c.in_err-zones.field-0.0 p.1 p.2
    (refuses-along _ _ _ (sym whole) (refused _ (zones_of t) (with_zones t c.in_ok-read.read) (c.in_err-zones.ensures.zones t e)))

pub returns-in_err-permit-clause-conf : goal.returns-in_err-permit-clause-conf
returns-in_err-permit-clause-conf g c = λ t e.
    let p = err_from_is_err_and c.from_residual-in_err-permit.result c.from_residual-in_err-permit.ensures.1 in
    let whole = conf_is c.args.env.now t c.in_ok-read.read (sym c.in_ok-read.ensures) ∙ ap (λ r. and_then (with_zones t c.in_ok-read.read) r) (c.in_ok-zones.ensures.zones t e) in
    exits _ (conf_of c.args.env.now t) p.0 c.in_err-permit.field-0.0 p.1 p.2
    (refuses-along _ _ _ (sym whole) (refused _ (permits_of t) (with_permits c.in_ok-read.read c.in_ok-zones.zones) (c.in_err-permit.ensures.permit t (c.in_ok-zones.ensures.same ∙ e))))

pub returns-clause-conf : goal.returns-clause-conf
returns-clause-conf g c = λ t e.
    conf_is c.args.env.now t c.in_ok-read.read (sym c.in_ok-read.ensures) ∙ ap (λ r. and_then (with_zones t c.in_ok-read.read) r) (c.in_ok-zones.ensures.zones t e)
    ∙ ap (λ r. and_then (with_permits c.in_ok-read.read c.in_ok-zones.zones) r) (c.in_ok-permit.ensures.permit t (c.in_ok-zones.ensures.same ∙ e))

pub returns-in_err-permit-clause-fares : goal.returns-in_err-permit-clause-fares
returns-in_err-permit-clause-fares g c =
    let p = err_from_is_err_and c.from_residual-in_err-permit.result c.from_residual-in_err-permit.ensures.1 in
    fares_exits g.F.Files.asked g.met.F.Files.asked_both g.F.Files.refused g.F.Files.faults _ _ _ _ _ p.0 _ p.1 p.2 c.in_ok-zones.ensures.asked.asks c.in_ok-zones.ensures.fares
    c.in_err-permit.ensures.fares

pub returns-clause-asked : goal.returns-clause-asked
returns-clause-asked g c = asked_behind g.F.Files.tree g.F.Files.asked g.met.F.Files.asked_both _ _ _ _ c.in_ok-zones.ensures.asked c.in_ok-permit.ensures.asked
