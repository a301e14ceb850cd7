use Rattle.std.proofs.Common.{◌+◌, ◌++◌, ◌∙◌, ap, arith}
use Rattle.dc_model.specs.Cache.{Cache}
use Rattle.dc_machine.specs.Run.{opening}
use Rattle.dc_rules.specs.Settings.{rules_of}
use Rattle.dc_script.specs.Read.{says}
use Rattle.dc_core.specs.Running.{Running}
use Rattle.dc_audit.specs.Judging.{compared_of}
use Rattle.dc_audit.specs.Verdict.{verdict_or, compared, texts_of}
use Rattle.dc_audit.proofs.JudgedLemmas.{begun_is, handled_is, verdict_is}
use Rattle.dc_audit.proofs.Saying.{few_events}
use Rattle.dc_audit.proofs.script.compared_run.Goals as goal

pub verdict-requires : goal.verdict-requires
verdict-requires c =
    let core = c.in_ok-core.ensures ∙ ap {A = Cache} {B = Running} (λ s. record { rules = rules_of c.args.config; machine = opening s; handled = 0 }) c.in_ok-store.ensures in
    let start = begun_is c.args.config c.args.recorded.now c.new-judging.result.engine c.in_ok-core.core (compared_of c.new-judging.result.text c.new-judging.result.first)
    c.new-judging.ensures.engine core c.new-judging.ensures.compared in
    let all = handled_is c.args.config c.args.seed c.args.recorded.now (says (c.args.events.lines + 1) (c.args.events.rest.rest ++ c.args.events.source)).events _ _ start c.first_bad.ensures.state in
    let few = few_events (c.args.events.lines + 1) (c.args.events.rest.rest ++ c.args.events.source) c.requires.few in
    omega (arith, all, few)

pub returns : goal.returns
returns c =
    let core = c.in_ok-core.ensures ∙ ap {A = Cache} {B = Running} (λ s. record { rules = rules_of c.args.config; machine = opening s; handled = 0 }) c.in_ok-store.ensures in
    let start = begun_is c.args.config c.args.recorded.now c.new-judging.result.engine c.in_ok-core.core (compared_of c.new-judging.result.text c.new-judging.result.first)
    c.new-judging.ensures.engine core c.new-judging.ensures.compared in
    let events = (says (c.args.events.lines + 1) (c.args.events.rest.rest ++ c.args.events.source)).events in
    c.verdict.ensures ∙ verdict_is c.args.config c.args.seed c.args.recorded.now events _ _ start c.first_bad.ensures.state
    ∙ ap (verdict_or (compared 0 (texts_of c.args.config c.args.seed events) c.args.recorded.now)) c.in-None.ensures.bad
