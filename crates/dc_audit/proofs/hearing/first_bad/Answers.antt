use Rattle.std.proofs.Common.{ap, sym, ◌∙◌}
use Rattle.dc_event.specs.Quiet.{Filled}
use Rattle.dc_audit.proofs.Saying.{was_heard, run_says, run_state}
use Rattle.dc_audit.proofs.hearing.first_bad.Goals as goal

pub line_of-requires : goal.line_of-requires
line_of-requires g c =
    let run = c.serve-served.ensures.run in
    was_heard Filled (λ _. 0) g.E.Engine.machine c.args.seed (g.E.Engine.state c.args.engine.now) (g.E.Engine.state c.serve-served.new.engine) c.from_seed-draws.result
    c.in_buffer-world.result c.serve-served.new.world c.args.events.lines c.args.events.rest.rest c.args.events.source c.args.places.sink run.0 c.serve-served.result c.in_buffer-world.ensures
    c.from_seed-draws.ensures run.1 run.2 c.requires.head c.requires.few (c.requires.unfinished _) c.serve-served.ensures.count c.wrote_all.result c.wrote_all.ensures.value c.wrote_all.ensures.cause

pub returns-clause-bad : goal.returns-clause-bad
returns-clause-bad g c =
    let run = c.serve-served.ensures.run in
    let heard = was_heard Filled (λ _. 0) g.E.Engine.machine c.args.seed (g.E.Engine.state c.args.engine.now) (g.E.Engine.state c.serve-served.new.engine) c.from_seed-draws.result c.in_buffer-world.result c.serve-served.new.world c.args.events.lines c.args.events.rest.rest c.args.events.source c.args.places.sink run.0 c.serve-served.result c.in_buffer-world.ensures c.from_seed-draws.ensures run.1 run.2 c.requires.head c.requires.few (c.requires.unfinished _) c.serve-served.ensures.count c.wrote_all.result c.wrote_all.ensures.value c.wrote_all.ensures.cause in
    let says = run_says Filled (λ _. 0) g.E.Engine.machine c.args.seed (g.E.Engine.state c.args.engine.now) (g.E.Engine.state c.serve-served.new.engine) c.from_seed-draws.result
    c.in_buffer-world.result c.serve-served.new.world c.args.events.lines c.args.events.rest.rest c.args.events.source c.args.places.sink run.0 c.serve-served.result c.in_buffer-world.ensures
    c.from_seed-draws.ensures run.1 run.2 c.requires.head heard c.serve-served.ensures.justified in
    c.line_of.ensures ∙ sym (ap (λ s. s.bad) says)

pub returns-clause-state : goal.returns-clause-state
returns-clause-state g c =
    let run = c.serve-served.ensures.run in
    let heard = was_heard Filled (λ _. 0) g.E.Engine.machine c.args.seed (g.E.Engine.state c.args.engine.now) (g.E.Engine.state c.serve-served.new.engine) c.from_seed-draws.result c.in_buffer-world.result c.serve-served.new.world c.args.events.lines c.args.events.rest.rest c.args.events.source c.args.places.sink run.0 c.serve-served.result c.in_buffer-world.ensures c.from_seed-draws.ensures run.1 run.2 c.requires.head c.requires.few (c.requires.unfinished _) c.serve-served.ensures.count c.wrote_all.result c.wrote_all.ensures.value c.wrote_all.ensures.cause in
    let says = run_says Filled (λ _. 0) g.E.Engine.machine c.args.seed (g.E.Engine.state c.args.engine.now) (g.E.Engine.state c.serve-served.new.engine) c.from_seed-draws.result
    c.in_buffer-world.result c.serve-served.new.world c.args.events.lines c.args.events.rest.rest c.args.events.source c.args.places.sink run.0 c.serve-served.result c.in_buffer-world.ensures
    c.from_seed-draws.ensures run.1 run.2 c.requires.head heard c.serve-served.ensures.justified in
    run_state Filled (λ _. 0) g.E.Engine.machine c.args.seed (g.E.Engine.state c.args.engine.now) (g.E.Engine.state c.serve-served.new.engine) c.from_seed-draws.result
    c.in_buffer-world.result c.serve-served.new.world c.args.events.lines c.args.events.rest.rest c.args.events.source c.args.places.sink run.0 c.serve-served.result c.in_buffer-world.ensures
    c.from_seed-draws.ensures run.1 run.2 c.requires.head _ says
