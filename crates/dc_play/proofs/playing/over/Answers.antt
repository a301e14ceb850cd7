use Rattle.std.proofs.Common.{◌≡◌, ◌∙◌, Bool, true, false, not, ◌&&◌, ◌≤◌, ◌^◌, ◌++◌, length, ap, sym, arith, subst}
use Rattle.dc_model.specs.Draws.{draws_of}
use Rattle.dc_engine.specs.Automaton.{actions_of}
use Rattle.dc_script.specs.World.{HandedOut, Wrote}
use Rattle.dc_serve.specs.Serve.{Ends, count_served}
use Rattle.dc_serve.proofs.Runs.{passes_events, passes_actions}
use Rattle.dc_play.specs.Playing.{run_of, limit_of, answer_from, reads_well, writes_well}
use Rattle.dc_script.specs.Fated.{Fated}
use Rattle.dc_event.specs.Causes.{Fares}
use Rattle.dc_play.proofs.Fine.{read_fared, write_fared, fares_of}
use Rattle.dc_play.proofs.Late.{passes_early}
use Rattle.dc_play.proofs.Runs.{run_fronts}
use Rattle.dc_play.proofs.Worlds.{played, written, some_faults}
use Rattle.dc_play.proofs.playing.over.Goals as goal

pub returns-clause-told : goal.returns-clause-told
returns-clause-told g c =
    let old = c.in_buffer-world.result in
    let opened = c.in_buffer-world.ensures in
    let new = c.serve-served.new.world in
    let run = c.serve-served.ensures.run in
    let parts = c.into_parts-source in
    let machine = g.E.Engine.machine in
    let state = g.E.Engine.state c.args.engine.now in
    let drawn = c.from_seed-draws.result in
    let words = draws_of drawn.seed in
    let heard : HandedOut g.S.Source.took g.S.Source.refused g.S.Source.faults old run.0 new = subst (λ es. HandedOut g.S.Source.took g.S.Source.refused g.S.Source.faults old es new) (passes_events machine words drawn.given state run.0 c.serve-served.result) run.1.heard in
    let done : Wrote g.K.Sink.gained g.K.Sink.refused g.K.Sink.faults old (machine.opening state ++ actions_of machine words drawn.given state run.0) new =
    subst (λ xs. Wrote g.K.Sink.gained g.K.Sink.refused g.K.Sink.faults old xs new) (passes_actions machine words drawn.given state run.0 c.serve-served.result) run.1.done in
    let from : old.source ≡ c.args.source = ap (λ w. w.source) opened in
    let few : limit_of c.args.turns ≤ 2 ^ 60 = omega arith in
    let ends = subst (λ b. Ends c.serve-served.result b (length run.0) (limit_of c.args.turns)) (c.requires.unfinished _) run.2.ends in
    let text = written g.K.Sink.gained g.K.Sink.refused g.K.Sink.faults old new machine c.args.seed c.from_seed-draws.result state run.0 c.args.sink parts.result.1 done c.from_seed-draws.ensures
    (ap (λ w. w.write_failed) opened) (ap (λ w. w.sink) opened) parts.ensures.sink in (
      heard.heard.bytes,
      (
        text.0,
        subst (λ s. g.S.Source.took c.args.source heard.heard.bytes s) (sym parts.ensures.source) (subst (λ s. g.S.Source.took s heard.heard.bytes new.source) from heard.heard.taken),
        text.1,
        played g.S.Source.took g.S.Source.refused g.S.Source.faults g.S.Source.left (run_of machine (draws_of c.args.seed) state) old new c.serve-served.result (limit_of c.args.turns) run.0
            c.args.events.lines c.args.events.rest.rest text.0 parts.result.0 c.wrote_all.result c.answer_of-answer.result (run_fronts machine (draws_of c.args.seed) state)
            heard ends c.serve-served.ensures.justified (c.serve-served.ensures.count ∙ ap (λ w. count_served c.serve-served.result w.faults) opened) text.2 (ap (λ w. w.lines) opened) (ap (λ w. w.unread) opened) (ap (λ w. w.read_failed) opened)
            parts.ensures.source c.wrote_all.ensures.value c.wrote_all.ensures.cause c.answer_of-answer.ensures few c.requires.head,
      ),
    )

pub returns-clause-read : goal.returns-clause-read
returns-clause-read g c =
    let old = c.in_buffer-world.result in
    let opened = c.in_buffer-world.ensures in
    let new = c.serve-served.new.world in
    let run = c.serve-served.ensures.run in
    let parts = c.into_parts-source in
    let answer = c.serve-served.result in
    let machine = g.E.Engine.machine in
    let drawn = c.from_seed-draws.result in
    let unread : old.read_failed ≡ false = ap (λ w. w.read_failed) opened in
    let count : new.faults ≡ count_served answer 0 = c.serve-served.ensures.count ∙ ap (λ w. count_served answer w.faults) opened in
    let early = passes_early machine (draws_of drawn.seed) drawn.given (g.E.Engine.state c.args.engine.now) run.0 answer in
    let apart : new.write_failed && new.read_failed ≡ false =
    run.1.apart (rw unread early) (ap (λ w. w.write_failed && w.read_failed) opened) in
    let read : new.read_failed ≡ not (reads_well (answer_from answer (not new.write_failed))) =
    read_fared answer new.read_failed new.write_failed new.faults count (λ none. (run.1.calm none).1 ∙ unread)
    (λ e whole. c.wrote_all.ensures.cause (c.wrote_all.ensures.value ∙ ap not whole) (some_faults answer new.faults count e)) apart in
    let result : reads_well (answer_from answer (not new.write_failed)) ≡ reads_well c.answer_of-answer.result =
    ap reads_well (ap (answer_from answer) (sym c.wrote_all.ensures.value) ∙ sym c.answer_of-answer.ensures) in
    let fated = subst (λ b. Fated g.S.Source.took g.S.Source.refused g.S.Source.faults b new.read_failed old.source new.source) unread run.1.heard.fated in
    let fares = fares_of g.S.Source.took g.S.Source.refused g.S.Source.faults (reads_well c.answer_of-answer.result) new.read_failed old.source new.source (read ∙ ap not result) fated in
    subst (λ s. Fares g.S.Source.took g.S.Source.refused g.S.Source.faults (reads_well c.answer_of-answer.result) c.args.source s) (sym parts.ensures.source)
    (subst (λ s. Fares g.S.Source.took g.S.Source.refused g.S.Source.faults (reads_well c.answer_of-answer.result) s new.source) (ap (λ w. w.source) opened) fares)

pub returns-clause-write : goal.returns-clause-write
returns-clause-write g c =
    let old = c.in_buffer-world.result in
    let opened = c.in_buffer-world.ensures in
    let new = c.serve-served.new.world in
    let run = c.serve-served.ensures.run in
    let parts = c.into_parts-source in
    let answer = c.serve-served.result in
    let unwritten : old.write_failed ≡ false = ap (λ w. w.write_failed) opened in
    let result : writes_well (answer_from answer (not new.write_failed)) ≡ writes_well c.answer_of-answer.result =
    ap writes_well (ap (answer_from answer) (sym c.wrote_all.ensures.value) ∙ sym c.answer_of-answer.ensures) in
    let fated = subst (λ b. Fated g.K.Sink.gained g.K.Sink.refused g.K.Sink.faults b new.write_failed old.sink new.sink) unwritten run.1.done.fated in
    let fares = fares_of g.K.Sink.gained g.K.Sink.refused g.K.Sink.faults (writes_well c.answer_of-answer.result) new.write_failed old.sink new.sink
    (write_fared answer new.write_failed ∙ ap not result) fated in
    subst (λ s. Fares g.K.Sink.gained g.K.Sink.refused g.K.Sink.faults (writes_well c.answer_of-answer.result) c.args.sink s) (sym parts.ensures.sink)
    (subst (λ s. Fares g.K.Sink.gained g.K.Sink.refused g.K.Sink.faults (writes_well c.answer_of-answer.result) s new.sink) (ap (λ w. w.sink) opened) fares)
