use Rattle.std.proofs.Common.{◌∙◌, subst, [], ◌∷◌}
use Rattle.dc_transmit.specs.Attempts.{attempt_of, occasion}
use Rattle.dc_model.specs.Transmission.{Attempt, opening_of}
use Rattle.dc_transmit.specs.declared.attempt.Attempt.{Attempt as CodeAttempt}
use Rattle.dc_transmit.proofs.StepLemmas.{started_is, some_first}
use Rattle.dc_transmit.proofs.attempt.Attempt.start.Goals as goal

pub unreachable-requires : goal.unreachable-requires
unreachable-requires g c = some_first c.opening-round.result c.args.asked.servers c.requires.place c.in-None.ensures.tries

pub returns-clause-attempt : goal.returns-clause-attempt
returns-clause-attempt g c =
    let began : CodeAttempt = record c.args.self.now { asked = c.args.asked; course = c.in-Some.course; refusals = 0 } in
    c.open.ensures.attempt
    ∙ started_is c.in-Some.course c.opening-round.result (attempt_of began) (occasion c.args.now c.args.draws.now c.args.links.now) c.in-Some.ensures.round c.opening-round.ensures.transport
    c.opening-round.ensures.waits c.in-Some.ensures.tries

pub returns-clause-acts : goal.returns-clause-acts
returns-clause-acts g c =
    let began : CodeAttempt = record c.args.self.now { asked = c.args.asked; course = c.in-Some.course; refusals = 0 } in
    subst (λ (x : Attempt). g.O.Effects.acted c.args.out.now (opening_of x ∷ []) c.open.new.out)
    (c.open.ensures.attempt
    ∙ started_is c.in-Some.course c.opening-round.result (attempt_of began) (occasion c.args.now c.args.draws.now c.args.links.now) c.in-Some.ensures.round c.opening-round.ensures.transport
    c.opening-round.ensures.waits c.in-Some.ensures.tries)
    c.open.ensures.acts
