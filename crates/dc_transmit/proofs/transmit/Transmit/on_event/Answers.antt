use Rattle.std.proofs.Common.{◌∙◌, ap, subst, sym}
use Rattle.dc_model.specs.Transmission.{After, Progress}
use Rattle.dc_transmit.specs.Attempts.{attempt_of, occasion}
use Rattle.dc_transmit.specs.Standing.{standing_at, answer_of}
use Rattle.dc_transmit.proofs.StandingLemmas.{asking, followed_is, answer_is}
use Rattle.dc_transmit.proofs.transmit.Transmit.on_event.Goals as goal

pub returns-clause-standing : goal.returns-clause-standing
returns-clause-standing g c =
    let o = occasion c.args.inbox.now.now c.args.draws.now c.args.link.now in
    let f = followed_is _ (attempt_of c.self.inside.attempt) c.args.inbox.now o (asking c.self.inside.answer c.self.inside.attempt _ c.self.view_is c.requires.asking) in
    ap (λ (p : Progress). standing_at p) (c.hear-answer.ensures.stands ∙ ap (λ (x : After). x.progress) (sym f))

pub returns-clause-answer : goal.returns-clause-answer
returns-clause-answer g c =
    let o = occasion c.args.inbox.now.now c.args.draws.now c.args.link.now in
    let f = followed_is _ (attempt_of c.self.inside.attempt) c.args.inbox.now o (asking c.self.inside.answer c.self.inside.attempt _ c.self.view_is c.requires.asking) in
    answer_is _ _ ∙ ap (λ (p : Progress). answer_of p) (c.hear-answer.ensures.stands ∙ ap (λ (x : After). x.progress) (sym f))

pub returns-clause-acts : goal.returns-clause-acts
returns-clause-acts g c =
    let o = occasion c.args.inbox.now.now c.args.draws.now c.args.link.now in
    let f = followed_is _ (attempt_of c.self.inside.attempt) c.args.inbox.now o (asking c.self.inside.answer c.self.inside.attempt _ c.self.view_is c.requires.asking) in
    subst (λ (x : After). g.O.Effects.acted c.args.out.now x.actions c.hear-answer.new.out) (sym f) c.hear-answer.ensures.acts

pub returns-clause-links : goal.returns-clause-links
returns-clause-links g c =
    let o = occasion c.args.inbox.now.now c.args.draws.now c.args.link.now in
    let f = followed_is _ (attempt_of c.self.inside.attempt) c.args.inbox.now o (asking c.self.inside.answer c.self.inside.attempt _ c.self.view_is c.requires.asking) in
    c.hear-answer.ensures.links ∙ ap (λ (x : After). x.links) (sym f)
