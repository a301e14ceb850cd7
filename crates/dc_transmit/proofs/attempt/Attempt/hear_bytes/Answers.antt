use Rattle.std.proofs.Common.{◌∙◌, sym}
use Rattle.dc_transmit.specs.Attempts.{attempt_of, occasion}
use Rattle.dc_transmit.specs.Gathered.{message_of}
use Rattle.dc_transmit.proofs.CaseLemmas.{bytes_unheard, bytes_part, bytes_good, bytes_bad}
use Rattle.dc_transmit.proofs.GatherLemmas.{appended_bytes}
use Rattle.dc_transmit.proofs.StepLemmas.{did_as, did_nothing, did_accept}
use Rattle.dc_transmit.proofs.attempt.Attempt.hear_bytes.Goals as goal

pub returns-then-not-gathers : goal.returns-then-not-gathers
returns-then-not-gathers g c =
    did_nothing g.O.Effects.acted g.met.O.Effects.acted_none _ _ c.args.self.now c.args.links.now
    (bytes_unheard c.args.bytes.now (attempt_of c.args.self.now) (occasion c.args.now c.args.draws.now c.args.links.now) (sym c.gathers.ensures ∙ c.if-not-gathers.true))

pub returns-in-None : goal.returns-in-None
returns-in-None g c =
    did_nothing g.O.Effects.acted g.met.O.Effects.acted_none _ _ _ c.args.links.now
    (bytes_part c.args.bytes.now c.append.new.self.bytes 65537 (attempt_of c.args.self.now) (occasion c.args.now c.args.draws.now c.args.links.now) (sym c.gathers.ensures ∙ c.if-not-gathers.false)
    (c.append.ensures ∙ appended_bytes _ _) c.in-None.ensures.whole c.in-None.ensures.room)

pub returns-then-good : goal.returns-then-good
returns-then-good g c =
    did_as (bytes_good c.args.bytes.now c.append.new.self.bytes 65537 (attempt_of c.args.self.now) (occasion c.args.now c.args.draws.now c.args.links.now) (sym c.gathers.ensures ∙ c.if-not-gathers.false)
    (c.append.ensures ∙ appended_bytes _ _) c.in-Some.ensures.whole (sym c.if-good.true ∙ c.in-Some.ensures.answer))
    (did_accept g.O.Effects.acted _ _ (message_of c.append.new.self.bytes) c.args.self.now c.keep_message.new.self c.args.links.now c.keep_message.ensures c.link_close.ensures)

pub returns-else-good : goal.returns-else-good
returns-else-good g c =
    did_as (bytes_bad c.args.bytes.now c.append.new.self.bytes 65537 (attempt_of c.args.self.now) (occasion c.args.now c.args.draws.now c.args.links.now) (sym c.gathers.ensures ∙ c.if-not-gathers.false)
    (c.append.ensures ∙ appended_bytes _ _) c.in-Some.ensures.whole (sym c.if-good.false ∙ c.in-Some.ensures.answer))
    c.try_next.ensures
