use Rattle.std.proofs.Common.{ap, refl, ◌∙◌, sym}
use Rattle.dc_script.proofs.Furthering.{next_ended, next_missing, at_none}
use Rattle.dc_script.specs.Further.{next_event}
use Rattle.dc_script.proofs.reader.Reader.further.Goals as goal

pub returns-then-self-clause-gives : goal.returns-then-self-clause-gives
returns-then-self-clause-gives g c = (at_none _ _ (next_ended _ _ _ _ c.if-self.true), refl)

pub returns-then-not-hold-clause-gives : goal.returns-then-not-hold-clause-gives
returns-then-not-hold-clause-gives g c =
    let held = c.hold.ensures in (
      at_none _ _ (sym (ap next_event held.unread) ∙ next_missing c.hold.new.self.ended c.hold.new.self.found c.hold.new.self.rest.line c.hold.new.self.rest.rest
          (held.ended ∙ c.if-self.false) (held.found ∙ c.if-not-hold.true) (held.none c.if-not-hold.true)),
      refl,
    )
