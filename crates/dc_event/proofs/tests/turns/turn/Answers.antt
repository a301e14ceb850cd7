use Rattle.std.proofs.Common.{[]}
use Rattle.dc_event.proofs.tests.turns.turn.Goals as goal

pub returns-in-Event : goal.returns-in-Event
returns-in-Event g c =
    let laws = g.met.W.World in (
      _,
      laws.history_then _ _ _ _ _ (rw c.wake.ensures at c.next-heard.ensures.history) (laws.acted_history _ _ _ c.step.ensures.acted),
    )

pub returns-in_default : goal.returns-in_default
returns-in_default g c = ([], rw c.wake.ensures at c.next-heard.ensures.history)
