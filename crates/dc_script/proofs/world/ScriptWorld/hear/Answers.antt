use Rattle.dc_script.specs.Read.{unread}
use Rattle.dc_script.specs.World.{SaysNoMore, IfFailed-less}
use Rattle.dc_script.proofs.StateLemmas.{stopped_now}
use Rattle.dc_script.proofs.world.ScriptWorld.hear.Goals as goal

pub returns-clause-stopped : goal.returns-clause-stopped
returns-clause-stopped g c =
    let now = c.hear-heard.new.self in
    rw (← c.self.view_is) (λ e f. stopped_now c.hear-heard.result now.failed c.self.inside.reader.failed
    (SaysNoMore (unread now.ended now.found now.rest.line now.rest.rest)) c.hear-heard.ensures.stopped e f)

pub returns-clause-calm : goal.returns-clause-calm
returns-clause-calm g c = rw (← c.self.view_is) (IfFailed-less c.hear-heard.result _ _ c.hear-heard.ensures.stopped)
