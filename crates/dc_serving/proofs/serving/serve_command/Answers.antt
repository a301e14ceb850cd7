use Rattle.std.proofs.Common.{rules}
use Rattle.dc_play.specs.Playing.{limit_of}
use Rattle.dc_serving.proofs.BegunLemmas.{served_unread, served_read, forgotten}
use Rattle.dc_serving.proofs.serving.serve_command.Goals as goal

pub returns-in-Err-clause-served : goal.returns-in-Err-clause-served
returns-in-Err-clause-served g c =
    let w = g.W.World in
    let s = g.S.Source in
    served_unread s.took s.left w.history w.used_up w.broken _ _ _ _ c.args.world.now (limit_of c.args.turns) c.in-Err.status _ _
    c.in-Err.ensures.set_up (g.met.W.World.history_none c.args.world.now) c.refused.ensures.status c.refused.ensures.core

pub returns-clause-served : goal.returns-clause-served
returns-clause-served g c =
    let w = g.W.World in
    let s = g.S.Source in
    served_read s.took s.left w.history w.used_up w.broken _ _ _ _ c.args.world.now c.serve_from.new.world (limit_of c.args.turns) c.in-Ok.basis _ _
    c.in-Ok.ensures.set_up (search rules)

pub returns-in_default-clause-served : goal.returns-in_default-clause-served
returns-in_default-clause-served g c =
    let w = g.W.World in
    let s = g.S.Source in
    served_read s.took s.left w.history w.used_up w.broken _ _ _ _ c.args.world.now c.args.world.now (limit_of c.args.turns) c.in-Ok.basis _ _
    c.in-Ok.ensures.set_up
    (forgotten w.history w.used_up w.broken c.args.world.now _ _ _ (limit_of c.args.turns) _ _ (g.met.W.World.history_none c.args.world.now)
    c.refused-in_default.ensures.status c.refused-in_default.ensures.core)
