use Rattle.std.proofs.Common.{ap, ◌∙◌, rules}
use Rattle.dc_event.specs.Causes.{count_where}
use Rattle.dc_play.specs.Playing.{limit_of}
use Rattle.dc_keep.specs.Keeping.{turns_of}
use Rattle.dc_keep.proofs.KeepLemmas.{kept_variable, kept_unread, kept_unloaded, kept_begun, last_world, within}
use Rattle.dc_keep.proofs.keep.keep_command.Goals as goal

pub returns-in-Some-clause-kept : goal.returns-in-Some-clause-kept
returns-in-Some-clause-kept g c =
    let s = g.S.Source in
    let i = g.I.Source in
    let w = g.W.World in
    kept_variable s.took s.left s.refused s.faults w.history w.used_up w.broken i.took i.left i.refused i.faults g.O.Sink.gained _ _
    c.args.source.now c.args.world.now c.args.image_in.now c.args.image_out.now (limit_of (turns_of c.args.env.now c.args.turns)) c.in-Some.variable _ _
    (g.met.S.Source.took_none _) (g.met.I.Source.took_none _) (g.met.W.World.history_none _) (g.met.O.Sink.gained_none _)
    (search rules) c.refused.ensures.status c.refused.ensures.core

pub returns-in-Err-clause-kept : goal.returns-in-Err-clause-kept
returns-in-Err-clause-kept g c =
    let s = g.S.Source in
    let i = g.I.Source in
    let w = g.W.World in
    kept_unread s.took s.left s.refused s.faults w.history w.used_up w.broken i.took i.left i.refused i.faults g.O.Sink.gained _ _
    _ _ c.args.world.now c.args.image_in.now c.args.image_out.now (limit_of (turns_of c.args.env.now c.args.turns)) c.in-Err.status _ _
    (g.met.I.Source.took_none _) (g.met.W.World.history_none _) (g.met.O.Sink.gained_none _)
    (search rules) c.in-Err.ensures.set_up c.in-Err.ensures.source_fares c.refused-in-Err.ensures.status c.refused-in-Err.ensures.core

pub returns-in-Err-first_store-clause-kept : goal.returns-in-Err-first_store-clause-kept
returns-in-Err-first_store-clause-kept g c =
    let s = g.S.Source in
    let i = g.I.Source in
    let w = g.W.World in
    let begins = c.in-Err-first_store.ensures.begins in
    kept_unloaded s.took s.left s.refused s.faults w.history w.used_up w.broken i.took i.left i.refused i.faults g.O.Sink.gained _ _
    _ _ c.args.world.now _ _ c.args.image_out.now (limit_of (turns_of c.args.env.now c.args.turns)) c.in-Ok.basis begins.0 c.in-Err-first_store.error _ _
    (g.met.W.World.history_none _) (g.met.O.Sink.gained_none _)
    (search rules) c.in-Ok.ensures.set_up c.in-Ok.ensures.source_fares begins.1 begins.2 begins.3 c.in-Err-first_store.ensures.fares
    (c.refused-in-Err-first_store.ensures.status ∙ c.status_unloaded.ensures) c.refused-in-Err-first_store.ensures.core

pub returns-clause-kept : goal.returns-clause-kept
returns-clause-kept g c =
    let s = g.S.Source in
    let i = g.I.Source in
    let w = g.W.World in
    let begins = c.in-Ok-first_store.ensures.begins in
    kept_begun s.took s.left s.refused s.faults w.history w.used_up w.broken i.took i.left i.refused i.faults g.O.Sink.gained _ _
    _ _ c.args.world.now _ _ _ c.args.image_out.now _ (limit_of (turns_of c.args.env.now c.args.turns)) c.in-Ok.basis begins.0 c.in-Ok-first_store.first _ _ _ _
    (search rules) c.in-Ok.ensures.set_up c.in-Ok.ensures.source_fares begins.1 begins.3 c.in-Ok-first_store.ensures.fares
    (within w.history w.used_up w.broken _ _ _ _ _ c.turns_of.result (turns_of c.args.env.now c.args.turns) _ _ c.turns_of.ensures c.serve_from-session.ensures.serves) c.save_last.ensures.leaves c.save_last.ensures.core

pub returns-clause-world_fares : goal.returns-clause-world_fares
returns-clause-world_fares g c =
    c.serve_from-session.ensures.world_fares
    ∙ ap (λ well. count_where well (g.W.World.faults c.args.world.now)) (last_world g.O.Sink.gained _ _ _ _ _ c.save_last.ensures.leaves)
