use Rattle.std.proofs.Common.{rules, refl, arith}
use Rattle.dc_model.specs.Puts.{all_put}
use Rattle.dc_frames.specs.View.{query_of}
use Rattle.dc_machine.specs.Turn.{at_next}
use Rattle.dc_desk.specs.View.{setting_at, at}
use Rattle.dc_resolve.proofs.TurnLemmas.{step_as, step_same}
use Rattle.dc_resolve.proofs.NextLemmas.{next_leaves, next_raises}
use Rattle.dc_resolve.proofs.next.next.Goals as goal

pub returns-then-levels-ge-MOST_LEVELS : goal.returns-then-levels-ge-MOST_LEVELS
unfolding all_put
returns-then-levels-ge-MOST_LEVELS g c = step_as g.O.Effects.acted g.S.Store.cache at_next c.args.moment _ _ _ _ _ _ _ _ _
    (next_leaves (setting_at c.args.desk.now c.args.moment) (at g.S.Store.cache c.args.query.now c.args.desk.now) c.in-Some.host _ (query_of c.take_host.new.self) c.in-Some.ensures.0 c.in-Some.ensures.1 c.requires.some (omega (arith, c.levels.ensures.value)))
    (g.met.O.Effects.acted_none _) c.in-Some.ensures.1 refl refl refl refl (refl, c.requires.idle)

pub returns-in-Some : goal.returns-in-Some
unfolding all_put
returns-in-Some g c = step_as g.O.Effects.acted g.S.Store.cache at_next c.args.moment _ _ _ _ _ _ _ _ _
    (next_raises (setting_at c.args.desk.now c.args.moment) (at g.S.Store.cache c.args.query.now c.args.desk.now) c.in-Some.host _ (query_of c.take_host.new.self) c.in-Some.ensures.0 c.in-Some.ensures.1 c.requires.some (omega (arith, c.levels.ensures.value)))
    (g.met.O.Effects.acted_none _) (search rules) refl refl refl refl (refl, c.requires.idle)

pub returns : goal.returns
returns g c = step_same g.O.Effects.acted g.S.Store.cache at_next c.args.moment _ _ _ _ _ _ _ _ _ c.in_default.ensures.1 c.ask.ensures
