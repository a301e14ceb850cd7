use Rattle.std.proofs.Common.{◌≡◌, ◌<◌, ◌∷◌, [], length, ◌∙◌, ap, sym, subst, arith}
use Rattle.dc_shard.specs.Acting.{ActsInOrder}
use Rattle.dc_shard.specs.Rounds.{AllBelow}
use Rattle.dc_shard.specs.Taped.{Gains}
use Rattle.dc_shard.proofs.AloneLemmas.{alone_acts, given_any}
use Rattle.dc_shard.proofs.BayLemmas.{stepped_length, cleared_length}
use Rattle.dc_shard.proofs.acting.Shards+E+Tape.act.Goals as goal

pub index-requires : goal.index-requires
index-requires g c =
    let bays = c.args.self.now.bays in
    let within : c.in-Some.core < length bays.items = (subst (AllBelow (length bays.items)) c.in-Some.ensures c.requires.places).0 in
    omega (arith, within, bays.ok.0)

pub act_alone-requires-clause-within : goal.act_alone-requires-clause-within
act_alone-requires-clause-within g c = (subst (AllBelow (length c.args.self.now.bays.items)) c.in-Some.ensures c.requires.places).0

pub returns-then-index-clause-acted : goal.returns-then-index-clause-acted
returns-then-index-clause-acted g c done =
    let m = g.E.Engine.machine in
    let state = g.E.Engine.state in
    let bs = c.args.self.now.bays.items in
    let core = c.in-Some.core in
    let is : c.args.order.now ≡ core ∷ [] = c.in-Some.ensures in
    let within : core < length bs = (subst (AllBelow (length bs)) is c.requires.places).0 in
    let made = c.act_alone.ensures in
    subst (λ o. ActsInOrder g.W.Effects.acted m state o bs c.act_alone.new.self.bays.items c.args.out.now c.act_alone.new.out) (sym is)
    (subst (λ new. ActsInOrder g.W.Effects.acted m state (core ∷ []) bs new c.args.out.now c.act_alone.new.out) (sym made.1.0)
    (alone_acts m state g.W.Effects.acted core bs made.0 c.args.out.now c.act_alone.new.out within (c.requires.count ∙ ap length is) c.requires.blank
    (given_any bs core c.index.result.now _ within c.index.ensures c.if-index.true) made.1.1))

pub play-requires : goal.play-requires
play-requires g c =
    let bs = c.args.self.now.bays.items in
    let len = stepped_length Gains g.E.Engine.machine g.E.Engine.state (length bs) 0 bs c.step_all.new.self.bays.items c.step_all.ensures in
    subst (λ n. AllBelow n c.args.order.now) (sym len) c.requires.places

pub returns-then-not-play-clause-len : goal.returns-then-not-play-clause-len
returns-then-not-play-clause-len g c =
    let bs = c.args.self.now.bays.items in
    stepped_length Gains g.E.Engine.machine g.E.Engine.state (length bs) 0 bs c.step_all.new.self.bays.items c.step_all.ensures

pub returns-clause-len : goal.returns-clause-len
returns-clause-len g c =
    let bs = c.args.self.now.bays.items in
    let after = c.step_all.new.self.bays.items in
    cleared_length after c.clear.new.self.bays.items c.clear.ensures ∙ stepped_length Gains g.E.Engine.machine g.E.Engine.state (length bs) 0 bs after c.step_all.ensures
