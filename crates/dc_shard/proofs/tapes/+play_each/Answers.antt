use Rattle.std.proofs.Common.{length, sym, subst}
use Rattle.dc_shard.specs.Bays.{outs_of}
use Rattle.dc_shard.specs.Rounds.{AllBelow, held_at, played_by}
use Rattle.dc_shard.proofs.BayLemmas.{whole_at, held_is}
use Rattle.dc_shard.proofs.tapes.+play_each.Goals as goal

pub play-requires : goal.play-requires
play-requires g t c =
    let below = subst (AllBelow (length c.args.bays.now)) c.in-Some.ensures.cases.0 c.requires.places in
    whole_at c.args.bays.now c.in-Some.core.now _ c.requires.whole below.0

pub returns : goal.returns
returns g t c =
    let ts = outs_of c.args.bays.now in
    let below = subst (AllBelow (length c.args.bays.now)) c.in-Some.ensures.cases.0 c.requires.places in
    let first = subst (λ xs. g.O.Effects.acted c.args.out.now xs c.play.new.out) (sym (held_is c.args.bays.now c.in-Some.core.now c.index-bays-core.result below.0)) c.play.ensures in
    subst (λ order. g.O.Effects.acted c.args.out.now (played_by ts order) c.play_each.new.out) (sym c.in-Some.ensures.cases.0)
    (g.met.O.Effects.acted_both _ _ _ (held_at c.in-Some.core.now ts) (played_by ts c.in-Some.behind.now) first c.play_each.ensures)
