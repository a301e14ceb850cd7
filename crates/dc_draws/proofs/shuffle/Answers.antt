use Rattle.std.proofs.Common.{◌≡◌, ◌∙◌, ◌-◌, arith}
use Rattle.std.proofs.lemmas.List.{length-take}
use Rattle.dc_model.specs.Draws.{shuffled}
use Rattle.dc_draws.proofs.ShuffleLemmas.{shuffled_below-more}
use Rattle.dc_draws.proofs.shuffle.Goals as goal

pub loop-i-preserved : goal.loop-i-preserved
loop-i-preserved c =
    let s = length-take 15 c.args.draws.now in
    shuffled_below-more c.loop-i.i c.args.draws.now c.loop-i.servers c.swap.new.self (omega arith) (omega arith) c.swap.ensures.after
    ∙ c.loop-i.invariant

pub returns : goal.returns
unfolding shuffled
returns c =
    let s = length-take 15 c.args.draws.now in
    let none : 15 - c.loop-i.i ≡ 0 = omega arith in
    rw none at c.loop-i.invariant
