use Rattle.std.proofs.Common.{ap, ◌∙◌}
use Rattle.dc_model.specs.Draws.{draws_of}
use Rattle.dc_shard.proofs.RoundLemmas.{round_more, given_length}
use Rattle.dc_shard.proofs.rounds.hand_next.Goals as goal

pub returns-clause-round : goal.returns-clause-round
returns-clause-round g c = λ n ss events so may drawn.
    let seed = c.args.draws.now.seed in
    let handed = c.hand.ensures in
    round_more g.E.Engine.machine g.E.Engine.state (draws_of seed) n ss _ _ _ _ events c.args.inbox.now c.next-words.result c.args.core so may c.requires.goes c.requires.within c.requires.free
    handed.givens handed.states handed.outs handed.count (c.next-words.ensures.words ∙ ap (draws_of seed) drawn) c.push.ensures.items

pub returns-clause-len : goal.returns-clause-len
returns-clause-len g c = given_length _ _ c.args.core _ c.hand.ensures.givens
