use Rattle.std.proofs.Common.{◌≡◌, ◌+◌, length, [], refl, sym, ap, ◌∙◌, subst, arith}
use Rattle.std.proofs.lemmas.List.Elements.{All-nil}
use Rattle.dc_model.specs.Draws.{draws_of}
use Rattle.dc_model.specs.Event.{IsEvent}
use Rattle.dc_shard.specs.Bays.{states_of}
use Rattle.dc_shard.specs.Rounds.{InRound}
use Rattle.dc_shard.proofs.BayLemmas.{free_at}
use Rattle.dc_shard.proofs.RoundLemmas.{round_begins}
use Rattle.dc_shard.proofs.rounds.take_round.Goals as goal

pub hand_next-requires-clause-free : goal.hand_next-requires-clause-free
hand_next-requires-clause-free g c = λ d. free_at c.args.shards.now.bays.items c.route-core.result d c.requires.free c.route-core.ensures.within

pub further-init : goal.further-init
further-init g c =
    let m = g.E.Engine.machine in
    let state = g.E.Engine.state in
    let draws = c.args.draws.now in
    let bays = c.args.shards.now.bays.items in
    let none : InRound m state (draws_of draws.seed) draws.given (states_of state bays) bays c.args.order.now.items [] =
    subst (λ order. InRound m state (draws_of draws.seed) draws.given (states_of state bays) bays order []) (sym c.requires.order) (round_begins m state (draws_of draws.seed) draws.given bays c.requires.free c.requires.blank) in
    let number : draws.given + 1 ≡ draws.given + 1 + 0 = omega arith in (
      [],
      record {
        passed = g.met.W.World.history_none c.args.world.now;
        bounded = All-nil IsEvent;
        round = c.hand_next.ensures.round draws.given (states_of state bays) [] none tt (omega arith);
        drawn = c.hand_next.ensures.draws ∙ ap (λ n. record { seed = draws.seed; given = n }) number;
        ordered = omega (arith, c.hand_next.ensures.order, ap length c.requires.order);
        few = omega (arith, c.requires.most);
        stays = refl;
        len = c.hand_next.ensures.len;
      },
    )
