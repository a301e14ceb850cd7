use Rattle.std.proofs.Common.{◌+◌, ◌-◌, ◌<◌, ◌≤◌, length, ◌∷◌, refl, sym, ap, ◌∙◌, subst, arith}
use Rattle.dc_model.specs.Draws.{draws_of}
use Rattle.dc_event.specs.declared.answers.Heard.TheVariants as said
use Rattle.dc_event.specs.History.{done_all, ended, failed, bad}
use Rattle.dc_split.specs.Split.{split}
use Rattle.dc_shard.specs.Bays.{states_of, outs_of, MayStepEach}
use Rattle.dc_shard.specs.Rounds.{AreBlank, AllBelow, InRound, begun, held_over, played_by}
use Rattle.dc_shard.specs.declared.served.ShardServed.TheVariants.{Spent, Ended, Failed, Bad}
use Rattle.dc_shard.proofs.BayLemmas.{length_states}
use Rattle.dc_shard.proofs.RoundLemmas.{may_less}
use Rattle.dc_shard.proofs.ServeLemmas.{serve_begins, serve_more, serve_ends, serve_lacks, held_none, not_held, order_length}
use Rattle.dc_shard.proofs.serve.serve_shards.Goals as goal

pub rounds-init : goal.rounds-init
rounds-init g c =
    let laws = g.met.W.World in
    let m = g.E.Engine.machine in
    let state = g.E.Engine.state in
    let start = states_of state c.args.shards.now.bays.items in
    let launched = c.launch.ensures in (
      done_all ((split m).opening start),
      record {
        so_far = serve_begins g.W.World.history laws.history_both m state (draws_of c.args.draws.now.seed) c.args.draws.now.given c.min-limit.result start c.args.world.now c.launch.new.out
            c.launch.new.self.bays.items c.args.spare.now (laws.acted_history _ _ _ launched.acted) launched.states (launched.free c.requires.free) (subst AreBlank (sym launched.outs) c.requires.blank)
            (subst (λ k. MayStepEach m k start) (sym c.min-limit.ensures) c.requires.events);
        seed = refl;
        stays = laws.acted_faults _ _ _ launched.acted;
        len = sym (length_states state c.launch.new.self.bays.items) ∙ ap length launched.states ∙ length_states state c.args.shards.now.bays.items;
      },
    )

pub returns-then-handled-limit-clause-run : goal.returns-then-handled-limit-clause-run
returns-then-handled-limit-clause-run g c =
    let laws = g.met.W.World in
    let so = c.rounds.invariant.1.so_far in
    let none = held_none c.rounds.held c.rounds.spare (omega (arith, so.within, c.if-handled-limit.true)) in
    serve_ends g.W.World.history laws.history_both g.E.Engine.machine g.E.Engine.state _ _ _ _ _ c.rounds.world c.rounds.world _ _ c.rounds.handled c.rounds.held c.rounds.spare c.rounds.invariant.0 Spent _
    so none c.min-limit.ensures c.if-handled-limit.true (laws.history_none c.rounds.world) (refl, (refl, refl))

pub returns-in-End-clause-run : goal.returns-in-End-clause-run
returns-in-End-clause-run g c =
    let m = g.E.Engine.machine in
    let state = g.E.Engine.state in
    let so = c.rounds.invariant.1.so_far in
    let fresh = not_held c.rounds.held said.End c.in-End.ensures.held (λ e. cc) in
    let none = ap (λ b. held_over b c.rounds.spare) fresh in
    let below : c.rounds.handled < c.min-limit.result = omega (arith, so.within, c.if-handled-limit.false) in
    let asks = subst (λ b. g.W.World.history c.rounds.world (begun b ((split m).wake (states_of state c.rounds.shards.bays.items)) ended) c.begin.new.world) fresh c.in-End.ensures.passed in
    serve_ends g.W.World.history g.met.W.World.history_both m state _ _ _ _ _ c.rounds.world c.begin.new.world _ _ c.rounds.handled c.rounds.held c.rounds.spare c.rounds.invariant.0 Ended _
    so none c.min-limit.ensures below asks (refl, (refl, refl))

pub returns-in-Failed-clause-run : goal.returns-in-Failed-clause-run
returns-in-Failed-clause-run g c =
    let m = g.E.Engine.machine in
    let state = g.E.Engine.state in
    let so = c.rounds.invariant.1.so_far in
    let fresh = not_held c.rounds.held said.Failed c.in-Failed.ensures.held (λ e. cc) in
    let none = ap (λ b. held_over b c.rounds.spare) fresh in
    let below : c.rounds.handled < c.min-limit.result = omega (arith, so.within, c.if-handled-limit.false) in
    let asks = subst (λ b. g.W.World.history c.rounds.world (begun b ((split m).wake (states_of state c.rounds.shards.bays.items)) failed) c.begin.new.world) fresh c.in-Failed.ensures.passed in
    serve_ends g.W.World.history g.met.W.World.history_both m state _ _ _ _ _ c.rounds.world c.begin.new.world _ _ c.rounds.handled c.rounds.held c.rounds.spare c.rounds.invariant.0 Failed _
    so none c.min-limit.ensures below asks (refl, (refl, refl))

pub returns-in-Bad-clause-run : goal.returns-in-Bad-clause-run
returns-in-Bad-clause-run g c =
    let m = g.E.Engine.machine in
    let state = g.E.Engine.state in
    let so = c.rounds.invariant.1.so_far in
    let fresh = not_held c.rounds.held (said.Bad c.in-Bad.line) c.in-Bad.ensures.held (λ e. cc) in
    let none = ap (λ b. held_over b c.rounds.spare) fresh in
    let below : c.rounds.handled < c.min-limit.result = omega (arith, so.within, c.if-handled-limit.false) in
    let asks = subst (λ b. g.W.World.history c.rounds.world (begun b ((split m).wake (states_of state c.rounds.shards.bays.items)) (bad c.in-Bad.line)) c.begin.new.world) fresh c.in-Bad.ensures.passed in
    serve_ends g.W.World.history g.met.W.World.history_both m state _ _ _ _ _ c.rounds.world c.begin.new.world _ _ c.rounds.handled c.rounds.held c.rounds.spare c.rounds.invariant.0 (Bad c.in-Bad.line) _
    so none c.min-limit.ensures below asks (refl, (refl, refl))

pub act-requires-clause-steps : goal.act-requires-clause-steps
act-requires-clause-steps g c κs within =
    let m = g.E.Engine.machine in
    let state = g.E.Engine.state in
    let so = c.rounds.invariant.1.so_far in
    let round = c.take_round-held.ensures.run.1.1.1.0 in
    let some : 1 ≤ c.min-limit.result - c.rounds.handled = omega (arith, so.within, c.if-handled-limit.false) in
    subst (MayStepEach m 1) (sym round.states) (may_less m state (draws_of c.rounds.draws.seed) (c.min-limit.result - c.rounds.handled) 1 (states_of state c.rounds.shards.bays.items) some so.steps)

pub act-requires-clause-places : goal.act-requires-clause-places
act-requires-clause-places g c κs within =
    let mid = c.take_round-held.new.shards.bays.items in
    let round = c.take_round-held.ensures.run.1.1.1.0 in
    subst (AllBelow (length mid)) (sym c.deref.ensures.0) round.places

pub act-requires-clause-count : goal.act-requires-clause-count
act-requires-clause-count g c κs within =
    let m = g.E.Engine.machine in
    let state = g.E.Engine.state in
    let run = c.take_round-held.ensures.run in
    let round = run.1.1.1.0 in
    round.count ∙ sym (ap length round.in_order ∙ order_length m (states_of state c.rounds.shards.bays.items) (draws_of c.rounds.draws.seed) c.rounds.draws.given (c.begin.new.inbox ∷ run.0)) ∙ sym (ap length c.deref.ensures.0)

pub act-requires-clause-blank : goal.act-requires-clause-blank
act-requires-clause-blank g c κs within = c.take_round-held.ensures.run.1.1.1.0.outs

pub returns-then-not-act-clause-run : goal.returns-then-not-act-clause-run
returns-then-not-act-clause-run g c =
    let run = c.take_round-held.ensures.run in
    let heard = c.in-Event.ensures in
    serve_lacks g.W.World.history g.met.W.World.history_both g.E.Engine.machine g.E.Engine.state _ _ c.min-limit.result _ _ c.rounds.world c.begin.new.world c.take_round-held.new.world c.act.new.out
    c.rounds.shards.bays.items c.rounds.draws.given c.rounds.handled _ _ c.rounds.held c.rounds.spare c.begin.new.inbox c.rounds.invariant.0 _ _
    c.rounds.invariant.1.so_far heard.same heard.passed heard.warrant run.1.0 run.1.1.0 run.1.1.1.1.1 (c.act.ensures.short c.if-not-act.true) c.min-limit.ensures

pub returns-then-not-act-clause-len : goal.returns-then-not-act-clause-len
returns-then-not-act-clause-len g c = c.act.ensures.len ∙ c.take_round-held.ensures.len ∙ c.rounds.invariant.1.len

pub rounds-smaller : goal.rounds-smaller
rounds-smaller g c =
    let m = g.E.Engine.machine in
    let state = g.E.Engine.state in
    let so = c.rounds.invariant.1.so_far in
    let run = c.take_round-held.ensures.run in
    let round = run.1.1.1.0 in
    let count = ap length round.in_order ∙ order_length m (states_of state c.rounds.shards.bays.items) (draws_of c.rounds.draws.seed) c.rounds.draws.given (c.begin.new.inbox ∷ run.0) in
    omega (arith, so.within, c.if-handled-limit.false, count, c.len.ensures.value)

pub rounds-preserved : goal.rounds-preserved
rounds-preserved g c =
    let laws = g.met.W.World in
    let m = g.E.Engine.machine in
    let state = g.E.Engine.state in
    let kept = c.rounds.invariant.1 in
    let run = c.take_round-held.ensures.run in
    let heard = c.in-Event.ensures in
    let before = c.rounds.shards.bays.items in
    let mid = c.take_round-held.new.shards.bays.items in
    let done = c.act.ensures.acted c.if-not-act.false in
    let after = done.taped in
    let order = c.take_round-held.new.order.items in
    let round : InRound m state (draws_of c.args.draws.now.seed) c.rounds.draws.given (states_of state before) mid order (c.begin.new.inbox ∷ run.0) =
    subst (λ s. InRound m state (draws_of s) c.rounds.draws.given (states_of state before) mid order (c.begin.new.inbox ∷ run.0)) kept.seed run.1.1.1.0 in
    let plays = subst (λ o. g.W.World.history c.take_round-held.new.world (done_all (played_by (outs_of after) o)) c.act.new.out) c.deref.ensures.0 (laws.acted_history _ _ _ done.acts) in
    let more = serve_more g.W.World.history laws.history_both m state (draws_of c.args.draws.now.seed) c.args.draws.now.given c.min-limit.result (states_of state c.args.shards.now.bays.items)
    c.args.world.now c.rounds.world c.begin.new.world c.take_round-held.new.world c.act.new.out before mid after c.act.new.self.bays.items order c.rounds.draws.given c.rounds.handled c.rounds.held c.rounds.spare
    c.begin.new.inbox c.rounds.invariant.0 run.0 c.take_round-held.result c.take_round-held.new.inbox kept.so_far heard.same heard.passed heard.warrant run.1.0 run.1.1.0 round run.1.1.1.1.1
    c.take_round-held.ensures.event done.stepped done.whole plays done.cleared c.events_count.ensures
    c.take_round-held.new.draws.given (c.rounds.handled + c.len.result) (ap (λ d. d.given) run.1.1.1.1.0) (ap (λ n. c.rounds.handled + n) c.len.ensures.value) in (
      more.0,
      record {
        so_far = more.1;
        seed = ap (λ d. d.seed) run.1.1.1.1.0 ∙ kept.seed;
        stays = laws.acted_faults _ _ _ done.acts ∙ c.take_round-held.ensures.count ∙ heard.count ∙ kept.stays;
        len = c.act.ensures.len ∙ c.take_round-held.ensures.len ∙ kept.len;
      },
    )
