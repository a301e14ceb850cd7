use Rattle.std.proofs.Common.{◌≡◌, ◌+◌, ◌^◌, ◌≤◌, min, length, ◌<◌, true, false, [], ◌∷◌, ◌++◌, refl, ◌∙◌, ap, arith, length-append}
use Rattle.dc_serve.specs.declared.Served.TheVariants.{Finished, Spent, Ended, Failed, Bad}
use Rattle.dc_serve.proofs.Runs.{begins, finishes, more}
use Rattle.dc_serve.proofs.serve.Goals as goal

pub returns-in-End-clause-run : goal.returns-in-End-clause-run
returns-in-End-clause-run g c =
    let kept = c.events.invariant.1 in
    let goes_on : g.E.Engine.machine.finished (g.E.Engine.state c.events.engine) ≡ false = (cc) in
    let below : length c.events.invariant.0 < min c.args.turns (2 ^ 60) = omega (arith, kept.so_far.count, kept.below, c.min-limit.ensures, c.if-handled-limit.false) in
    let done = finishes g.W.World.history g.met.W.World.history_both g.E.Engine.machine _ _ _ Ended c.events.invariant.0 kept.so_far
    (rw c.wake.ensures at c.in-End.ensures.history) (goes_on, below) in
    (c.events.invariant.0, done.0, done.1, kept.drawn)

pub returns-in-Failed-clause-run : goal.returns-in-Failed-clause-run
returns-in-Failed-clause-run g c =
    let kept = c.events.invariant.1 in
    let goes_on : g.E.Engine.machine.finished (g.E.Engine.state c.events.engine) ≡ false = (cc) in
    let below : length c.events.invariant.0 < min c.args.turns (2 ^ 60) = omega (arith, kept.so_far.count, kept.below, c.min-limit.ensures, c.if-handled-limit.false) in
    let done = finishes g.W.World.history g.met.W.World.history_both g.E.Engine.machine _ _ _ Failed c.events.invariant.0 kept.so_far
    (rw c.wake.ensures at c.in-Failed.ensures.history) (goes_on, below) in
    (c.events.invariant.0, done.0, done.1, kept.drawn)

pub returns-in-Bad-clause-run : goal.returns-in-Bad-clause-run
returns-in-Bad-clause-run g c =
    let kept = c.events.invariant.1 in
    let goes_on : g.E.Engine.machine.finished (g.E.Engine.state c.events.engine) ≡ false = (cc) in
    let below : length c.events.invariant.0 < min c.args.turns (2 ^ 60) = omega (arith, kept.so_far.count, kept.below, c.min-limit.ensures, c.if-handled-limit.false) in
    let done = finishes g.W.World.history g.met.W.World.history_both g.E.Engine.machine _ _ _ (Bad c.in-Bad.line) c.events.invariant.0 kept.so_far
    (rw c.wake.ensures at c.in-Bad.ensures.history) (goes_on, below) in
    (c.events.invariant.0, done.0, done.1, kept.drawn)

pub events-init : goal.events-init
events-init g c =
    let laws = g.met.W.World in (
      [],
      record {
        so_far = begins g.W.World.history laws.history_both g.E.Engine.machine _ _ (laws.acted_history _ _ _ c.launch.ensures.acted) c.launch.ensures.state;
        drawn = ap (λ n. record { seed = c.args.draws.now.seed; given = n }) (omega arith);
        stays = laws.acted_faults _ _ _ c.launch.ensures.acted;
        below = omega arith;
      },
    )

pub events-preserved : goal.events-preserved
events-preserved g c =
    let laws = g.met.W.World in
    let kept = c.events.invariant.1 in
    let events = c.events.invariant.0 in
    let goes_on : g.E.Engine.machine.finished (g.E.Engine.state c.events.engine) ≡ false = (cc) in
    let one_more : c.args.draws.now.given + length events + 1 ≡ c.args.draws.now.given + length (events ++ c.next.new.inbox ∷ []) = rw length-append (omega arith) in (
      events ++ c.next.new.inbox ∷ [],
      record {
        so_far = more g.W.World.history laws.history_both g.E.Engine.machine _ _ events c.next.new.inbox c.next-words.result kept.so_far
            goes_on
            c.in-Event.ensures.warrant
            (laws.history_then _ _ _ _ _ (rw c.wake.ensures at c.in-Event.ensures.history) (laws.acted_history _ _ _ c.step.ensures.acted))
            (rw kept.drawn at c.next-words.ensures.words)
            c.step.ensures.state
            (rw c.step.ensures.state (g.met.E.Engine.counts _ _ _));
        drawn = rw kept.drawn at c.next-words.ensures.given ∙ ap (λ n. record { seed = c.args.draws.now.seed; given = n }) one_more;
        stays = laws.acted_faults _ _ _ c.step.ensures.acted ∙ c.in-Event.ensures.count ∙ kept.stays;
        below = omega (arith, kept.below, c.if-handled-limit.false);
      },
    )
