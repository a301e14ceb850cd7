use Rattle.std.proofs.Common.{◌≡◌, ℕ, ◌+◌, ◌-◌, [], length, subst, arith}
use Rattle.dc_model.specs.Draws.{draws_of}
use Rattle.dc_serve.specs.Serve.{Ran}
use Rattle.dc_serve.specs.declared.Served.{Served}
use Rattle.dc_stub.specs.Stub.{stub_machine}
use Rattle.dc_stub.proofs.WordLemmas.{ran_within, none_drawn, none_left, counted, Served_so, worded_over, worded_spent, worded_ended, worded_failed, worded_bad, worded_none}
use Rattle.dc_stub.proofs.word.ask_word.Goals as goal

pub returns-in_default-clause-run : goal.returns-in_default-clause-run
returns-in_default-clause-run g c =
    let session = c.args.session.now in (
      [],
      (
        worded_none g.W.World.history g.W.World.used_up g.W.World.broken g.K.Sink.gained c.args.world.now c.args.world.now c.args.sink.now c.args.sink.now
            g.T.Shows.tool c.args.servers.now c.args.name.now c.args.kind (draws_of session.draws.seed) session.draws.given session.left
            (g.met.W.World.history_none c.args.world.now) (g.met.K.Sink.gained_none c.args.sink.now),
        (none_drawn session.draws, none_left session.left),
      ),
    )

pub overflow_sub-session : goal.overflow_sub-session
overflow_sub-session g c =
    let session = c.args.session.now in
    let run = c.ask-served.ensures.run in
    let ran = ran_within (draws_of session.draws.seed) session.draws.given session.draws.given session.left c.in-Ok.stub c.ask-served.new.stub run.0 c.ask-served.result c.requires.left run.2 in
    let count = counted (draws_of session.draws.seed) session.draws.given session.left c.ask-served.result c.in-Ok.stub c.ask-served.new.stub c.args.name.now run.0 c.args.servers.now c.args.kind c.in-Ok.ensures ran in
    omega (arith, c.handled.ensures, count.0, count.1)

pub returns-in-Finished-clause-run : goal.returns-in-Finished-clause-run
returns-in-Finished-clause-run g c =
    let w = g.W.World in
    let session = c.args.session.now in
    let drawn = draws_of session.draws.seed in
    let run = c.ask-served.ensures.run in
    let ran = ran_within drawn session.draws.given session.draws.given session.left c.in-Ok.stub c.ask-served.new.stub run.0 c.ask-served.result c.requires.left run.2 in
    let count = counted drawn session.draws.given session.left c.ask-served.result c.in-Ok.stub c.ask-served.new.stub c.args.name.now run.0 c.args.servers.now c.args.kind c.in-Ok.ensures ran in
    let serves : Served_so w.history w.used_up w.broken g.K.Sink.gained c.args.world.now c.ask-served.new.world c.args.sink.now c.conclude.new.sink
    g.T.Shows.tool c.args.servers.now c.args.name.now c.args.kind drawn session.draws.given session.left c.ask-served.result run.0 c.in-Ok.stub c.ask-served.new.stub = (run.1, ran) in
    let is = subst (λ (x : Served). Served_so w.history w.used_up w.broken g.K.Sink.gained c.args.world.now c.ask-served.new.world c.args.sink.now c.conclude.new.sink
    g.T.Shows.tool c.args.servers.now c.args.name.now c.args.kind drawn session.draws.given session.left x run.0 c.in-Ok.stub c.ask-served.new.stub) c.in-Finished.is serves in
    let left : session.left - c.handled.result + length run.0 ≡ session.left = omega (arith, c.handled.ensures, count.0, count.1) in (
      run.0,
      (
        worded_over w.history w.used_up w.broken g.K.Sink.gained c.args.world.now c.ask-served.new.world c.args.sink.now c.conclude.new.sink
            g.T.Shows.tool c.args.servers.now c.args.name.now c.args.kind drawn session.draws.given session.left c.conclude.result c.conclude.ensures.told.0 run.0 c.in-Ok.stub c.ask-served.new.stub c.in-Ok.ensures is c.conclude.ensures.told.1 c.conclude.ensures.told.2,
        (run.3, left),
      ),
    )

pub returns-in-Spent-clause-run : goal.returns-in-Spent-clause-run
returns-in-Spent-clause-run g c =
    let w = g.W.World in
    let session = c.args.session.now in
    let drawn = draws_of session.draws.seed in
    let run = c.ask-served.ensures.run in
    let ran = ran_within drawn session.draws.given session.draws.given session.left c.in-Ok.stub c.ask-served.new.stub run.0 c.ask-served.result c.requires.left run.2 in
    let count = counted drawn session.draws.given session.left c.ask-served.result c.in-Ok.stub c.ask-served.new.stub c.args.name.now run.0 c.args.servers.now c.args.kind c.in-Ok.ensures ran in
    let serves : Served_so w.history w.used_up w.broken g.K.Sink.gained c.args.world.now c.ask-served.new.world c.args.sink.now c.args.sink.now
    g.T.Shows.tool c.args.servers.now c.args.name.now c.args.kind drawn session.draws.given session.left c.ask-served.result run.0 c.in-Ok.stub c.ask-served.new.stub = (run.1, ran) in
    let is = subst (λ (x : Served). Served_so w.history w.used_up w.broken g.K.Sink.gained c.args.world.now c.ask-served.new.world c.args.sink.now c.args.sink.now
    g.T.Shows.tool c.args.servers.now c.args.name.now c.args.kind drawn session.draws.given session.left x run.0 c.in-Ok.stub c.ask-served.new.stub) c.in-Spent.is serves in
    let left : session.left - c.handled.result + length run.0 ≡ session.left = omega (arith, c.handled.ensures, count.0, count.1) in (
      run.0,
      (
        worded_spent w.history w.used_up w.broken g.K.Sink.gained c.args.world.now c.ask-served.new.world c.args.sink.now c.args.sink.now
            g.T.Shows.tool c.args.servers.now c.args.name.now c.args.kind drawn session.draws.given session.left run.0 c.in-Ok.stub c.ask-served.new.stub c.in-Ok.ensures is (g.met.K.Sink.gained_none c.args.sink.now),
        (run.3, left),
      ),
    )

pub returns-in-Ended-clause-run : goal.returns-in-Ended-clause-run
returns-in-Ended-clause-run g c =
    let w = g.W.World in
    let session = c.args.session.now in
    let drawn = draws_of session.draws.seed in
    let run = c.ask-served.ensures.run in
    let ran = ran_within drawn session.draws.given session.draws.given session.left c.in-Ok.stub c.ask-served.new.stub run.0 c.ask-served.result c.requires.left run.2 in
    let count = counted drawn session.draws.given session.left c.ask-served.result c.in-Ok.stub c.ask-served.new.stub c.args.name.now run.0 c.args.servers.now c.args.kind c.in-Ok.ensures ran in
    let serves : Served_so w.history w.used_up w.broken g.K.Sink.gained c.args.world.now c.ask-served.new.world c.args.sink.now c.args.sink.now
    g.T.Shows.tool c.args.servers.now c.args.name.now c.args.kind drawn session.draws.given session.left c.ask-served.result run.0 c.in-Ok.stub c.ask-served.new.stub = (run.1, ran) in
    let is = subst (λ (x : Served). Served_so w.history w.used_up w.broken g.K.Sink.gained c.args.world.now c.ask-served.new.world c.args.sink.now c.args.sink.now
    g.T.Shows.tool c.args.servers.now c.args.name.now c.args.kind drawn session.draws.given session.left x run.0 c.in-Ok.stub c.ask-served.new.stub) c.in-Ended.is serves in
    let left : session.left - c.handled.result + length run.0 ≡ session.left = omega (arith, c.handled.ensures, count.0, count.1) in (
      run.0,
      (
        worded_ended w.history w.used_up w.broken g.K.Sink.gained c.args.world.now c.ask-served.new.world c.args.sink.now c.args.sink.now
            g.T.Shows.tool c.args.servers.now c.args.name.now c.args.kind drawn session.draws.given session.left run.0 c.in-Ok.stub c.ask-served.new.stub c.in-Ok.ensures is (g.met.K.Sink.gained_none c.args.sink.now) c.in-Ended.ensures.justified,
        (run.3, left),
      ),
    )

pub returns-in-Failed-clause-run : goal.returns-in-Failed-clause-run
returns-in-Failed-clause-run g c =
    let w = g.W.World in
    let session = c.args.session.now in
    let drawn = draws_of session.draws.seed in
    let run = c.ask-served.ensures.run in
    let ran = ran_within drawn session.draws.given session.draws.given session.left c.in-Ok.stub c.ask-served.new.stub run.0 c.ask-served.result c.requires.left run.2 in
    let count = counted drawn session.draws.given session.left c.ask-served.result c.in-Ok.stub c.ask-served.new.stub c.args.name.now run.0 c.args.servers.now c.args.kind c.in-Ok.ensures ran in
    let serves : Served_so w.history w.used_up w.broken g.K.Sink.gained c.args.world.now c.ask-served.new.world c.args.sink.now c.args.sink.now
    g.T.Shows.tool c.args.servers.now c.args.name.now c.args.kind drawn session.draws.given session.left c.ask-served.result run.0 c.in-Ok.stub c.ask-served.new.stub = (run.1, ran) in
    let is = subst (λ (x : Served). Served_so w.history w.used_up w.broken g.K.Sink.gained c.args.world.now c.ask-served.new.world c.args.sink.now c.args.sink.now
    g.T.Shows.tool c.args.servers.now c.args.name.now c.args.kind drawn session.draws.given session.left x run.0 c.in-Ok.stub c.ask-served.new.stub) c.in-Failed.is serves in
    let left : session.left - c.handled.result + length run.0 ≡ session.left = omega (arith, c.handled.ensures, count.0, count.1) in (
      run.0,
      (
        worded_failed w.history w.used_up w.broken g.K.Sink.gained c.args.world.now c.ask-served.new.world c.args.sink.now c.args.sink.now
            g.T.Shows.tool c.args.servers.now c.args.name.now c.args.kind drawn session.draws.given session.left run.0 c.in-Ok.stub c.ask-served.new.stub c.in-Ok.ensures is (g.met.K.Sink.gained_none c.args.sink.now),
        (run.3, left),
      ),
    )

pub returns-clause-run : goal.returns-clause-run
returns-clause-run g c =
    let w = g.W.World in
    let session = c.args.session.now in
    let drawn = draws_of session.draws.seed in
    let run = c.ask-served.ensures.run in
    let ran = ran_within drawn session.draws.given session.draws.given session.left c.in-Ok.stub c.ask-served.new.stub run.0 c.ask-served.result c.requires.left run.2 in
    let count = counted drawn session.draws.given session.left c.ask-served.result c.in-Ok.stub c.ask-served.new.stub c.args.name.now run.0 c.args.servers.now c.args.kind c.in-Ok.ensures ran in
    let serves : Served_so w.history w.used_up w.broken g.K.Sink.gained c.args.world.now c.ask-served.new.world c.args.sink.now c.args.sink.now
    g.T.Shows.tool c.args.servers.now c.args.name.now c.args.kind drawn session.draws.given session.left c.ask-served.result run.0 c.in-Ok.stub c.ask-served.new.stub = (run.1, ran) in
    let is = subst (λ (x : Served). Served_so w.history w.used_up w.broken g.K.Sink.gained c.args.world.now c.ask-served.new.world c.args.sink.now c.args.sink.now
    g.T.Shows.tool c.args.servers.now c.args.name.now c.args.kind drawn session.draws.given session.left x run.0 c.in-Ok.stub c.ask-served.new.stub) c.in-Bad.is serves in
    let left : session.left - c.handled.result + length run.0 ≡ session.left = omega (arith, c.handled.ensures, count.0, count.1) in (
      run.0,
      (
        worded_bad w.history w.used_up w.broken g.K.Sink.gained c.args.world.now c.ask-served.new.world c.args.sink.now c.args.sink.now
            g.T.Shows.tool c.args.servers.now c.args.name.now c.args.kind drawn session.draws.given session.left c.in-Bad.line run.0 c.in-Ok.stub c.ask-served.new.stub c.in-Ok.ensures is (g.met.K.Sink.gained_none c.args.sink.now) c.in-Bad.ensures.justified,
        (run.3, left),
      ),
    )
