use Rattle.std.proofs.Common.{◌≡◌, ◌++◌, ◌∷◌, [], ◌<◌, ◌≤◌, ◌+◌, ◌-◌, ◌^◌, ◌≢◌, ℕ, List, length, min, true, false, true≢false, refl, sym, ap, subst, ◌∙◌, arith, length-append}
use Rattle.std.proofs.lemmas.List.{append-nil}
use Rattle.dc_model.specs.Draws.{draws_of}
use Rattle.dc_draws.specs.Drawn.{Drawn}
use Rattle.dc_event.specs.Causes.{counted, failed_behind}
use Rattle.dc_event.specs.History.{Exchange}
use Rattle.dc_event.specs.Told.{BeginsWith}
use Rattle.dc_engine.specs.Automaton.{state_after}
use Rattle.dc_serve.specs.Serve.{each_passes}
use Rattle.dc_serve.specs.declared.Served.TheVariants as served
use Rattle.dc_lookup.specs.Filter.{Filter}
use Rattle.dc_filter.specs.Sifter.{Sifter, sifter_machine}
use Rattle.dc_stub.specs.declared.status.ToolStatus.TheVariants as status
use Rattle.dc_stub.specs.Word.{further}
use Rattle.dc_sieve.proofs.SiftLemmas.{sifting_begins, settle_step, serve_step, sifted_done, sifted_on, sifted_part, long_is, not_by, waits_by, served_as, some_events, fits, fits_left}
use Rattle.dc_sieve.proofs.sifting.sift.Goals as goal

pub sifting-init : goal.sifting-init
sifting-init g c = record {
  so = sifting_begins g.S.Source.took g.S.Source.left g.K.Sink.gained g.W.World.history g.met.S.Source.took_both g.met.K.Sink.gained_both g.met.W.World.history_both c.args.source.now c.args.sink.now c.args.world.now (draws_of c.args.sieve.now.draws.seed) c.args.sieve.now.engine.room c.args.sieve.now.engine.servers c.args.sieve.now.engine c.args.sieve.now.input c.requires.engine c.requires.input (g.met.S.Source.took_none c.args.source.now) (g.met.K.Sink.gained_none c.args.sink.now) (g.met.W.World.history_none c.args.world.now);
  seed = refl;
  given = c.requires.draws ∙ sym (ap (λ (x : Sifter). x.handled) c.requires.engine);
  most = omega (arith, ap (λ (x : Sifter). x.handled) c.requires.engine);
  read_well = refl;
  put_well = refl;
  world_well = refl;
}

pub settle-requires-clause-within : goal.settle-requires-clause-within
settle-requires-clause-within g c = c.sifting.invariant.so.within

pub settle-requires-clause-few : goal.settle-requires-clause-few
settle-requires-clause-few g c = c.sifting.invariant.so.few

pub settle-requires-clause-end : goal.settle-requires-clause-end
settle-requires-clause-end g c = c.sifting.invariant.so.end

pub returns-in-ReadFault-clause-sifted : goal.returns-in-ReadFault-clause-sifted
returns-in-ReadFault-clause-sifted g c =
    let inv = c.sifting.invariant in
    let e = c.in-ReadFault.ensures in
    sifted_part g.S.Source.took g.S.Source.left g.K.Sink.gained g.W.World.history g.met.S.Source.took_both g.met.K.Sink.gained_both g.met.W.World.history_both c.args.source.now c.args.sink.now c.args.world.now (draws_of c.args.sieve.now.draws.seed) c.args.sieve.now.engine.room c.args.sieve.now.engine.servers g.W.World.used_up g.W.World.broken (min c.args.turns (2 ^ 60)) status.ReadFault c.sifting.sieve.engine c.sifting.sieve.input c.sifting.source c.settle.new.source c.sifting.sink c.settle.new.sink c.sifting.world e.settled.0 e.settled.1 c.settle.new.input inv.so
    e.settled.2 e.settled.3 e.settled.4 c.settle.ensures.end refl
    (λ tail m x is all. subst (λ (f : Filter). BeginsWith (inv.so.text ++ e.settled.1) f.written) (sym is) (e.settled.5 inv.so.text tail m))

pub returns-in-WriteFault-clause-sifted : goal.returns-in-WriteFault-clause-sifted
returns-in-WriteFault-clause-sifted g c =
    let inv = c.sifting.invariant in
    let e = c.in-WriteFault.ensures in
    sifted_part g.S.Source.took g.S.Source.left g.K.Sink.gained g.W.World.history g.met.S.Source.took_both g.met.K.Sink.gained_both g.met.W.World.history_both c.args.source.now c.args.sink.now c.args.world.now (draws_of c.args.sieve.now.draws.seed) c.args.sieve.now.engine.room c.args.sieve.now.engine.servers g.W.World.used_up g.W.World.broken (min c.args.turns (2 ^ 60)) status.WriteFault c.sifting.sieve.engine c.sifting.sieve.input c.sifting.source c.settle.new.source c.sifting.sink c.settle.new.sink c.sifting.world e.settled.0 e.settled.1 c.settle.new.input inv.so
    e.settled.2 e.settled.3 e.settled.4 c.settle.ensures.end refl
    (λ tail m x is all. subst (λ (f : Filter). BeginsWith (inv.so.text ++ e.settled.1) f.written) (sym is) (e.settled.5 inv.so.text tail m))

pub returns-in-LongLine-clause-sifted : goal.returns-in-LongLine-clause-sifted
returns-in-LongLine-clause-sifted g c =
    let inv = c.sifting.invariant in
    let e = c.in-LongLine.ensures in
    sifted_part g.S.Source.took g.S.Source.left g.K.Sink.gained g.W.World.history g.met.S.Source.took_both g.met.K.Sink.gained_both g.met.W.World.history_both c.args.source.now c.args.sink.now c.args.world.now (draws_of c.args.sieve.now.draws.seed) c.args.sieve.now.engine.room c.args.sieve.now.engine.servers g.W.World.used_up g.W.World.broken (min c.args.turns (2 ^ 60)) (status.LongLine c.in-LongLine.number) c.sifting.sieve.engine c.sifting.sieve.input c.sifting.source c.settle.new.source c.sifting.sink c.settle.new.sink c.sifting.world e.settled.0 e.settled.1 c.settle.new.input inv.so
    e.settled.2 e.settled.3 e.settled.4 c.settle.ensures.end refl
    (λ tail m x is all. (subst (λ (f : Filter). BeginsWith (inv.so.text ++ e.settled.1) f.written) (sym is) (e.settled.5.0 inv.so.text tail tt), long_is g.S.Source.took g.S.Source.left g.K.Sink.gained g.W.World.history g.met.S.Source.took_both g.met.K.Sink.gained_both g.met.W.World.history_both c.args.source.now c.args.sink.now c.args.world.now (draws_of c.args.sieve.now.draws.seed) c.args.sieve.now.engine.room c.args.sieve.now.engine.servers c.sifting.sieve.engine c.sifting.sieve.input inv.so.text (c.sifting.sieve.input.rest ++ e.settled.0) inv.so.past c.in-LongLine.number tail _ x inv.so.count inv.so.short is all (e.settled.5.1 tail)))

pub returns-in-ReadFault-clause-source : goal.returns-in-ReadFault-clause-source
returns-in-ReadFault-clause-source g c = failed_behind g.S.Source.took g.met.S.Source.took_both g.S.Source.refused g.S.Source.faults c.args.source.now c.sifting.source c.settle.new.source c.sifting.invariant.so.bytes c.sifting.invariant.so.taken c.sifting.invariant.read_well c.in-ReadFault.ensures.source

pub returns-in-ReadFault-clause-sink : goal.returns-in-ReadFault-clause-sink
returns-in-ReadFault-clause-sink g c = c.in-ReadFault.ensures.sink ∙ c.sifting.invariant.put_well

pub returns-in-ReadFault-clause-world : goal.returns-in-ReadFault-clause-world
returns-in-ReadFault-clause-world g c = c.sifting.invariant.world_well

pub returns-in-WriteFault-clause-source : goal.returns-in-WriteFault-clause-source
returns-in-WriteFault-clause-source g c = c.in-WriteFault.ensures.source ∙ c.sifting.invariant.read_well

pub returns-in-WriteFault-clause-sink : goal.returns-in-WriteFault-clause-sink
returns-in-WriteFault-clause-sink g c = failed_behind g.K.Sink.gained g.met.K.Sink.gained_both g.K.Sink.refused g.K.Sink.faults c.args.sink.now c.sifting.sink c.settle.new.sink c.sifting.invariant.so.text c.sifting.invariant.so.told c.sifting.invariant.put_well c.in-WriteFault.ensures.sink

pub returns-in-WriteFault-clause-world : goal.returns-in-WriteFault-clause-world
returns-in-WriteFault-clause-world g c = c.sifting.invariant.world_well

pub returns-in-LongLine-clause-source : goal.returns-in-LongLine-clause-source
returns-in-LongLine-clause-source g c = c.in-LongLine.ensures.source ∙ c.sifting.invariant.read_well

pub returns-in-LongLine-clause-sink : goal.returns-in-LongLine-clause-sink
returns-in-LongLine-clause-sink g c = c.in-LongLine.ensures.sink ∙ c.sifting.invariant.put_well

pub returns-in-LongLine-clause-world : goal.returns-in-LongLine-clause-world
returns-in-LongLine-clause-world g c = c.sifting.invariant.world_well

pub returns-then-finished-clause-sifted : goal.returns-then-finished-clause-sifted
returns-then-finished-clause-sifted g c =
    let inv = c.sifting.invariant in
    let e = c.in-Quiet.ensures in
    let q = settle_step g.S.Source.took g.S.Source.left g.K.Sink.gained g.W.World.history g.met.S.Source.took_both g.met.K.Sink.gained_both g.met.W.World.history_both c.args.source.now c.args.sink.now c.args.world.now (draws_of c.args.sieve.now.draws.seed) c.args.sieve.now.engine.room c.args.sieve.now.engine.servers c.sifting.sieve.engine c.sifting.sieve.input c.sifting.source c.settle.new.source c.sifting.sink c.settle.new.sink c.sifting.world e.settled.0 e.settled.1 c.settle.new.engine c.settle.new.input e.settled.5.0.0 inv.so e.settled.2 e.settled.3 e.settled.4 e.settled.5.0.1 e.settled.5.1 c.settle.ensures.few (λ x. (e.settled.5.4 x, c.settle.ensures.end x)) in
    sifted_done g.S.Source.took g.S.Source.left g.K.Sink.gained g.W.World.history g.met.S.Source.took_both g.met.K.Sink.gained_both g.met.W.World.history_both c.args.source.now c.args.sink.now c.args.world.now (draws_of c.args.sieve.now.draws.seed) c.args.sieve.now.engine.room c.args.sieve.now.engine.servers g.W.World.used_up g.W.World.broken (min c.args.turns (2 ^ 60)) c.settle.new.engine c.settle.new.input c.settle.new.source c.settle.new.sink c.sifting.world q e.settled.5.2 (not_by g.S.Source.took g.S.Source.left g.K.Sink.gained g.W.World.history g.met.S.Source.took_both g.met.K.Sink.gained_both g.met.W.World.history_both c.args.source.now c.args.sink.now c.args.world.now (draws_of c.args.sieve.now.draws.seed) c.args.sieve.now.engine.room c.args.sieve.now.engine.servers c.finished.result _ c.finished.ensures c.if-finished.true) e.settled.5.3 c.requires.room

pub returns-then-finished-clause-source : goal.returns-then-finished-clause-source
returns-then-finished-clause-source g c = c.in-Quiet.ensures.source ∙ c.sifting.invariant.read_well

pub returns-then-finished-clause-sink : goal.returns-then-finished-clause-sink
returns-then-finished-clause-sink g c = c.in-Quiet.ensures.sink ∙ c.sifting.invariant.put_well

pub returns-then-finished-clause-world : goal.returns-then-finished-clause-world
returns-then-finished-clause-world g c = c.sifting.invariant.world_well

pub overflow_sub-left : goal.overflow_sub-left
overflow_sub-left g c =
    let inv = c.sifting.invariant in
    let e = c.in-Quiet.ensures in
    let q = settle_step g.S.Source.took g.S.Source.left g.K.Sink.gained g.W.World.history g.met.S.Source.took_both g.met.K.Sink.gained_both g.met.W.World.history_both c.args.source.now c.args.sink.now c.args.world.now (draws_of c.args.sieve.now.draws.seed) c.args.sieve.now.engine.room c.args.sieve.now.engine.servers c.sifting.sieve.engine c.sifting.sieve.input c.sifting.source c.settle.new.source c.sifting.sink c.settle.new.sink c.sifting.world e.settled.0 e.settled.1 c.settle.new.engine c.settle.new.input e.settled.5.0.0 inv.so e.settled.2 e.settled.3 e.settled.4 e.settled.5.0.1 e.settled.5.1 c.settle.ensures.few (λ x. (e.settled.5.4 x, c.settle.ensures.end x)) in
    fits_left c.handled.result c.settle.new.engine.handled (length inv.so.events) c.sifting.sieve.engine.handled c.min-limit.result c.handled.ensures q.handled inv.so.handled inv.most

pub serve-requires-clause-events : goal.serve-requires-clause-events
serve-requires-clause-events g c =
    let inv = c.sifting.invariant in
    let e = c.in-Quiet.ensures in
    let q = settle_step g.S.Source.took g.S.Source.left g.K.Sink.gained g.W.World.history g.met.S.Source.took_both g.met.K.Sink.gained_both g.met.W.World.history_both c.args.source.now c.args.sink.now c.args.world.now (draws_of c.args.sieve.now.draws.seed) c.args.sieve.now.engine.room c.args.sieve.now.engine.servers c.sifting.sieve.engine c.sifting.sieve.input c.sifting.source c.settle.new.source c.sifting.sink c.settle.new.sink c.sifting.world e.settled.0 e.settled.1 c.settle.new.engine c.settle.new.input e.settled.5.0.0 inv.so e.settled.2 e.settled.3 e.settled.4 e.settled.5.0.1 e.settled.5.1 c.settle.ensures.few (λ x. (e.settled.5.4 x, c.settle.ensures.end x)) in
    fits c.settle.new.engine.handled c.handled.result c.settle.new.engine.handled (length inv.so.events) c.sifting.sieve.engine.handled c.min-limit.result c.args.turns (q.handled ∙ sym inv.so.handled) c.handled.ensures q.handled inv.so.handled inv.most c.min-limit.ensures

pub serve-requires-clause-words : goal.serve-requires-clause-words
serve-requires-clause-words g c =
    let inv = c.sifting.invariant in
    let e = c.in-Quiet.ensures in
    let q = settle_step g.S.Source.took g.S.Source.left g.K.Sink.gained g.W.World.history g.met.S.Source.took_both g.met.K.Sink.gained_both g.met.W.World.history_both c.args.source.now c.args.sink.now c.args.world.now (draws_of c.args.sieve.now.draws.seed) c.args.sieve.now.engine.room c.args.sieve.now.engine.servers c.sifting.sieve.engine c.sifting.sieve.input c.sifting.source c.settle.new.source c.sifting.sink c.settle.new.sink c.sifting.world e.settled.0 e.settled.1 c.settle.new.engine c.settle.new.input e.settled.5.0.0 inv.so e.settled.2 e.settled.3 e.settled.4 e.settled.5.0.1 e.settled.5.1 c.settle.ensures.few (λ x. (e.settled.5.4 x, c.settle.ensures.end x)) in
    fits c.sifting.sieve.draws.given c.handled.result c.settle.new.engine.handled (length inv.so.events) c.sifting.sieve.engine.handled c.min-limit.result c.args.turns inv.given c.handled.ensures q.handled inv.so.handled inv.most c.min-limit.ensures

pub sifting-smaller : goal.sifting-smaller
sifting-smaller g c =
    let inv = c.sifting.invariant in
    let e = c.in-Quiet.ensures in
    let q = settle_step g.S.Source.took g.S.Source.left g.K.Sink.gained g.W.World.history g.met.S.Source.took_both g.met.K.Sink.gained_both g.met.W.World.history_both c.args.source.now c.args.sink.now c.args.world.now (draws_of c.args.sieve.now.draws.seed) c.args.sieve.now.engine.room c.args.sieve.now.engine.servers c.sifting.sieve.engine c.sifting.sieve.input c.sifting.source c.settle.new.source c.sifting.sink c.settle.new.sink c.sifting.world e.settled.0 e.settled.1 c.settle.new.engine c.settle.new.input e.settled.5.0.0 inv.so e.settled.2 e.settled.3 e.settled.4 e.settled.5.0.1 e.settled.5.1 c.settle.ensures.few (λ x. (e.settled.5.4 x, c.settle.ensures.end x)) in
    let qh : c.settle.new.engine.handled ≡ length inv.so.events = q.handled in
    let run = c.in-Finished.ensures.run in
    let es = run.0 in
    let v = served_as g.S.Source.took g.S.Source.left g.K.Sink.gained g.W.World.history g.met.S.Source.took_both g.met.K.Sink.gained_both g.met.W.World.history_both c.args.source.now c.args.sink.now c.args.world.now (draws_of c.args.sieve.now.draws.seed) c.args.sieve.now.engine.room c.args.sieve.now.engine.servers (draws_of c.sifting.sieve.draws.seed) c.sifting.sieve.draws.given (length inv.so.events) c.settle.new.engine c.serve.new.engine (min (c.min-limit.result - c.handled.result) (2 ^ 60)) es served.Finished c.sifting.world c.serve.new.world (ap (λ (x : List ℕ). draws_of x) inv.seed) (inv.given ∙ inv.so.handled) run.1 run.2 in
    let some : 1 ≤ length es = some_events g.S.Source.took g.S.Source.left g.K.Sink.gained g.W.World.history g.met.S.Source.took_both g.met.K.Sink.gained_both g.met.W.World.history_both c.args.source.now c.args.sink.now c.args.world.now (draws_of c.args.sieve.now.draws.seed) c.args.sieve.now.engine.room c.args.sieve.now.engine.servers (length inv.so.events) c.settle.new.engine c.serve.new.engine es v.1.state v.1.ends.0 (sym c.finished.ensures ∙ c.if-finished.false) in
    let so = serve_step g.S.Source.took g.S.Source.left g.K.Sink.gained g.W.World.history g.met.S.Source.took_both g.met.K.Sink.gained_both g.met.W.World.history_both c.args.source.now c.args.sink.now c.args.world.now (draws_of c.args.sieve.now.draws.seed) c.args.sieve.now.engine.room c.args.sieve.now.engine.servers c.settle.new.engine c.settle.new.input c.settle.new.source c.settle.new.sink c.sifting.world c.serve.new.world es c.serve.new.engine q e.settled.5.2 v.1.bounded v.1.state v.1.went_on
    (subst (λ (x : List Exchange). g.W.World.history c.sifting.world x c.serve.new.world) (append-nil (each_passes sifter_machine (draws_of c.args.sieve.now.draws.seed) (length inv.so.events) c.settle.new.engine es)) v.0) in
    let sh : c.serve.new.engine.handled ≡ length (inv.so.events ++ es) = so.handled in
    omega (arith, some, v.1.ends.1, sh, qh, inv.so.handled, inv.most, c.handled.ensures, length-append inv.so.events es)

pub sifting-preserved : goal.sifting-preserved
sifting-preserved g c =
    let inv = c.sifting.invariant in
    let e = c.in-Quiet.ensures in
    let q = settle_step g.S.Source.took g.S.Source.left g.K.Sink.gained g.W.World.history g.met.S.Source.took_both g.met.K.Sink.gained_both g.met.W.World.history_both c.args.source.now c.args.sink.now c.args.world.now (draws_of c.args.sieve.now.draws.seed) c.args.sieve.now.engine.room c.args.sieve.now.engine.servers c.sifting.sieve.engine c.sifting.sieve.input c.sifting.source c.settle.new.source c.sifting.sink c.settle.new.sink c.sifting.world e.settled.0 e.settled.1 c.settle.new.engine c.settle.new.input e.settled.5.0.0 inv.so e.settled.2 e.settled.3 e.settled.4 e.settled.5.0.1 e.settled.5.1 c.settle.ensures.few (λ x. (e.settled.5.4 x, c.settle.ensures.end x)) in
    let qh : c.settle.new.engine.handled ≡ length inv.so.events = q.handled in
    let run = c.in-Finished.ensures.run in
    let es = run.0 in
    let v = served_as g.S.Source.took g.S.Source.left g.K.Sink.gained g.W.World.history g.met.S.Source.took_both g.met.K.Sink.gained_both g.met.W.World.history_both c.args.source.now c.args.sink.now c.args.world.now (draws_of c.args.sieve.now.draws.seed) c.args.sieve.now.engine.room c.args.sieve.now.engine.servers (draws_of c.sifting.sieve.draws.seed) c.sifting.sieve.draws.given (length inv.so.events) c.settle.new.engine c.serve.new.engine (min (c.min-limit.result - c.handled.result) (2 ^ 60)) es served.Finished c.sifting.world c.serve.new.world (ap (λ (x : List ℕ). draws_of x) inv.seed) (inv.given ∙ inv.so.handled) run.1 run.2 in
    let so = serve_step g.S.Source.took g.S.Source.left g.K.Sink.gained g.W.World.history g.met.S.Source.took_both g.met.K.Sink.gained_both g.met.W.World.history_both c.args.source.now c.args.sink.now c.args.world.now (draws_of c.args.sieve.now.draws.seed) c.args.sieve.now.engine.room c.args.sieve.now.engine.servers c.settle.new.engine c.settle.new.input c.settle.new.source c.settle.new.sink c.sifting.world c.serve.new.world es c.serve.new.engine q e.settled.5.2 v.1.bounded v.1.state v.1.went_on
    (subst (λ (x : List Exchange). g.W.World.history c.sifting.world x c.serve.new.world) (append-nil (each_passes sifter_machine (draws_of c.args.sieve.now.draws.seed) (length inv.so.events) c.settle.new.engine es)) v.0) in
    let sh : c.serve.new.engine.handled ≡ length (inv.so.events ++ es) = so.handled in
    let all = length-append inv.so.events es in
    record {
      so = so;
      seed = ap (λ (d : Drawn). d.seed) run.3 ∙ inv.seed;
      given = omega (arith, ap (λ (d : Drawn). d.given) run.3, inv.given, inv.so.handled, sh, all);
      most = omega (arith, v.1.ends.1, sh, qh, inv.so.handled, inv.most, c.handled.ensures, all);
      read_well = e.source ∙ inv.read_well;
      put_well = e.sink ∙ inv.put_well;
      world_well = c.in-Finished.ensures.count ∙ inv.world_well;
    }

pub returns-in-Spent-clause-sifted : goal.returns-in-Spent-clause-sifted
returns-in-Spent-clause-sifted g c =
    let inv = c.sifting.invariant in
    let e = c.in-Quiet.ensures in
    let q = settle_step g.S.Source.took g.S.Source.left g.K.Sink.gained g.W.World.history g.met.S.Source.took_both g.met.K.Sink.gained_both g.met.W.World.history_both c.args.source.now c.args.sink.now c.args.world.now (draws_of c.args.sieve.now.draws.seed) c.args.sieve.now.engine.room c.args.sieve.now.engine.servers c.sifting.sieve.engine c.sifting.sieve.input c.sifting.source c.settle.new.source c.sifting.sink c.settle.new.sink c.sifting.world e.settled.0 e.settled.1 c.settle.new.engine c.settle.new.input e.settled.5.0.0 inv.so e.settled.2 e.settled.3 e.settled.4 e.settled.5.0.1 e.settled.5.1 c.settle.ensures.few (λ x. (e.settled.5.4 x, c.settle.ensures.end x)) in
    let qh : c.settle.new.engine.handled ≡ length inv.so.events = q.handled in
    let run = c.in-Spent.ensures.run in
    let es = run.0 in
    let v = served_as g.S.Source.took g.S.Source.left g.K.Sink.gained g.W.World.history g.met.S.Source.took_both g.met.K.Sink.gained_both g.met.W.World.history_both c.args.source.now c.args.sink.now c.args.world.now (draws_of c.args.sieve.now.draws.seed) c.args.sieve.now.engine.room c.args.sieve.now.engine.servers (draws_of c.sifting.sieve.draws.seed) c.sifting.sieve.draws.given (length inv.so.events) c.settle.new.engine c.serve.new.engine (min (c.min-limit.result - c.handled.result) (2 ^ 60)) es served.Spent c.sifting.world c.serve.new.world (ap (λ (x : List ℕ). draws_of x) inv.seed) (inv.given ∙ inv.so.handled) run.1 run.2 in
    let counts = v.1.ends.1 in
    let all = length-append inv.so.events es in
    sifted_on g.S.Source.took g.S.Source.left g.K.Sink.gained g.W.World.history g.met.S.Source.took_both g.met.K.Sink.gained_both g.met.W.World.history_both c.args.source.now c.args.sink.now c.args.world.now (draws_of c.args.sieve.now.draws.seed) c.args.sieve.now.engine.room c.args.sieve.now.engine.servers g.W.World.used_up g.W.World.broken (min c.args.turns (2 ^ 60)) status.Spent c.settle.new.engine c.settle.new.input c.settle.new.source c.settle.new.sink c.sifting.world c.serve.new.world es c.serve.new.engine q e.settled.5.2 v.1.bounded v.1.state v.1.went_on
    (waits_by g.S.Source.took g.S.Source.left g.K.Sink.gained g.W.World.history g.met.S.Source.took_both g.met.K.Sink.gained_both g.met.W.World.history_both c.args.source.now c.args.sink.now c.args.world.now (draws_of c.args.sieve.now.draws.seed) c.args.sieve.now.engine.room c.args.sieve.now.engine.servers _ _ refl v.1.ends.0)
    (subst (λ (x : Sifter). g.W.World.history c.sifting.world (each_passes sifter_machine (draws_of c.args.sieve.now.draws.seed) (length inv.so.events) c.settle.new.engine es ++ further status.Spent (sifter_machine.wake x)) c.serve.new.world) (sym v.1.state) v.0)
    (λ lines x a b r. (a, b, r, omega (arith, counts, all, qh, inv.so.handled, inv.most, c.handled.ensures, c.min-limit.ensures)))

pub returns-in-Spent-clause-source : goal.returns-in-Spent-clause-source
returns-in-Spent-clause-source g c = c.in-Quiet.ensures.source ∙ c.sifting.invariant.read_well

pub returns-in-Spent-clause-sink : goal.returns-in-Spent-clause-sink
returns-in-Spent-clause-sink g c = c.in-Quiet.ensures.sink ∙ c.sifting.invariant.put_well

pub returns-in-Spent-clause-world : goal.returns-in-Spent-clause-world
returns-in-Spent-clause-world g c = c.in-Spent.ensures.count ∙ c.sifting.invariant.world_well

pub returns-in-Ended-clause-sifted : goal.returns-in-Ended-clause-sifted
returns-in-Ended-clause-sifted g c =
    let inv = c.sifting.invariant in
    let e = c.in-Quiet.ensures in
    let q = settle_step g.S.Source.took g.S.Source.left g.K.Sink.gained g.W.World.history g.met.S.Source.took_both g.met.K.Sink.gained_both g.met.W.World.history_both c.args.source.now c.args.sink.now c.args.world.now (draws_of c.args.sieve.now.draws.seed) c.args.sieve.now.engine.room c.args.sieve.now.engine.servers c.sifting.sieve.engine c.sifting.sieve.input c.sifting.source c.settle.new.source c.sifting.sink c.settle.new.sink c.sifting.world e.settled.0 e.settled.1 c.settle.new.engine c.settle.new.input e.settled.5.0.0 inv.so e.settled.2 e.settled.3 e.settled.4 e.settled.5.0.1 e.settled.5.1 c.settle.ensures.few (λ x. (e.settled.5.4 x, c.settle.ensures.end x)) in
    let qh : c.settle.new.engine.handled ≡ length inv.so.events = q.handled in
    let run = c.in-Ended.ensures.run in
    let es = run.0 in
    let v = served_as g.S.Source.took g.S.Source.left g.K.Sink.gained g.W.World.history g.met.S.Source.took_both g.met.K.Sink.gained_both g.met.W.World.history_both c.args.source.now c.args.sink.now c.args.world.now (draws_of c.args.sieve.now.draws.seed) c.args.sieve.now.engine.room c.args.sieve.now.engine.servers (draws_of c.sifting.sieve.draws.seed) c.sifting.sieve.draws.given (length inv.so.events) c.settle.new.engine c.serve.new.engine (min (c.min-limit.result - c.handled.result) (2 ^ 60)) es served.Ended c.sifting.world c.serve.new.world (ap (λ (x : List ℕ). draws_of x) inv.seed) (inv.given ∙ inv.so.handled) run.1 run.2 in
    let counts = v.1.ends.1 in
    let all = length-append inv.so.events es in
    sifted_on g.S.Source.took g.S.Source.left g.K.Sink.gained g.W.World.history g.met.S.Source.took_both g.met.K.Sink.gained_both g.met.W.World.history_both c.args.source.now c.args.sink.now c.args.world.now (draws_of c.args.sieve.now.draws.seed) c.args.sieve.now.engine.room c.args.sieve.now.engine.servers g.W.World.used_up g.W.World.broken (min c.args.turns (2 ^ 60)) status.Ended c.settle.new.engine c.settle.new.input c.settle.new.source c.settle.new.sink c.sifting.world c.serve.new.world es c.serve.new.engine q e.settled.5.2 v.1.bounded v.1.state v.1.went_on
    (waits_by g.S.Source.took g.S.Source.left g.K.Sink.gained g.W.World.history g.met.S.Source.took_both g.met.K.Sink.gained_both g.met.W.World.history_both c.args.source.now c.args.sink.now c.args.world.now (draws_of c.args.sieve.now.draws.seed) c.args.sieve.now.engine.room c.args.sieve.now.engine.servers _ _ refl v.1.ends.0)
    (subst (λ (x : Sifter). g.W.World.history c.sifting.world (each_passes sifter_machine (draws_of c.args.sieve.now.draws.seed) (length inv.so.events) c.settle.new.engine es ++ further status.Ended (sifter_machine.wake x)) c.serve.new.world) (sym v.1.state) v.0)
    (λ lines x a b r. (a, b, r, omega (arith, counts, all, qh, inv.so.handled, inv.most, c.handled.ensures, c.min-limit.ensures), c.in-Ended.ensures.justified))

pub returns-in-Ended-clause-source : goal.returns-in-Ended-clause-source
returns-in-Ended-clause-source g c = c.in-Quiet.ensures.source ∙ c.sifting.invariant.read_well

pub returns-in-Ended-clause-sink : goal.returns-in-Ended-clause-sink
returns-in-Ended-clause-sink g c = c.in-Quiet.ensures.sink ∙ c.sifting.invariant.put_well

pub returns-in-Ended-clause-world : goal.returns-in-Ended-clause-world
returns-in-Ended-clause-world g c = c.in-Ended.ensures.count ∙ c.sifting.invariant.world_well

pub returns-in-Failed-clause-sifted : goal.returns-in-Failed-clause-sifted
returns-in-Failed-clause-sifted g c =
    let inv = c.sifting.invariant in
    let e = c.in-Quiet.ensures in
    let q = settle_step g.S.Source.took g.S.Source.left g.K.Sink.gained g.W.World.history g.met.S.Source.took_both g.met.K.Sink.gained_both g.met.W.World.history_both c.args.source.now c.args.sink.now c.args.world.now (draws_of c.args.sieve.now.draws.seed) c.args.sieve.now.engine.room c.args.sieve.now.engine.servers c.sifting.sieve.engine c.sifting.sieve.input c.sifting.source c.settle.new.source c.sifting.sink c.settle.new.sink c.sifting.world e.settled.0 e.settled.1 c.settle.new.engine c.settle.new.input e.settled.5.0.0 inv.so e.settled.2 e.settled.3 e.settled.4 e.settled.5.0.1 e.settled.5.1 c.settle.ensures.few (λ x. (e.settled.5.4 x, c.settle.ensures.end x)) in
    let qh : c.settle.new.engine.handled ≡ length inv.so.events = q.handled in
    let run = c.in-Failed.ensures.run in
    let es = run.0 in
    let v = served_as g.S.Source.took g.S.Source.left g.K.Sink.gained g.W.World.history g.met.S.Source.took_both g.met.K.Sink.gained_both g.met.W.World.history_both c.args.source.now c.args.sink.now c.args.world.now (draws_of c.args.sieve.now.draws.seed) c.args.sieve.now.engine.room c.args.sieve.now.engine.servers (draws_of c.sifting.sieve.draws.seed) c.sifting.sieve.draws.given (length inv.so.events) c.settle.new.engine c.serve.new.engine (min (c.min-limit.result - c.handled.result) (2 ^ 60)) es served.Failed c.sifting.world c.serve.new.world (ap (λ (x : List ℕ). draws_of x) inv.seed) (inv.given ∙ inv.so.handled) run.1 run.2 in
    let counts = v.1.ends.1 in
    let all = length-append inv.so.events es in
    sifted_on g.S.Source.took g.S.Source.left g.K.Sink.gained g.W.World.history g.met.S.Source.took_both g.met.K.Sink.gained_both g.met.W.World.history_both c.args.source.now c.args.sink.now c.args.world.now (draws_of c.args.sieve.now.draws.seed) c.args.sieve.now.engine.room c.args.sieve.now.engine.servers g.W.World.used_up g.W.World.broken (min c.args.turns (2 ^ 60)) status.WorldFault c.settle.new.engine c.settle.new.input c.settle.new.source c.settle.new.sink c.sifting.world c.serve.new.world es c.serve.new.engine q e.settled.5.2 v.1.bounded v.1.state v.1.went_on
    (waits_by g.S.Source.took g.S.Source.left g.K.Sink.gained g.W.World.history g.met.S.Source.took_both g.met.K.Sink.gained_both g.met.W.World.history_both c.args.source.now c.args.sink.now c.args.world.now (draws_of c.args.sieve.now.draws.seed) c.args.sieve.now.engine.room c.args.sieve.now.engine.servers _ _ refl v.1.ends.0)
    (subst (λ (x : Sifter). g.W.World.history c.sifting.world (each_passes sifter_machine (draws_of c.args.sieve.now.draws.seed) (length inv.so.events) c.settle.new.engine es ++ further status.WorldFault (sifter_machine.wake x)) c.serve.new.world) (sym v.1.state) v.0)
    (λ lines x a b r. (a, b, r, omega (arith, counts, all, qh, inv.so.handled, inv.most, c.handled.ensures, c.min-limit.ensures)))

pub returns-in-Failed-clause-source : goal.returns-in-Failed-clause-source
returns-in-Failed-clause-source g c = c.in-Quiet.ensures.source ∙ c.sifting.invariant.read_well

pub returns-in-Failed-clause-sink : goal.returns-in-Failed-clause-sink
returns-in-Failed-clause-sink g c = c.in-Quiet.ensures.sink ∙ c.sifting.invariant.put_well

pub returns-in-Failed-clause-world : goal.returns-in-Failed-clause-world
returns-in-Failed-clause-world g c = c.in-Failed.ensures.count ∙ ap counted c.sifting.invariant.world_well

pub returns-in-Bad-clause-sifted : goal.returns-in-Bad-clause-sifted
returns-in-Bad-clause-sifted g c =
    let inv = c.sifting.invariant in
    let e = c.in-Quiet.ensures in
    let q = settle_step g.S.Source.took g.S.Source.left g.K.Sink.gained g.W.World.history g.met.S.Source.took_both g.met.K.Sink.gained_both g.met.W.World.history_both c.args.source.now c.args.sink.now c.args.world.now (draws_of c.args.sieve.now.draws.seed) c.args.sieve.now.engine.room c.args.sieve.now.engine.servers c.sifting.sieve.engine c.sifting.sieve.input c.sifting.source c.settle.new.source c.sifting.sink c.settle.new.sink c.sifting.world e.settled.0 e.settled.1 c.settle.new.engine c.settle.new.input e.settled.5.0.0 inv.so e.settled.2 e.settled.3 e.settled.4 e.settled.5.0.1 e.settled.5.1 c.settle.ensures.few (λ x. (e.settled.5.4 x, c.settle.ensures.end x)) in
    let qh : c.settle.new.engine.handled ≡ length inv.so.events = q.handled in
    let run = c.in-Bad.ensures.run in
    let es = run.0 in
    let v = served_as g.S.Source.took g.S.Source.left g.K.Sink.gained g.W.World.history g.met.S.Source.took_both g.met.K.Sink.gained_both g.met.W.World.history_both c.args.source.now c.args.sink.now c.args.world.now (draws_of c.args.sieve.now.draws.seed) c.args.sieve.now.engine.room c.args.sieve.now.engine.servers (draws_of c.sifting.sieve.draws.seed) c.sifting.sieve.draws.given (length inv.so.events) c.settle.new.engine c.serve.new.engine (min (c.min-limit.result - c.handled.result) (2 ^ 60)) es (served.Bad c.in-Bad.line) c.sifting.world c.serve.new.world (ap (λ (x : List ℕ). draws_of x) inv.seed) (inv.given ∙ inv.so.handled) run.1 run.2 in
    let counts = v.1.ends.1 in
    let all = length-append inv.so.events es in
    sifted_on g.S.Source.took g.S.Source.left g.K.Sink.gained g.W.World.history g.met.S.Source.took_both g.met.K.Sink.gained_both g.met.W.World.history_both c.args.source.now c.args.sink.now c.args.world.now (draws_of c.args.sieve.now.draws.seed) c.args.sieve.now.engine.room c.args.sieve.now.engine.servers g.W.World.used_up g.W.World.broken (min c.args.turns (2 ^ 60)) (status.BadScript c.in-Bad.line) c.settle.new.engine c.settle.new.input c.settle.new.source c.settle.new.sink c.sifting.world c.serve.new.world es c.serve.new.engine q e.settled.5.2 v.1.bounded v.1.state v.1.went_on
    (waits_by g.S.Source.took g.S.Source.left g.K.Sink.gained g.W.World.history g.met.S.Source.took_both g.met.K.Sink.gained_both g.met.W.World.history_both c.args.source.now c.args.sink.now c.args.world.now (draws_of c.args.sieve.now.draws.seed) c.args.sieve.now.engine.room c.args.sieve.now.engine.servers _ _ refl v.1.ends.0)
    (subst (λ (x : Sifter). g.W.World.history c.sifting.world (each_passes sifter_machine (draws_of c.args.sieve.now.draws.seed) (length inv.so.events) c.settle.new.engine es ++ further (status.BadScript c.in-Bad.line) (sifter_machine.wake x)) c.serve.new.world) (sym v.1.state) v.0)
    (λ lines x a b r. (a, b, r, omega (arith, counts, all, qh, inv.so.handled, inv.most, c.handled.ensures, c.min-limit.ensures), c.in-Bad.ensures.justified))

pub returns-in-Bad-clause-source : goal.returns-in-Bad-clause-source
returns-in-Bad-clause-source g c = c.in-Quiet.ensures.source ∙ c.sifting.invariant.read_well

pub returns-in-Bad-clause-sink : goal.returns-in-Bad-clause-sink
returns-in-Bad-clause-sink g c = c.in-Quiet.ensures.sink ∙ c.sifting.invariant.put_well

pub returns-in-Bad-clause-world : goal.returns-in-Bad-clause-world
returns-in-Bad-clause-world g c = c.in-Bad.ensures.count ∙ c.sifting.invariant.world_well
