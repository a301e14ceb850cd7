use Rattle.std.proofs.Common.{◌≡◌, ◌≢◌, ℕ, ◌+◌, ◌++◌, List, map, drop, refl, ap, ◌∙◌, arith}
use Rattle.dc_event.specs.Causes.{failed_behind, fares_behind}
use Rattle.dc_draws.specs.Drawn.{Drawn}
use Rattle.dc_model.specs.Draws.{draws_of}
use Rattle.dc_stub.specs.Word.{own_text}
use Rattle.dc_stub.specs.Look.{job_of}
use Rattle.dc_stub.specs.declared.look.Job.TheVariants.{Says, Asks}
use Rattle.dc_stub.specs.declared.status.ToolStatus.{ToolStatus}
use Rattle.dc_stub.specs.declared.status.ToolStatus.TheVariants.{Done, WorldFault}
use Rattle.dc_stub.specs.Faults.{output_well}
use Rattle.dc_stub.proofs.FaringLemmas.{done_fares}
use Rattle.dc_stub.proofs.PassLemmas.{nothing_yet, said_at, front_at, asked_at, ends_at, rest_is}
use Rattle.dc_stub.proofs.look.look_up.Goals as goal

-- Done is no fault.

done_is_not : (x : ToolStatus) → x ≡ Done → x ≢ WorldFault
done_is_not x h w = cc

pub jobs-init : goal.jobs-init
jobs-init g c =
    let laws = g.met.W.World in
    let given = c.requires.fresh in (
      nothing_yet _ _ _ _ _ _ _ _ _ _ _ _ _ (map job_of c.args.jobs.now) refl (laws.history_none c.args.world.now) (g.met.K.Sink.gained_none c.args.sink.now),
      refl,
      omega (arith, given),
      refl,
      refl,
    )

pub jobs-preserved-in-Taken : goal.jobs-preserved-in-Taken
jobs-preserved-in-Taken g c =
    let all = rest_is c.args.jobs.now c.jobs.at c.index-jobs-at.result (Says c.in-Says.addr) c.jobs-test.true c.index-jobs-at.is c.in-Says.is in
    let so = c.jobs.invariant in (
      said_at _ _ _ _ _ _ _ _ _ _ _ _ _ (own_text c.in-Says.addr) (map job_of (drop c.jobs.at c.args.jobs.now)) (map job_of (drop (c.jobs.at + 1) c.args.jobs.now)) c.jobs.session.left c.jobs.world c.jobs.sink c.say.new.sink all so.0
          c.in-Taken.ensures.whole,
      so.1,
      so.2,
      c.in-Taken.ensures.fares ∙ so.3,
      so.4,
    )

pub returns-in-Failed-clause-looked : goal.returns-in-Failed-clause-looked
returns-in-Failed-clause-looked g c =
    let all = rest_is c.args.jobs.now c.jobs.at c.index-jobs-at.result (Says c.in-Says.addr) c.jobs-test.true c.index-jobs-at.is c.in-Says.is in
    let so = c.jobs.invariant in
    front_at _ _ _ _ _ _ _ _ _ _ _ _ _ (own_text c.in-Says.addr) (map job_of (drop c.jobs.at c.args.jobs.now)) (map job_of (drop (c.jobs.at + 1) c.args.jobs.now)) c.jobs.session.left c.jobs.world c.jobs.sink c.say.new.sink all so.0
    c.in-Failed.ensures.whole

pub returns-else-is_done-clause-looked : goal.returns-else-is_done-clause-looked
returns-else-is_done-clause-looked g c =
    let all = rest_is c.args.jobs.now c.jobs.at c.index-jobs-at.result (Asks c.in-Asks.name c.in-Asks.kind) c.jobs-test.true c.index-jobs-at.is c.in-Asks.is in
    let so = c.jobs.invariant in
    let run = c.ask_word-status.ensures.run in
    ends_at _ _ _ _ _ _ _ _ _ _ _ _ _ c.in-Asks.name c.in-Asks.kind (map job_of (drop c.jobs.at c.args.jobs.now)) (map job_of (drop (c.jobs.at + 1) c.args.jobs.now)) c.jobs.session.left
    c.jobs.world c.ask_word-status.new.world c.jobs.sink c.ask_word-status.new.sink c.ask_word-status.result run.0 (draws_of c.jobs.session.draws.seed) c.jobs.session.draws.given
    all so.0 (ap (λ (x : List ℕ). draws_of x) so.1) so.2 run.1.0 (c.is_done.ensures.other c.if-is_done.false)

pub jobs-preserved : goal.jobs-preserved
jobs-preserved g c =
    let all = rest_is c.args.jobs.now c.jobs.at c.index-jobs-at.result (Asks c.in-Asks.name c.in-Asks.kind) c.jobs-test.true c.index-jobs-at.is c.in-Asks.is in
    let so = c.jobs.invariant in
    let run = c.ask_word-status.ensures.run in (
      asked_at _ _ _ _ _ _ _ _ _ _ _ _ _ c.in-Asks.name c.in-Asks.kind (map job_of (drop c.jobs.at c.args.jobs.now)) (map job_of (drop (c.jobs.at + 1) c.args.jobs.now)) c.jobs.session.left c.ask_word-status.new.session.left
          c.jobs.world c.ask_word-status.new.world c.jobs.sink c.ask_word-status.new.sink c.ask_word-status.result run.0 (draws_of c.jobs.session.draws.seed) c.jobs.session.draws.given
          all so.0 (ap (λ (x : List ℕ). draws_of x) so.1) so.2 run.1.0 (c.is_done.ensures.done c.if-is_done.true) run.1.1.1,
      ap (λ (d : Drawn). d.seed) run.1.1.0 ∙ so.1,
      omega (arith, so.2, ap (λ (d : Drawn). d.given) run.1.1.0, run.1.1.1),
      done_fares g.K.Sink.gained g.K.Sink.refused g.K.Sink.faults c.ask_word-status.result _ _ (c.is_done.ensures.done c.if-is_done.true) c.ask_word-status.ensures.sink_fares ∙ so.3,
      c.ask_word-status.ensures.world_stays (done_is_not c.ask_word-status.result (c.is_done.ensures.done c.if-is_done.true)) ∙ so.4,
    )

pub returns-in-Failed-clause-sink_fares : goal.returns-in-Failed-clause-sink_fares
returns-in-Failed-clause-sink_fares g c =
    let so = c.jobs.invariant in
    failed_behind g.K.Sink.gained g.met.K.Sink.gained_both g.K.Sink.refused g.K.Sink.faults c.args.sink.now c.jobs.sink c.say.new.sink (so.0.told ++ so.0.said) so.0.put so.3 c.in-Failed.ensures.fares

pub returns-else-is_done-clause-sink_fares : goal.returns-else-is_done-clause-sink_fares
returns-else-is_done-clause-sink_fares g c =
    let so = c.jobs.invariant in
    fares_behind g.K.Sink.gained g.met.K.Sink.gained_both g.K.Sink.refused g.K.Sink.faults (output_well c.ask_word-status.result) c.args.sink.now c.jobs.sink c.ask_word-status.new.sink
    (so.0.told ++ so.0.said) so.0.put so.3 c.ask_word-status.ensures.sink_fares
