use Rattle.std.proofs.Common.{refl, ap, ◌∙◌, arith}
use Rattle.std.proofs.lemmas.Grind.{common_steps}
use Rattle.dc_event.specs.declared.answers.Taken.TheVariants.{Bytes}
use Rattle.dc_serving.proofs.SeedLemmas.{further, cut_short, whole}
use Rattle.dc_event.specs.Causes.{failed_now, failed_behind}
use Rattle.dc_serving.proofs.seed.take_seed.Goals as goal

pub loop-count-preserved : goal.loop-count-preserved
loop-count-preserved g c =
    let told = c.in-Bytes.ensures in (
      further g.S.Source.took g.met.S.Source.took_both _ _ _ _ c.take.new.into c.loop-count.count c.in-Bytes.more c.loop-count.invariant.0 c.take.auto.into told.bound told.took,
      c.in-Bytes.ensures.count ∙ c.loop-count.invariant.1,
    )

pub returns-in-Bytes-eq0-clause-took : goal.returns-in-Bytes-eq0-clause-took
returns-in-Bytes-eq0-clause-took g c =
    let told = c.in-Bytes-eq0.ensures in
    let none = c.in-Bytes-eq0.field-0-test in
    let short = cut_short g.S.Source.took g.met.S.Source.took_both _ _ _ _ _ c.loop-count.count c.loop-count.invariant.0 told.took (grind (arith, common_steps, none)) c.loop-count-test.true in
    (short.0, short.1, (short.2, told.end (ap Bytes none)))

pub returns-in-Failed-clause-took : goal.returns-in-Failed-clause-took
returns-in-Failed-clause-took g c =
    cut_short g.S.Source.took g.met.S.Source.took_both _ _ _ _ _ c.loop-count.count c.loop-count.invariant.0 c.in-Failed.ensures.took refl c.loop-count-test.true

pub returns-clause-took : goal.returns-clause-took
returns-clause-took g c = whole g.S.Source.took _ _ _ c.loop-count.count c.loop-count.invariant.0 c.loop-count-test.false

pub returns-in-Failed-clause-fares : goal.returns-in-Failed-clause-fares
returns-in-Failed-clause-fares g c =
    let source = g.S.Source in
    failed_behind source.took g.met.S.Source.took_both source.refused source.faults _ _ _ _ c.loop-count.invariant.0.taken c.loop-count.invariant.1
    (failed_now source.took g.met.S.Source.took_none source.refused source.faults _ _ c.in-Failed.ensures.failed c.in-Failed.ensures.count)
