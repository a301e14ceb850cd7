use Rattle.std.proofs.Common.{ℕ, ◌-◌, List, length, take, refl, ap, ◌∙◌, arith, length-take-le}
use borrow.Rule.Slice.PartMut.{put_mid}
use Rattle.dc_event.specs.declared.answers.Taken.TheVariants.{Bytes}
use Rattle.dc_event.specs.Causes.{failed_now, failed_behind}
use Rattle.dc_image.proofs.TakeLemmas.{further, no_further}
use Rattle.dc_image.proofs.load.take_all.Goals as goal

pub loop-count-preserved : goal.loop-count-preserved
loop-count-preserved g c =
    let told = c.in-Bytes.ensures in (
      further g.I.Source.took g.met.I.Source.took_both _ _ _ _ c.loop-count.into c.take.new.into c.loop-count.count c.in-Bytes.more c.loop-count.invariant.0 c.take.auto.into told.bound told.took,
      c.in-Bytes.ensures.count ∙ c.loop-count.invariant.1,
    )

pub returns-in-Bytes-eq0-clause-took : goal.returns-in-Bytes-eq0-clause-took
returns-in-Bytes-eq0-clause-took g c =
    let told = c.in-Bytes-eq0.ensures in
    let none = c.in-Bytes-eq0.field-0-test in
    let s = no_further g.I.Source.took g.met.I.Source.took_both _ _ _ _ c.loop-count.into c.take.new.into c.loop-count.count c.in-Bytes-eq0.field-0 c.loop-count.invariant.0 c.take.auto.into none told.took in
    let same = s.same in
    let within = s.within in
    (_, s.taken, (omega (arith, same, within), refl, λ less. told.end (ap Bytes none)))

pub returns-in-Failed-clause-took : goal.returns-in-Failed-clause-took
returns-in-Failed-clause-took g c =
    let s = no_further g.I.Source.took g.met.I.Source.took_both _ _ _ _ c.loop-count.into c.take.new.into c.loop-count.count 0 c.loop-count.invariant.0 c.take.auto.into refl c.in-Failed.ensures.took in
    let same = s.same in
    let within = s.within in
    let whole : List ℕ = put_mid c.loop-count.count (length c.loop-count.into - c.loop-count.count) c.loop-count.into c.take.new.into in
    (take c.loop-count.count whole, s.taken, omega (arith, length-take-le c.loop-count.count whole (omega (arith, same, within)), same, within))

pub returns-in-Failed-clause-fares : goal.returns-in-Failed-clause-fares
returns-in-Failed-clause-fares g c =
    let source = g.I.Source in
    failed_behind source.took g.met.I.Source.took_both source.refused source.faults _ _ _ _ c.loop-count.invariant.0.taken c.loop-count.invariant.1
    (failed_now source.took g.met.I.Source.took_none source.refused source.faults _ _ c.in-Failed.ensures.failed c.in-Failed.ensures.count)
