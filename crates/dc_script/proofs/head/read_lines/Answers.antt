use Rattle.std.proofs.Common.{◌++◌, ◌∙◌}
use Rattle.dc_script.specs.Heads.{head_in}
use Rattle.dc_script.proofs.HeadLemmas.{far_more, far_whole, far_bad}
use Rattle.dc_event.specs.Causes.{failed_behind}
use Rattle.dc_script.proofs.head.read_lines.Goals as goal

pub loop-preserved : goal.loop-preserved
loop-preserved g c =
    let far = c.loop.invariant.0 in
    let next = c.in-Going.ensures.reads in (
      (far.0 ++ next.0, far_more g.S.Source.took g.met.S.Source.took_both _ _ _ _ _ _ _ _ _ _ far.0 next.0 far.1 next.1 next.2.0 next.2.1 next.2.2),
      c.in-Going.ensures.fares ∙ c.loop.invariant.1,
    )

pub returns-in-Begun-clause-head : goal.returns-in-Begun-clause-head
returns-in-Begun-clause-head g c =
    let far = c.loop.invariant.0 in
    let next = c.in-Begun.ensures.reads in
    (far.0 ++ next.0, g.met.S.Source.took_both _ _ _ _ _ far.1.taken next.1, far_whole g.S.Source.took _ _ _ _ (head_in c.read_line.new.setup) _ c.read_line.new.rest.rest _ far.0 next.0 far.1 next.2)

pub returns-in-Bad-clause-head : goal.returns-in-Bad-clause-head
returns-in-Bad-clause-head g c =
    let far = c.loop.invariant.0 in
    let next = c.in-Bad.ensures.reads in
    (far.0 ++ next.0, g.met.S.Source.took_both _ _ _ _ _ far.1.taken next.1, λ tail left. far_bad g.S.Source.took _ _ _ _ _ _ far.0 next.0 tail far.1 (next.2 tail left))

pub returns-in-Failed-clause-fares : goal.returns-in-Failed-clause-fares
returns-in-Failed-clause-fares g c =
    failed_behind g.S.Source.took g.met.S.Source.took_both g.S.Source.refused g.S.Source.faults _ _ _ _ c.loop.invariant.0.1.taken c.loop.invariant.1 c.in-Failed.ensures.fares
