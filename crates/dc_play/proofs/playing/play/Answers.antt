use Rattle.std.proofs.Common.{rules, subst}
use Rattle.dc_event.specs.Causes.{Fares}
use Rattle.dc_play.specs.Playing.{reads_well, writes_well}
use Rattle.dc_play.proofs.Fine.{fares_lent}
use Rattle.dc_play.proofs.playing.play.Goals as goal

pub returns-clause-told : goal.returns-clause-told
returns-clause-told g c =
    let told = c.over-answer.ensures.told in
    (told.0, (told.1.0, search rules, search rules, λ tail follows. told.1.3 tail (search rules)))

pub returns-clause-read : goal.returns-clause-read
returns-clause-read g c =
    let lent = fares_lent _ c.over-answer.result.1 (λ r. r.now) g.S.Source.took g.S.Source.refused g.S.Source.faults _ _ (λ a b xs p. p.1) (λ a b p. p.1)
    (reads_well c.over-answer.result.0) c.over-answer.ensures.read in
    subst (λ s. Fares g.S.Source.took g.S.Source.refused g.S.Source.faults (reads_well c.over-answer.result.0) c.args.source.now s) (search rules) lent

pub returns-clause-write : goal.returns-clause-write
returns-clause-write g c =
    let lent = fares_lent _ c.over-answer.result.2 (λ r. r.now) g.K.Sink.gained g.K.Sink.refused g.K.Sink.faults _ _ (λ a b xs p. p.1) (λ a b p. p.1)
    (writes_well c.over-answer.result.0) c.over-answer.ensures.write in
    subst (λ s. Fares g.K.Sink.gained g.K.Sink.refused g.K.Sink.faults (writes_well c.over-answer.result.0) c.args.sink.now s) (search rules) lent
