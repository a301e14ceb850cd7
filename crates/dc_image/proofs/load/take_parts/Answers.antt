use Rattle.std.proofs.Common.{◌≡◌, ◌++◌, length, sym, ◌∙◌, ap, Err}
use Rattle.std.proofs.lemmas.Result.{err_from_is_err_and}
use Rattle.dc_event.specs.Causes.{fares_behind}
use Rattle.dc_image.specs.Loaded.{marked}
use Rattle.dc_image.proofs.LoadLemmas.{block_refused, end_refused, all_taken}
use Rattle.dc_image.proofs.load.take_parts.Goals as goal

pub returns-in_err-block-clause-took : goal.returns-in_err-block-clause-took
returns-in_err-block-clause-took g c =
    let h = c.in_ok-marks.ensures.took in
    let t = c.in_err-block.ensures.took in
    let r = block_refused c.args.size h.0 t.0 (g.I.Source.left c.take_block.new.source) (marked c.in_ok-marks.marks) c.in_err-block.field-0.0 h.2 t.2 in
    let is = err_from_is_err_and c.from_residual-in_err-block.result c.from_residual-in_err-block.ensures.1 in
    let same : c.from_residual-in_err-block.result ≡ Err c.in_err-block.field-0.0 = is.1 ∙ ap Err is.2 in
    rw same (h.0 ++ t.0, g.met.I.Source.took_both _ _ _ h.0 t.0 h.1 t.1, r.1, r.0)

pub returns-in_err-block-clause-fares : goal.returns-in_err-block-clause-fares
returns-in_err-block-clause-fares g c =
    let h = c.in_ok-marks.ensures.took in
    let is = err_from_is_err_and c.from_residual-in_err-block.result c.from_residual-in_err-block.ensures.1 in
    let same : c.from_residual-in_err-block.result ≡ Err c.in_err-block.field-0.0 = is.1 ∙ ap Err is.2 in
    rw same (fares_behind g.I.Source.took g.met.I.Source.took_both g.I.Source.refused g.I.Source.faults _ _ _ _ h.0 h.1 c.in_ok-marks.ensures.fares c.in_err-block.ensures.fares)

pub returns-in_err-take_end-clause-took : goal.returns-in_err-take_end-clause-took
returns-in_err-take_end-clause-took g c =
    let h = c.in_ok-marks.ensures.took in
    let t = c.in_ok-block.ensures.took in
    let u = c.in_err-take_end.ensures.took in
    let r = end_refused c.args.size h.0 t.0 u.0 (g.I.Source.left c.take_end.new.source) (marked c.in_ok-marks.marks) c.in_err-take_end.field-0.0 h.2 t.2.1 u.2 in
    let is = err_from_is_err_and c.from_residual-in_err-take_end.result c.from_residual-in_err-take_end.ensures.1 in
    let same : c.from_residual-in_err-take_end.result ≡ Err c.in_err-take_end.field-0.0 = is.1 ∙ ap Err is.2 in
    rw same (h.0 ++ (t.0 ++ u.0), g.met.I.Source.took_both _ _ _ h.0 (t.0 ++ u.0) h.1 (g.met.I.Source.took_both _ _ _ t.0 u.0 t.1 u.1), r.1, r.0)

pub returns-in_err-take_end-clause-fares : goal.returns-in_err-take_end-clause-fares
returns-in_err-take_end-clause-fares g c =
    let h = c.in_ok-marks.ensures.took in
    let t = c.in_ok-block.ensures.took in
    let is = err_from_is_err_and c.from_residual-in_err-take_end.result c.from_residual-in_err-take_end.ensures.1 in
    let same : c.from_residual-in_err-take_end.result ≡ Err c.in_err-take_end.field-0.0 = is.1 ∙ ap Err is.2 in
    rw same (fares_behind g.I.Source.took g.met.I.Source.took_both g.I.Source.refused g.I.Source.faults _ _ _ _ (h.0 ++ t.0) (g.met.I.Source.took_both _ _ _ h.0 t.0 h.1 t.1)
    (c.in_ok-block.ensures.fares ∙ c.in_ok-marks.ensures.fares) c.in_err-take_end.ensures.fares)

pub returns-clause-took : goal.returns-clause-took
returns-clause-took g c =
    let h = c.in_ok-marks.ensures.took in
    let t = c.in_ok-block.ensures.took in
    let u = c.in_ok-take_end.ensures.took in
    let r = all_taken c.args.size h.0 t.0 u.0 (marked c.in_ok-marks.marks) h.2 t.2.1 u.2.0 in (
      h.0 ++ (t.0 ++ u.0),
      g.met.I.Source.took_both _ _ _ h.0 (t.0 ++ u.0) h.1 (g.met.I.Source.took_both _ _ _ t.0 u.0 t.1 u.1),
      r.1,
      (h.0, h.2, r.0 ∙ ap (λ x. h.0 ++ x) t.2.0, ap length (sym t.2.0) ∙ t.2.1, u.2.1),
    )
