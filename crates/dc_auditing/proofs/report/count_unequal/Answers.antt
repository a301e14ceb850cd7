use Rattle.std.proofs.Common.{◌<◌, ◌^◌, length, ap, ◌∙◌, not, cond, arith, rules}
use Rattle.std.proofs.lemmas.List.Sums.{sum-map, count_by-le-length}
use Rattle.std.specs.Prelude.{fold, ◌+◌}
use Rattle.rayon.proofs.ToStd.{slice-map}
use Rattle.dc_auditing.specs.Findings.{is_same}
use Rattle.dc_auditing.proofs.report.count_unequal.Goals as goal

pub sum-requires-clause-fits : goal.sum-requires-clause-fits
sum-requires-clause-fits g c =
    let slice = ap (λ it. it.slice.now) c.map.ensures.base ∙ c.par_iter.ensures in
    let fs = c.args.findings.now in
    let long : length fs < 2 ^ 64 = search rules in
    λ κs lt ys h. rw (slice-map h.0 fs (h.1 ∙ slice) (λ f. cond (not (is_same f)) 1 0) ys h.2) (omega (arith, sum-map (λ f. cond (not (is_same f)) 1 0) fs, count_by-le-length (λ f. not (is_same f)) fs, long))

pub returns : goal.returns
returns g c =
    let slice = ap (λ it. it.slice.now) c.map.ensures.base ∙ c.par_iter.ensures in
    let done = c.sum.ensures in
    let all = slice-map done.1.0 c.args.findings.now (done.1.1 ∙ slice) (λ f. cond (not (is_same f)) 1 0) done.0 done.1.2 in
    done.2 ∙ ap (fold ◌+◌ 0) all ∙ sum-map (λ f. cond (not (is_same f)) 1 0) c.args.findings.now
