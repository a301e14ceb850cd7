use Rattle.std.proofs.Common.{ap, ◌∙◌, map}
use Rattle.rayon.proofs.ListFacts.{IfOk-then}
use Rattle.dc_auditing.specs.Runs.{spread, found_of}
use Rattle.dc_auditing.proofs.FindingLemmas.{found_spread}
use Rattle.dc_auditing.proofs.judging.judged.Goals as goal

pub returns : goal.returns
returns g c =
    IfOk-then c.findings.result _ _ c.findings.ensures (λ f e. e ∙ (λ i. map found_of (spread (c.as_slice-2.ensures.value i) (c.as_slice-3.ensures.value i)))
    ∙ ap (λ vs. map found_of (spread c.args.runs.now.present.items vs)) (c.in_ok-verdicts.ensures ∙ ap (map _) c.as_slice.ensures.value) ∙ found_spread c.args.runs.now.present.items c.args.runs.now.pairs.items)
