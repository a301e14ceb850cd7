use Rattle.std.proofs.Common.{◌≡◌, ◌∙◌, [], ◌∷◌, ◌++◌, codes, subst}
use Rattle.std.proofs.lemmas.Result.{err_from_is_err_and}
use Rattle.dc_auditing.proofs.AskingLemmas.{fares_exits}
use Rattle.dc_auditing.specs.Findings.{recording_of}
use Rattle.dc_auditing.proofs.reading.read_run.Goals as goal

pub returns-in_err-recorded-clause-fares : goal.returns-in_err-recorded-clause-fares
returns-in_err-recorded-clause-fares g c =
    let p = err_from_is_err_and c.from_residual-in_err-recorded.result c.from_residual-in_err-recorded.ensures.1 in
    fares_exits g.F.Files.asked g.met.F.Files.asked_both g.F.Files.refused g.F.Files.faults _ _ _ _ _ p.0 _ p.1 p.2 c.in_ok-script.ensures.asked c.in_ok-script.ensures.fares c.in_err-recorded.ensures.fares

pub returns-clause-asked : goal.returns-clause-asked
returns-clause-asked g c =
    let path : c.as_str.result.now ≡ recording_of c.args.name.now = c.as_str.ensures.value ∙ c.in_ok-path.ensures in
    subst (λ p. g.F.Files.asked c.args.files.now (c.args.name.now ∷ p ∷ []) c.read_file-2.new.files) path (g.met.F.Files.asked_both _ _ _ (c.args.name.now ∷ []) (c.as_str.result.now ∷ []) c.in_ok-script.ensures.asked c.in_ok-recorded.ensures.asked)
