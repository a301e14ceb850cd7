use Rattle.std.proofs.Common.{sym, ◌∙◌}
use Rattle.std.proofs.lemmas.Result.{err_from_is_err_and}
use Rattle.dc_config.specs.Folders as defined
use Rattle.dc_config.proofs.Steps.{refuses-along, exits}
use Rattle.dc_config.proofs.Zoned.{permits_from}
use Rattle.dc_config.proofs.folders.permit_of.Goals as goal

pub returns-in_err-add_permit_files-clause-permit : goal.returns-in_err-add_permit_files-clause-permit
returns-in_err-add_permit_files-clause-permit g c = λ t e.
    let p = err_from_is_err_and c.from_residual-in_err-add_permit_files.result c.from_residual-in_err-add_permit_files.ensures.1 in
    let whole = permits_from t c.in_ok-names.names.items c.in_ok-permit.permit (c.in_ok-names.ensures.names t e) c.in_ok-permit.ensures in
    exits _ (defined.permits_of t) p.0 c.in_err-add_permit_files.field-0.0 p.1 p.2 (refuses-along _ _ _ (sym whole) c.in_err-add_permit_files.ensures.permit)

pub returns-clause-permit : goal.returns-clause-permit
returns-clause-permit g c = λ t e.
    let whole = permits_from t c.in_ok-names.names.items c.in_ok-permit.permit (c.in_ok-names.ensures.names t e) c.in_ok-permit.ensures in
    whole ∙ c.in_ok-add_permit_files.ensures.permit
