use Rattle.std.proofs.Common.{◌≡◌, true, false, sym, ap, ◌∙◌}
use Rattle.dc_model.specs.Rules.{add_permit}
use Rattle.dc_config.specs.Folders.{is_shown, permit_added}
use Rattle.dc_config.proofs.Zoned.{permit_hidden, permit_is}
use Rattle.dc_config.proofs.folders.add_permit_file.Goals as goal

pub returns-then-not-is_shown-clause-permit : goal.returns-then-not-is_shown-clause-permit
returns-then-not-is_shown-clause-permit c =
    let hidden : is_shown c.args.file ≡ false = cc in
    permit_hidden c.args.file c.args.permit.now hidden

pub returns-in-Ok-clause-permit : goal.returns-in-Ok-clause-permit
returns-in-Ok-clause-permit c =
    let shown : is_shown c.args.file ≡ true = cc in
    let added = ap (λ x. add_permit x c.args.permit.now) (sym (c.as_bytes.ensures.value ∙ c.text.ensures)) ∙ c.in-Ok.ensures.added in
    permit_is c.args.file c.args.permit.now shown ∙ ap (λ r. permit_added c.args.file r) added

pub returns-in-Err-clause-permit : goal.returns-in-Err-clause-permit
returns-in-Err-clause-permit c =
    let shown : is_shown c.args.file ≡ true = cc in
    let added = ap (λ x. add_permit x c.args.permit.now) (sym (c.as_bytes.ensures.value ∙ c.text.ensures)) ∙ c.in-Err.ensures.added in
    permit_is c.args.file c.args.permit.now shown ∙ ap (λ r. permit_added c.args.file r) added
