use Rattle.std.proofs.Common.{[], ◌∷◌, ◌++◌, length, ap, ◌∙◌}
use Rattle.dc_name.proofs.WireLemmas.{pushed_is}
use Rattle.dc_name.proofs.wire.push_label.Goals as goal

pub returns : goal.returns
returns c =
    pushed_is c.args.bytes.now.items c.args.label.now c.push-2.new.self.items c.requires.name c.requires.fits
    (c.push-2.ensures.items ∙ ap (λ x. x ++ (0 ∷ [])) (c.append.ensures.items ∙ ap (λ x. x ++ c.args.label.now) (c.push.ensures.items ∙ ap (λ x. x ++ (length c.args.label.now ∷ [])) c.pop.ensures.rest)))
