use Rattle.std.proofs.Common.{◌≡◌, ◌≤◌, ◌∷◌, [], ◌++◌, length, decimal, ap, arith, ◌∙◌}
use Rattle.std.proofs.lemmas.Fmt.{length-decimal-le}
use Rattle.dc_model.specs.Name as model
use Rattle.dc_name.proofs.AddressLemmas.{pushed-fits}
use Rattle.dc_name.proofs.TextLemmas.{length-wire-push}
use Rattle.dc_sim.proofs.names.push_label.Goals as goal

pub returns-clause-name : goal.returns-clause-name
returns-clause-name c =
    let n = c.args.name.now in
    let l = c.args.letter ∷ decimal c.args.number in
    let short : length (decimal c.args.number) ≤ 3 = length-decimal-le 3 c.args.number (omega arith) (omega (arith, c.ranges.number.fits)) (omega (arith, c.ranges.number.fits)) in
    c.push.ensures.name ∙ ap (λ x. model.pushed n x) (c.as_slice.ensures.value ∙ c.label.ensures) ∙ pushed-fits n l (omega arith) (omega (arith, short)) (omega (arith, short, c.requires))

pub returns-clause-len : goal.returns-clause-len
returns-clause-len c =
    let n = c.args.name.now in
    let l = c.args.letter ∷ decimal c.args.number in
    let short : length (decimal c.args.number) ≤ 3 = length-decimal-le 3 c.args.number (omega arith) (omega (arith, c.ranges.number.fits)) (omega (arith, c.ranges.number.fits)) in
    let same : model.wire_length c.push.new.self ≡ model.wire_length (n ++ (l ∷ [])) = ap model.wire_length (returns-clause-name c) in
    let grown = length-wire-push n l in
    omega (arith, same, grown, short)
