use Rattle.std.proofs.Common.{ap, ◌∙◌}
use Rattle.dc_model.specs.Name as model
use Rattle.dc_name.proofs.AddressLemmas.{pushed-octet, length-pushed_octet}
use Rattle.dc_name.proofs.name.Name.push_octet.Goals as goal

pub returns-clause-name : goal.returns-clause-name
returns-clause-name c = c.push.ensures.name ∙ ap (λ l. model.pushed c.args.self.now l) (c.as_slice.ensures.value ∙ c.digits.ensures) ∙ pushed-octet c.args.self.now c.args.octet c.ranges.octet.fits c.requires

pub returns-clause-len : goal.returns-clause-len
returns-clause-len c = length-pushed_octet c.args.self.now c.push.new.self c.args.octet c.ranges.octet.fits (returns-clause-name c)
