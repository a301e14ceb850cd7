use Rattle.dc_name.proofs.WireLemmas.{above_is}
use Rattle.dc_name.proofs.wire.above.Goals as goal

pub returns-clause-name : goal.returns-clause-name
returns-clause-name c = (above_is c.args.wire.now c.requires.name c.requires.not_root).name

pub returns-clause-labels : goal.returns-clause-labels
returns-clause-labels c = (above_is c.args.wire.now c.requires.name c.requires.not_root).labels

pub returns-clause-shorter : goal.returns-clause-shorter
returns-clause-shorter c = (above_is c.args.wire.now c.requires.name c.requires.not_root).shorter
