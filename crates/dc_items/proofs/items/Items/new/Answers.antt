use Rattle.dc_rules.specs.Refusals.{rule_of}
use Rattle.dc_items.proofs.LeftLemmas.{left_all}
use Rattle.dc_items.proofs.items.Items.new.Goals as goal

pub returns : goal.returns
returns c = left_all (rule_of c.args.rule) c.args.kind c.args.body.now
