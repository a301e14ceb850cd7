use Rattle.dc_auditing.proofs.SpreadLemmas.{held_there, held_absent}
use Rattle.dc_auditing.proofs.reading.Runs.push.Goals as goal

pub returns-in_ok-push-2-clause-held : goal.returns-in_ok-push-2-clause-held
returns-in_ok-push-2-clause-held c =
    held_there c.args.self.now.present.items c.push.new.self.items c.args.self.now.pairs.items c.push-in-Some.new.self.items c.is_some.result c.args.run c.in-Some.pair c.in-Some.is c.is_some.ensures
    c.in_ok-push.ensures.items c.in_ok-push-2.ensures.items c.requires

pub returns-in_default-clause-held : goal.returns-in_default-clause-held
returns-in_default-clause-held c =
    held_absent c.args.self.now.present.items c.push.new.self.items c.args.self.now.pairs.items c.is_some.result c.args.run c.in_default.is c.is_some.ensures c.in_ok-push.ensures.items
