use Rattle.std.proofs.Common.{rules, Some, None}
use Rattle.std.proofs.lemmas.Slice.Eq.{strip_prefix_is}
use Rattle.std.proofs.lemmas.Bool.Decides.{Decides-eqb}
use Rattle.dc_audit.proofs.MatchedLemmas.{put_some, put_none}
use Rattle.dc_audit.proofs.matching.MatchingSink.put.Goals as goal

pub returns-in-Some-clause-gained : goal.returns-in-Some-clause-gained
returns-in-Some-clause-gained c =
    put_some c.self.inside.differs c.self.inside.rest.now c.args.bytes.now c.in-Some.rest.now c.args.self.now (search rules) (search rules)
    (strip_prefix_is Decides-eqb c.self.inside.rest.now c.args.bytes.now (Some c.in-Some.rest) c.in-Some.ensures.cases)

pub returns-in-None-clause-gained : goal.returns-in-None-clause-gained
returns-in-None-clause-gained c =
    put_none c.self.inside.differs c.self.inside.rest.now c.args.bytes.now c.args.self.now (search rules) (search rules)
    (strip_prefix_is Decides-eqb c.self.inside.rest.now c.args.bytes.now None c.in-None.ensures.cases)
