use Rattle.dc_transmit.proofs.CourseLemmas.{first_none, first_some}
use Rattle.dc_transmit.proofs.course.Course.first.Goals as goal

pub returns-in-None-clause-tries : goal.returns-in-None-clause-tries
returns-in-None-clause-tries c = first_none c.args.round c.args.servers.now c.in-None.ensures.places

pub returns-in-Some-clause-tries : goal.returns-in-Some-clause-tries
returns-in-Some-clause-tries c = first_some _ c.args.servers.now c.in-Some.ensures.places
