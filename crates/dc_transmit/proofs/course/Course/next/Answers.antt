use Rattle.std.proofs.Common.{refl, ◌∙◌}
use Rattle.dc_transmit.proofs.CourseLemmas.{next_some, later_none, later_next}
use Rattle.dc_transmit.proofs.course.Course.next.Goals as goal

pub returns-in-Some-clause-tries : goal.returns-in-Some-clause-tries
returns-in-Some-clause-tries c = next_some c.args.self _ c.args.servers.now refl c.in-Some.ensures.places

pub returns-in-Some-next-clause-tries : goal.returns-in-Some-next-clause-tries
returns-in-Some-next-clause-tries c =
    c.first.ensures.tries ∙ later_next c.args.self c.in-Some-next.round c.args.servers.now c.in-None.ensures.places c.in-Some-next.ensures.waits

pub returns-in-None-next-clause-tries : goal.returns-in-None-next-clause-tries
returns-in-None-next-clause-tries c = later_none c.args.self c.args.servers.now c.in-None.ensures.places c.in-None-next.ensures.waits
