use Rattle.std.proofs.Common.{◌∙◌}
use Rattle.dc_filter.specs.Queue.{slots_of}
use Rattle.dc_filter.proofs.QueueLemmas.{ticked, linked, passed}
use Rattle.dc_filter.proofs.queue.event_place.Goals as goal

pub returns-in-Tick : goal.returns-in-Tick
returns-in-Tick c e h = c.tick_place.ensures ∙ ticked c.args.event e (slots_of c.args.queue.now) h c.in-Tick.is

pub returns-in-Datagram : goal.returns-in-Datagram
returns-in-Datagram c e h = linked c.args.event e c.args.queue.now c.link_place.result c.link_place.ensures h c.in-Datagram.is

pub returns-in-Request : goal.returns-in-Request
returns-in-Request c e h = passed c.args.event e (slots_of c.args.queue.now) h c.in-Request.is
