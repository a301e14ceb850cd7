use Rattle.std.proofs.Common.{arith}
use Rattle.dc_frames.specs.View.{query_of}
use Rattle.dc_look.proofs.Looking.{hosts-kept, hosts-added}
use Rattle.dc_look.proofs.zone.keep.Goals as goal

pub returns-then-taken-ge-MOST_HOSTS-clause-query : goal.returns-then-taken-ge-MOST_HOSTS-clause-query
returns-then-taken-ge-MOST_HOSTS-clause-query c = hosts-kept (query_of c.args.query.now) c.args.host c.requires.some (omega arith)

pub returns-clause-taken : goal.returns-clause-taken
returns-clause-taken c = hosts-added (query_of c.args.query.now) (query_of c.push_host.new.self) c.args.host c.args.taken c.push_host.ensures c.requires.taken
