use Rattle.std.proofs.Common.{arith}
use Rattle.dc_frames.specs.View.{query_of}
use Rattle.dc_answer.proofs.Aliases.{target-last}
use Rattle.dc_answer.proofs.begin.target.Goals as goal

pub returns-else-i-count : goal.returns-else-i-count
returns-else-i-count c = target-last (query_of c.args.query.now) c.args.i c.name.result.now (omega arith) c.name.ensures
