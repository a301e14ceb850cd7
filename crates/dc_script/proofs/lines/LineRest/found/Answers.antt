use Rattle.std.proofs.Common.{refl, arith}
use Rattle.dc_script.proofs.Feeds.{shorter}
use Rattle.dc_script.proofs.lines.LineRest.found.Goals as goal

pub returns-then-len-gt-MOST_LINE-clause-finds : goal.returns-then-len-gt-MOST_LINE-clause-finds
returns-then-len-gt-MOST_LINE-clause-finds c =
    (refl, omega arith, shorter c.args.self.now.rest 131201 c.args.len (omega arith) (omega arith) c.requires.first)
