use Rattle.std.proofs.Common.{◌<◌, length, arith}
use Rattle.dc_script.proofs.Feeds.{too_long}
use Rattle.dc_script.proofs.lines.LineRest.next_line.Goals as goal

pub returns-then-searched-gt-MOST_LINE-clause-found : goal.returns-then-searched-gt-MOST_LINE-clause-found
returns-then-searched-gt-MOST_LINE-clause-found g c =
    let far = c.loop-len.invariant.0.1 in
    let long : 131200 < length c.loop-len.self.rest = omega (arith, c.rest_len-searched.ensures) in (
      c.loop-len.invariant.0.0,
      record {
        taken = far.taken;
        late = far.late;
        finds = too_long c.loop-len.self.rest _ 131200 far.rest long c.in_default.ensures;
      },
    )
