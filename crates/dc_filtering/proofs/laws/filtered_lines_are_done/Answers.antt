use Rattle.std.specs.Io.KnownBytes.{IsAtEnd}
use Rattle.dc_filtering.proofs.Complete.{filtered_done}
use Rattle.dc_filtering.proofs.laws.filtered_lines_are_done.Goals as goal

pub returns : goal.returns
returns g c = λ status lines f text count limit source world. filtered_done status lines f text count limit (g.W.World.used_up world) (g.W.World.broken world) (IsAtEnd (g.S.Source.left source))
