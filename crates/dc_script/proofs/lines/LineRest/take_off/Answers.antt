use Rattle.std.proofs.Common.{◌≡◌, ◌+◌, ◌-◌, ◌<◌, take, drop, length, arith, ap, ◌∙◌}
use Rattle.dc_script.proofs.Feeds.{rest_behind, length_piece}
use Rattle.dc_script.proofs.lines.LineRest.take_off.Goals as goal

pub returns-clause-rest : goal.returns-clause-rest
returns-clause-rest c =
    let rest : take (c.self.inside.end - c.self.inside.start) (drop c.self.inside.start c.self.inside.buffer.items) ≡ c.args.self.now.rest = ap (λ h. h.rest) c.self.view_is in
    let count = length_piece c.self.inside.buffer.items c.self.inside.start c.self.inside.end (omega arith) (omega arith) in
    let short : c.args.len < c.self.inside.end - c.self.inside.start = omega (arith, c.requires, ap length rest, count) in
    rest_behind c.self.inside.buffer.items c.self.inside.start c.self.inside.end c.args.len (omega arith) (omega arith) ∙ ap (drop (c.args.len + 1)) rest
