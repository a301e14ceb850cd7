use Rattle.std.proofs.Common.{◌≡◌, ◌≤◌, ◌-◌, ◌++◌, min, List, ℕ, length, take, rules, ap, ◌∙◌, arith}
use Rattle.dc_transmit.specs.Gathered.{Gathered, appended}
use Rattle.dc_transmit.proofs.GatherLemmas.{appended_is}
use Rattle.dc_transmit.proofs.gathering.Gathering.append.Goals as goal

pub returns : goal.returns
returns c =
    let bytes = c.self.inside.buffer.items in
    let room : length bytes ≤ 65537 = search rules in
    let count : c.min-count.result ≡ min (length c.args.bytes.now) (65537 - length bytes) = search rules in
    c.extend.ensures.bytes ∙ appended_is bytes c.args.bytes.now c.min-count.result room count
    ∙ ap (λ (g : Gathered). appended g.bytes c.args.bytes.now) c.self.view_is
