use Rattle.std.proofs.Common.{◌≡◌, length, rules, ap, arith, ◌≤◌}
use Rattle.dc_model.specs.Name as model
use Rattle.dc_name.proofs.AddressLemmas.{reverse_is}
use Rattle.dc_name.proofs.name.Name.reverse_of.Goals as goal

pub returns : goal.returns
returns c =
    let addr = c.args.addr in
    let four : length addr ≡ 4 = search rules in
    let labels = rw (c.push_octet-3.ensures.name, c.push_octet-2.ensures.name, c.push_octet.ensures.name, c.root-name.ensures) at c.push_octet-4.ensures.name in
    let start : model.wire_length c.root-name.result ≡ 1 = ap model.wire_length c.root-name.ensures in
    let small : model.wire_length c.push_octet-4.new.self ≤ 17 = omega (arith, start, c.push_octet.ensures.len, c.push_octet-2.ensures.len, c.push_octet-3.ensures.len, c.push_octet-4.ensures.len) in
    reverse_is addr c.push_octet-4.new.self c.push.new.self c.push-2.new.self four labels small c.push.ensures.name c.push-2.ensures.name
