use Rattle.std.proofs.Common.{◌≡◌, length, arith, append_assoc}
use Rattle.dc_writer.proofs.Texts.{four_octets}
use Rattle.dc_writer.proofs.words.push_address.Goals as goal

pub returns-clause-items : goal.returns-clause-items
returns-clause-items c =
    let four : length c.args.addr ≡ 4 = omega arith in
    let e = four_octets c.args.addr four in
    simp (e, c.push_number-4.ensures.items, c.push_all-3.ensures.items, c.push_number-3.ensures.items, c.push_all-2.ensures.items, c.push_number-2.ensures.items, c.push_all.ensures.items, c.push_number.ensures.items, c.into.ensures, c.into-2.ensures, c.into-3.ensures, c.into-4.ensures, append_assoc)
