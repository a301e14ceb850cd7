use Rattle.std.proofs.Common.{length}
use Rattle.dc_script.proofs.Decoding.{decode_lower}
use Rattle.dc_script.proofs.digits.decode.Goals as goal

pub unreachable-requires : goal.unreachable-requires
unreachable-requires c =
    let e = decode_lower c.args.digits.now (length c.args.bytes.now) c.requires.digits.digits c.requires.len in
    let given = c.decode_to_slice.ensures.value in
    let done = rw e at given in
    c.in_default.not-Ok _ done.0

pub returns : goal.returns
returns c =
    let e = decode_lower c.args.digits.now (length c.args.bytes.now) c.requires.digits.digits c.requires.len in
    let given = c.decode_to_slice.ensures.value in
    let done = rw e at given in
    done.1
