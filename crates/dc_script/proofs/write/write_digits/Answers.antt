use Rattle.std.proofs.Common.{arith, ◌<◌, slice_index, ℕ}
use Rattle.dc_script.proofs.Hex.{encode_is_hex}
use Rattle.dc_script.proofs.write.write_digits.Goals as goal

pub returns-clause-wrote : goal.returns-clause-wrote
returns-clause-wrote g c =
    let bytes : (i : ℕ) → slice_index c.args.piece.now i < 256 = λ i. let h = c.type_inv.piece i in omega (arith, h) in
    rw (← encode_is_hex c.args.piece.now bytes, ← c.in-Ok.ensures.written) c.put.ensures.wrote
