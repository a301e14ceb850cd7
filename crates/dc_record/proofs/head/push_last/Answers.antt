use Rattle.std.proofs.Common.{◌<◌, ℕ, slice_index, sym, ◌∙◌, arith}
use Rattle.dc_script.proofs.Hex.{encode_is_hex, bytes_text_some}
use Rattle.dc_record.proofs.HeadPieces.{last_pieces}
use Rattle.dc_record.proofs.head.push_last.Goals as goal

pub returns : goal.returns
returns c =
    let seed = c.args.seed.now in
    let bytes : (i : ℕ) → slice_index seed i < 256 = λ i. let h = c.fits-seed i in omega (arith, h) in
    let many = c.told-seed in
    last_pieces c.args.text.now.items c.push_pair.new.text.items c.extend_from_slice.new.self.items _ seed (c.in-Ok.ensures.written ∙ encode_is_hex seed bytes ∙ sym (bytes_text_some seed (omega (arith, many))))
    c.in_ok-push_pair.ensures c.in_ok-extend_from_slice.ensures.items
