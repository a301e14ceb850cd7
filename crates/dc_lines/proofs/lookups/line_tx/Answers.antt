use Rattle.std.proofs.Common.{◌∷◌, ◌++◌, [], map, codes, decimal, sym}
use Rattle.dc_model.specs.Line.{line_tx, hex, shown}
use Rattle.dc_model.specs.Places.{addresses}
use Rattle.dc_lines.proofs.WordLemmas.{words_fold}
use Rattle.dc_lines.proofs.lookups.line_tx.Goals as goal

pub returns : goal.returns
unfolding line_tx
returns c =
    rw (c.addresses.ensures.bytes, c.name-2.ensures.bytes, c.name.ensures.bytes, c.number-2.ensures.bytes, c.from.ensures, c.number.ensures.bytes, c.begin.ensures.bytes)
    (sym (words_fold (codes "tx") ((decimal c.args.level ∷ decimal c.args.qtype ∷ shown c.args.name.now ∷ shown c.args.control.now ∷ []) ++ map hex (addresses c.args.servers.now))))
