use Rattle.std.proofs.Common.{◌∷◌, ◌++◌, [], map, codes, decimal, sym}
use Rattle.dc_model.specs.Line.{line_rr_soa, hex, shown}
use Rattle.dc_lines.proofs.WordLemmas.{words_fold}
use Rattle.dc_lines.proofs.packets.line_rr_soa.Goals as goal

pub returns : goal.returns
unfolding line_rr_soa
returns c =
    rw (c.numbers.ensures.bytes, c.name-3.ensures.bytes, c.name-2.ensures.bytes, c.name.ensures.bytes, c.word.ensures.bytes, c.number.ensures.bytes, c.from.ensures, c.address.ensures.bytes, c.begin.ensures.bytes)
    (sym (words_fold (codes "rr") ((hex c.args.server ∷ decimal c.args.ttl ∷ codes "soa" ∷ shown c.args.owner.now ∷ shown c.args.first.now ∷ shown c.args.second.now ∷ []) ++ map decimal c.args.numbers)))
