use Rattle.std.proofs.Common.{◌≡◌, ◌-◌, suc, arith, [], ◌∷◌}
use Rattle.dc_lookup.specs.Text.{printed}
use Rattle.dc_writer.proofs.Writing.{wrote_none}
use Rattle.dc_show.proofs.TextLemmas.{next_length, next_byte}
use Rattle.dc_show.proofs.parts.write_next.Goals as goal

pub returns-then-left-eq0-clause-wrote : goal.returns-then-left-eq0-clause-wrote
returns-then-left-eq0-clause-wrote g c =
    ([], wrote_none _ _ g.met.K.Sink.gained_both g.met.K.Sink.gained_none _ _, next_length printed c.args.left c.args.byte c.if-left-eq0.true)

pub returns-clause-wrote : goal.returns-clause-wrote
returns-clause-wrote g c =
    let one : c.args.left ≡ suc (c.args.left - 1) = omega (arith, c.if-left-eq0.false) in
    (printed c.args.byte ∷ [], rw c.printed.ensures at c.put.ensures.wrote, next_byte printed c.args.left (c.args.left - 1) c.args.byte one)
