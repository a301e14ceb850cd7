use Rattle.std.proofs.Common.{arith}
use Rattle.std.proofs.lemmas.List.{length-take-le}
use Rattle.dc_lines.proofs.DataLemmas.{data_short, data_long}
use Rattle.dc_lines.proofs.line.Line.data.Goals as goal

pub returns-then-data-lt-SHOWN-clause-bytes : goal.returns-then-data-lt-SHOWN-clause-bytes
returns-then-data-lt-SHOWN-clause-bytes c = data_short _ _ _ _ c.if-data-lt-SHOWN.true c.put_byte.ensures.bytes c.hex.ensures.bytes

pub hex-requires-2 : goal.hex-requires-2
hex-requires-2 c = let n = length-take-le 32 c.args.data.now c.if-data-lt-SHOWN.false in omega arith

pub put-requires : goal.put-requires
put-requires c = let n = length-take-le 32 c.args.data.now c.if-data-lt-SHOWN.false in omega arith

pub returns-clause-bytes : goal.returns-clause-bytes
returns-clause-bytes c = data_long _ _ _ _ _ c.if-data-lt-SHOWN.false c.put_byte.ensures.bytes c.hex-2.ensures.bytes c.put.ensures.bytes

pub returns-clause-len : goal.returns-clause-len
returns-clause-len c = let n = length-take-le 32 c.args.data.now c.if-data-lt-SHOWN.false in omega arith
