use Rattle.std.proofs.Common.{sym, arith}
use Rattle.std.proofs.lemmas.Fmt.{decimal_digit}
use Rattle.dc_name.proofs.NumberLemmas.{decimal-two, decimal-three}
use Rattle.dc_name.proofs.number.digits.Goals as goal

pub returns-then-octet-lt10 : goal.returns-then-octet-lt10
returns-then-octet-lt10 c = rw (c.push.ensures.items, c.new-text.ensures) (sym (decimal_digit c.args.octet c.if-octet-lt10.true))

pub returns-then-octet-lt100 : goal.returns-then-octet-lt100
returns-then-octet-lt100 c = rw (c.push-then-octet-lt100-2.ensures.items, c.push-then-octet-lt100.ensures.items, c.new-text.ensures) (sym (decimal-two c.args.octet c.if-octet-lt10.false c.if-octet-lt100.true))

pub returns-else-octet-lt100 : goal.returns-else-octet-lt100
returns-else-octet-lt100 c =
    rw (c.push-else-octet-lt100-3.ensures.items, c.push-else-octet-lt100-2.ensures.items, c.push-else-octet-lt100.ensures.items, c.new-text.ensures) (sym (decimal-three c.args.octet c.if-octet-lt100.false (omega arith)))
