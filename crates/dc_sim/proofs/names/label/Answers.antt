use Rattle.std.proofs.Common.{◌∷◌, List, ℕ, ap, sym, arith}
use Rattle.std.proofs.lemmas.Fmt.{decimal_digit}
use Rattle.dc_name.proofs.NumberLemmas.{decimal-two, decimal-three}
use Rattle.dc_sim.proofs.names.label.Goals as goal

pub returns-then-number-lt10 : goal.returns-then-number-lt10
returns-then-number-lt10 c =
    rw (c.push-then-number-lt10.ensures.items, c.push.ensures.items, c.new-text.ensures) (ap (λ (l : List ℕ). c.args.letter ∷ l) (sym (decimal_digit c.args.number c.if-number-lt10.true)))

pub returns-then-number-lt100 : goal.returns-then-number-lt100
returns-then-number-lt100 c =
    rw (c.push-then-number-lt100-2.ensures.items, c.push-then-number-lt100.ensures.items, c.push.ensures.items, c.new-text.ensures)
    (ap (λ (l : List ℕ). c.args.letter ∷ l) (sym (decimal-two c.args.number c.if-number-lt10.false c.if-number-lt100.true)))

pub returns-else-number-lt100 : goal.returns-else-number-lt100
returns-else-number-lt100 c =
    rw (c.push-else-number-lt100-3.ensures.items, c.push-else-number-lt100-2.ensures.items, c.push-else-number-lt100.ensures.items, c.push.ensures.items, c.new-text.ensures)
    (ap (λ (l : List ℕ). c.args.letter ∷ l) (sym (decimal-three c.args.number c.if-number-lt100.false (omega arith))))
