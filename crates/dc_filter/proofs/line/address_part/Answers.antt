use Rattle.std.proofs.Common.{◌≡◌, false, length, take, get_or, sym, ap, ◌∙◌, arith}
use Rattle.std.proofs.lemmas.List.Sums.{prefix_len_is}
use Rattle.std.proofs.lemmas.List.{take_all}
use Rattle.dc_filter.specs.Lines.{is_address_byte}
use Rattle.dc_filter.proofs.line.address_part.Goals as goal

pub returns-then-not-is_address_byte-clause-part : goal.returns-then-not-is_address_byte-clause-part
returns-then-not-is_address_byte-clause-part c =
    let line = c.args.line.now in
    let here : is_address_byte (get_or line c.loop-end.end 0) ≡ false = cc in
    ap (λ n. take n line) (sym (prefix_len_is is_address_byte line c.loop-end.end 0 (omega arith) c.loop-end.invariant (λ _. here)))

pub returns-clause-part : goal.returns-clause-part
returns-clause-part c =
    let line = c.args.line.now in
    sym (take_all (length line) line (omega arith)) ∙ ap (λ n. take n line) (sym (prefix_len_is is_address_byte line (length line) 0 (omega arith) (λ k h. c.loop-end.invariant k (omega arith)) (λ h. absurd (omega (arith, h)))))
