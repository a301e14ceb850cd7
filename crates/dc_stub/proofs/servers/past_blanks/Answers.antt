use Rattle.std.proofs.Common.{◌≡◌, false, length, get_or, sym, ◌∙◌, arith}
use Rattle.dc_lookup.specs.Servers.{is_blank}
use Rattle.dc_stub.proofs.Blanks.{past_is, left_is}
use Rattle.dc_stub.proofs.servers.past_blanks.Goals as goal

pub returns-then-not-is_blank : goal.returns-then-not-is_blank
returns-then-not-is_blank c =
    let text = c.args.text.now in
    let here : is_blank (get_or text c.loop-end.end 0) ≡ false = cc in
    left_is text c.loop-end.end ∙ sym (past_is text c.loop-end.end (omega arith) c.loop-end.invariant (λ _. here))

pub returns : goal.returns
returns c =
    let text = c.args.text.now in
    left_is text (length text) ∙ sym (past_is text (length text) (omega arith) (λ k h. c.loop-end.invariant k (omega arith)) (λ h. absurd (omega (arith, h))))
