use Rattle.std.proofs.Common.{◌≡◌, ◌≤◌, ◌^◌, take, arith, slice_index, sym, ◌∙◌, ap, true, Some}
use Rattle.std.specs.List.{list_all}
use Rattle.dc_model.specs.Name.{is_digit, number_value}
use Rattle.dc_text.proofs.Digits.{with_digit, number_over, over_is_none, digits_found, take_all}
use Rattle.dc_text.proofs.numbers.digits.Goals as goal

pub returns-in_err-checked_mul : goal.returns-in_err-checked_mul
returns-in_err-checked_mul c =
    let text = c.args.text.now in
    let value = c.loop-digit.invariant.value in
    let over : 2 ^ 64 ≤ with_digit (number_value (take c.loop-digit.digit-index text)) (slice_index text c.loop-digit.digit-index) = omega (arith, c.in_err-checked_mul.ensures) in
    c.from_residual.ensures ∙ sym (over_is_none (2 ^ 64) text (number_over text c.loop-digit.digit-index (2 ^ 64) c.loop-digit-test.true over))

pub returns-in_err-value : goal.returns-in_err-value
returns-in_err-value c =
    let text = c.args.text.now in
    let value = c.loop-digit.invariant.value in
    let over : 2 ^ 64 ≤ with_digit (number_value (take c.loop-digit.digit-index text)) (slice_index text c.loop-digit.digit-index) =
    omega (arith, c.in_err-value.ensures, c.in_ok-checked_mul.ensures, c.from.ensures) in
    c.from_residual-in_err-value.ensures ∙ sym (over_is_none (2 ^ 64) text (number_over text c.loop-digit.digit-index (2 ^ 64) c.loop-digit-test.true over))

pub returns : goal.returns
returns c =
    let text = c.args.text.now in
    let whole = take_all text c.loop-digit.digit-index c.loop-digit-test.false in
    let value : c.loop-digit.value ≡ number_value text = c.loop-digit.invariant.value ∙ ap number_value whole in
    let all : list_all is_digit text ≡ true = sym (ap (list_all is_digit) whole) ∙ c.loop-digit.invariant.digits in
    ap Some value ∙ sym (digits_found (2 ^ 64) text all (omega (arith, value, c.loop-digit.invariant.fits)))
