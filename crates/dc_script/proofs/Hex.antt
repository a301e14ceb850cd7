-- Hexadecimal digits of bytes, in pieces.
use Rattle.std.proofs.Common.{◌≡◌, ℕ, zero, suc, ◌+◌, ◌-◌, ◌≤◌, ◌*◌, ◌/◌, ◌%◌, ◌<◌, List, [], ◌∷◌, ◌++◌, length, slice_index, take, drop, refl, sym, arith, ap, ◌∙◌}
use Rattle.std.proofs.Math.Seq.{take-add}
use Rattle.std.proofs.lemmas.Grind.{common_steps}
use Rattle.hex.specs.Hex.{encode_with, encode_lower, lower_digits}
use Rattle.dc_model.specs.Line.{hex, hex_byte, hex_digit}
use Rattle.dc_script.specs.Text.{bytes_text}

-- The sixteen digits.
digit_is : (n : ℕ) → n < 16 → slice_index lower_digits n ≡ hex_digit n
digit_is zero h = refl
digit_is (suc zero) h = refl
digit_is (suc (suc zero)) h = refl
digit_is (suc (suc (suc zero))) h = refl
digit_is (suc (suc (suc (suc zero)))) h = refl
digit_is (suc (suc (suc (suc (suc zero))))) h = refl
digit_is (suc (suc (suc (suc (suc (suc zero)))))) h = refl
digit_is (suc (suc (suc (suc (suc (suc (suc zero))))))) h = refl
digit_is (suc (suc (suc (suc (suc (suc (suc (suc zero)))))))) h = refl
digit_is (suc (suc (suc (suc (suc (suc (suc (suc (suc zero))))))))) h = refl
digit_is (suc (suc (suc (suc (suc (suc (suc (suc (suc (suc zero)))))))))) h = refl
digit_is (suc (suc (suc (suc (suc (suc (suc (suc (suc (suc (suc zero))))))))))) h = refl
digit_is (suc (suc (suc (suc (suc (suc (suc (suc (suc (suc (suc (suc zero)))))))))))) h = refl
digit_is (suc (suc (suc (suc (suc (suc (suc (suc (suc (suc (suc (suc (suc zero))))))))))))) h = refl
digit_is (suc (suc (suc (suc (suc (suc (suc (suc (suc (suc (suc (suc (suc (suc zero)))))))))))))) h = refl
digit_is (suc (suc (suc (suc (suc (suc (suc (suc (suc (suc (suc (suc (suc (suc (suc zero))))))))))))))) h = refl
digit_is (suc (suc (suc (suc (suc (suc (suc (suc (suc (suc (suc (suc (suc (suc (suc (suc n)))))))))))))))) h = absurd (omega arith)

-- The crate's digits of bytes are those of the texts.
pub encode_is_hex : (bs : List ℕ) → ((i : ℕ) → slice_index bs i < 256) → encode_lower bs ≡ hex bs
unfolding encode_with
encode_is_hex [] h = refl
encode_is_hex (b ∷ bs) h =
    let first : b < 256 = h 0 in
    let high : b / 16 < 16 = omega arith in
    let low : b % 16 < 16 = omega arith in
    let rest : encode_with lower_digits bs ≡ hex bs = encode_is_hex bs (λ i. h (suc i)) in
    rw (digit_is (b / 16) high, digit_is (b % 16) low, rest) refl

-- Pieces of bytes have pieces of digits.
pub hex-append : (xs ys : List ℕ) → hex (xs ++ ys) ≡ hex xs ++ hex ys
hex-append [] ys = refl
hex-append (x ∷ xs) ys = ap (λ t. hex_byte x ++ t) (hex-append xs ys)

pub length-hex : (bs : List ℕ) → length (hex bs) ≡ 2 * length bs
length-hex [] = refl
length-hex (b ∷ bs) = omega (arith, length-hex bs)

-- Some bytes have no dash.
pub bytes_text_some : (bs : List ℕ) → 0 < length bs → bytes_text bs ≡ hex bs
bytes_text_some [] h = absurd (omega arith)
bytes_text_some (b ∷ bs) h = refl

-- A piece more of some bytes.
pub piece_more : (bytes : List ℕ) (at count : ℕ) → take at bytes ++ take (at + count - at) (drop at bytes) ≡ take (at + count) bytes
piece_more bytes at count = let e : at + count - at ≡ count = omega arith in rw e (sym (take-add at count bytes))

pub take_whole : (bytes : List ℕ) (at : ℕ) → length bytes ≤ at → take at bytes ≡ bytes
take_whole bytes at h = grind (arith, common_steps)

pub hex_more : (bytes : List ℕ) (at count : ℕ) → hex (take at bytes) ++ hex (take (at + count - at) (drop at bytes)) ≡ hex (take (at + count) bytes)
hex_more bytes at count = sym (hex-append (take at bytes) (take (at + count - at) (drop at bytes))) ∙ ap hex (piece_more bytes at count)
