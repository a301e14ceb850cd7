-- Bytes that are gathered, and the message in them.
use Rattle.std.proofs.Common.{◌≡◌, ℕ, zero, suc, ◌+◌, ◌-◌, ◌≤◌, ◌<◌, min, Bool, true, false, nat_le, ◌&&◌, List, [], ◌∷◌, ◌++◌, length, take, drop, refl, sym, ◌∙◌, ap, arith, true≢false}
use Rattle.std.proofs.lemmas.List.{drop-take, take_min}
use Rattle.std.proofs.lemmas.Bool.Decides.{nat_tests}
use Rattle.std.proofs.Math.Seq.{take-append-add}
use Rattle.std.specs.Int.{w16, from_be_bytes}
use Rattle.dc_model.specs.Message.{u16_at}
use Rattle.dc_model.specs.Transmission.{is_whole}
use Rattle.dc_transmit.specs.Gathered.{appended, message_of}

pub taken : (k n : ℕ) (xs : List ℕ) → k ≤ n → take k (take n xs) ≡ take k xs
taken zero n xs h = refl
taken (suc k) zero xs h = absurd (omega (arith, h))
taken (suc k) (suc n) [] h = refl
taken (suc k) (suc n) (x ∷ xs) h = ap (λ r. x ∷ r) (taken k n xs (omega (arith, h)))

-- The number of the first two bytes.
pub number_taken : (n : ℕ) (xs : List ℕ) → 2 ≤ n → u16_at (take n xs) 0 ≡ u16_at xs 0
number_taken n xs h = ap (λ r. from_be_bytes w16 r) (taken 2 n xs h)

-- What stands behind them.
behind_taken : (k n : ℕ) (xs : List ℕ) → 2 + k ≤ n → take k (drop 2 (take n xs)) ≡ take k (drop 2 xs)
behind_taken k n xs h =
    let e : n ≡ 2 + (n - 2) = omega arith in
    let a : drop 2 (take n xs) ≡ take (n - 2) (drop 2 xs) = ap (λ m. drop 2 (take m xs)) e ∙ drop-take 2 (n - 2) xs in
    ap (λ r. take k r) a ∙ taken k (n - 2) (drop 2 xs) (omega arith)

pub message_is : (xs bytes : List ℕ) (n k : ℕ) → take n xs ≡ bytes → k ≡ u16_at xs 0 → 2 + k ≤ n → take k (drop 2 xs) ≡ message_of bytes
message_is xs bytes n k v e h =
    let number : u16_at (take n xs) 0 ≡ k = number_taken n xs (omega arith) ∙ sym e in
    let front : take k (drop 2 xs) ≡ message_of (take n xs) = sym (behind_taken k n xs h) ∙ ap (λ m. take m (drop 2 (take n xs))) (sym number) in
    front ∙ ap message_of v

pub kept_is : (bytes : List ℕ) (k : ℕ) → k ≡ u16_at bytes 0 → drop 2 (take (2 + k) bytes) ≡ message_of bytes
kept_is bytes k e = drop-take 2 k bytes ∙ ap (λ m. take m (drop 2 bytes)) e

-- Whole messages

leb_below : (a b : ℕ) → b < a → nat_le a b ≡ false
leb_below a b h = grind (arith, nat_tests)

leb_above : (a b : ℕ) → a ≤ b → nat_le a b ≡ true
leb_above a b h = grind (arith, nat_tests)

and_false : (b : Bool) → (b && false) ≡ false
and_false true = refl
and_false false = refl

pub short_not_whole : (bytes : List ℕ) → length bytes < 2 → is_whole bytes ≡ false
unfolding is_whole
short_not_whole bytes h = ap (λ b. b && nat_le (2 + u16_at bytes 0) (length bytes)) (leb_below 2 (length bytes) h)

pub not_whole : (bytes : List ℕ) (k : ℕ) → k ≡ u16_at bytes 0 → length bytes < 2 + k → is_whole bytes ≡ false
unfolding is_whole
not_whole bytes k e h =
    let second : nat_le (2 + u16_at bytes 0) (length bytes) ≡ false = leb_below (2 + u16_at bytes 0) (length bytes) (omega (arith, e, h)) in
    ap (λ b. nat_le 2 (length bytes) && b) second ∙ and_false (nat_le 2 (length bytes))

pub whole : (bytes : List ℕ) (k : ℕ) → k ≡ u16_at bytes 0 → 2 + k ≤ length bytes → is_whole bytes ≡ true
unfolding is_whole
whole bytes k e h =
    let first : nat_le 2 (length bytes) ≡ true = leb_above 2 (length bytes) (omega (arith, h)) in
    let second : nat_le (2 + u16_at bytes 0) (length bytes) ≡ true = leb_above (2 + u16_at bytes 0) (length bytes) (omega (arith, e, h)) in
    ap (λ b. b && nat_le (2 + u16_at bytes 0) (length bytes)) first ∙ second

and_first : (a b : Bool) → (a && b) ≡ true → a ≡ true
and_first true b h = refl
and_first false b h = h

and_second : (a b : Bool) → (a && b) ≡ true → b ≡ true
and_second true b h = h
and_second false b h = absurd (true≢false (sym h))

leb_tells_least : (a b : ℕ) → nat_le a b ≡ true → a ≤ b
leb_tells_least a b h = grind (arith, nat_tests)

pub whole_least : (bytes : List ℕ) → is_whole bytes ≡ true → (2 ≤ length bytes) × (2 + u16_at bytes 0 ≤ length bytes)
unfolding is_whole
whole_least bytes h =
    (leb_tells_least 2 (length bytes) (and_first _ _ h), leb_tells_least (2 + u16_at bytes 0) (length bytes) (and_second (nat_le 2 (length bytes)) _ h))

-- More bytes

pub appended_is : (bytes more : List ℕ) (count : ℕ) → length bytes ≤ 65537 → count ≡ min (length more) (65537 - length bytes) → bytes ++ take count more ≡ appended bytes more
unfolding appended
appended_is bytes more count l e =
    let least : count ≡ min (65537 - length bytes) (length more) = omega arith in
    let rest : take count more ≡ take (65537 - length bytes) more = ap (λ k. take k more) least ∙ take_min (65537 - length bytes) more in
    let room : 65537 ≡ length bytes + (65537 - length bytes) = omega arith in
    let whole_front : take 65537 (bytes ++ more) ≡ bytes ++ take (65537 - length bytes) more =
    ap (λ k. take k (bytes ++ more)) room ∙ take-append-add bytes more (65537 - length bytes) in
    ap (λ r. bytes ++ r) rest ∙ sym whole_front

pub appended_bytes : (bytes more : List ℕ) → appended bytes more ≡ take 65537 (bytes ++ more)
unfolding appended
appended_bytes bytes more = refl
