-- The bytes of a stream, as a part of a buffer.
use Rattle.std.proofs.Common.{◌≡◌, ℕ, ◌+◌, ◌-◌, ◌≤◌, ◌<◌, Bool, true, false, nat_le, ◌&&◌, List, ◌++◌, length, take, drop, refl, sym, ◌∙◌, ap, arith, true≢false}
use Rattle.std.proofs.lemmas.List.{length-take, drop-take, drop-drop, drop-append-le}
use Rattle.std.proofs.lemmas.Bool.Decides.{nat_tests}
use Rattle.dc_model.specs.Message.{u16_at}
use Rattle.dc_model.specs.Transmission.{is_whole}

-- Whole messages

and_first : (a b : Bool) → (a && b) ≡ true → a ≡ true
and_first true b h = refl
and_first false b h = h

and_second : (a b : Bool) → (a && b) ≡ true → b ≡ true
and_second true b h = h
and_second false b h = absurd (true≢false (sym h))

least : (a b : ℕ) → nat_le a b ≡ true → a ≤ b
least a b h = grind (arith, nat_tests)

below : (a b : ℕ) → b < a → nat_le a b ≡ false
below a b h = grind (arith, nat_tests)

above : (a b : ℕ) → a ≤ b → nat_le a b ≡ true
above a b h = grind (arith, nat_tests)

-- A message that is whole has a length in two bytes, and as many bytes behind them.
pub whole_length : (bytes : List ℕ) → is_whole bytes ≡ true → 2 ≤ length bytes
unfolding is_whole
whole_length bytes h = least 2 (length bytes) (and_first _ _ h)

pub whole_behind : (bytes : List ℕ) → is_whole bytes ≡ true → 2 + u16_at bytes 0 ≤ length bytes
unfolding is_whole
whole_behind bytes h = least (2 + u16_at bytes 0) (length bytes) (and_second (nat_le 2 (length bytes)) _ h)

pub short_not_whole : (bytes : List ℕ) → length bytes < 2 → false ≡ is_whole bytes
unfolding is_whole
short_not_whole bytes h = let e : nat_le 2 (length bytes) ≡ false = below 2 (length bytes) h in sym (ap (λ b. b && nat_le (2 + u16_at bytes 0) (length bytes)) e)

pub whole_by : (bytes : List ℕ) (k : ℕ) → 2 ≤ length bytes → k ≡ u16_at bytes 0 → nat_le (2 + k) (length bytes) ≡ is_whole bytes
unfolding is_whole
whole_by bytes k h e =
    let first : nat_le 2 (length bytes) ≡ true = above 2 (length bytes) h in
    ap (λ n. nat_le (2 + n) (length bytes)) e ∙ sym (ap (λ b. b && nat_le (2 + u16_at bytes 0) (length bytes)) first)

-- Parts

pub part_most : (xs bytes : List ℕ) (start n : ℕ) → take n (drop start xs) ≡ bytes → length bytes ≤ n
part_most xs bytes start n v =
    let e : length (take n (drop start xs)) ≡ length bytes = ap length v in
    omega (arith, length-take n (drop start xs))

-- Behind the first bytes of a part.
pub part_behind : (xs bytes : List ℕ) (start n k : ℕ) → take n (drop start xs) ≡ bytes → k ≤ n → take (n - k) (drop (start + k) xs) ≡ drop k bytes
part_behind xs bytes start n k v h =
    let e : k + (n - k) ≡ n = omega arith in
    let moved : take (n - k) (drop (start + k) xs) ≡ take (n - k) (drop k (drop start xs)) = ap (take (n - k)) (sym (drop-drop k start xs)) in
    let part : take (n - k) (drop k (drop start xs)) ≡ drop k (take (k + (n - k)) (drop start xs)) = sym (drop-take k (n - k) (drop start xs)) in
    moved ∙ (part ∙ (ap (λ m. drop k (take m (drop start xs))) e ∙ ap (drop k) v))

-- A part with bytes written behind it.
pub part_more : (xs ys zs bytes more : List ℕ) (start begin n : ℕ) → take n (drop start xs) ≡ bytes → take n (drop begin ys) ≡ take n (drop start xs)
    → begin + n ≤ length ys → take (begin + n + length more) zs ≡ take (begin + n) ys ++ more → take (n + length more) (drop begin zs) ≡ bytes ++ more
part_more xs ys zs bytes more start begin n v e room h =
    let sum : begin + (n + length more) ≡ begin + n + length more = omega arith in
    let size : begin ≤ length (take (begin + n) ys) = omega (arith, length-take (begin + n) ys) in
    let part : take (n + length more) (drop begin zs) ≡ drop begin (take (begin + n + length more) zs) =
    sym (drop-take begin (n + length more) zs) ∙ ap (λ m. drop begin (take m zs)) sum in
    let split : drop begin (take (begin + n) ys ++ more) ≡ drop begin (take (begin + n) ys) ++ more = drop-append-le begin (take (begin + n) ys) more size in
    let old : drop begin (take (begin + n) ys) ≡ bytes = drop-take begin n ys ∙ (e ∙ v) in
    part ∙ (ap (drop begin) h ∙ (split ∙ ap (λ b. b ++ more) old))
