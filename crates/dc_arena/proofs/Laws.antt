-- What is read in a block after a write.
use Rattle.std.proofs.Common.{◌≡◌, ℕ, ◌+◌, ◌-◌, ◌<◌, ◌≤◌, ◌^◌, List, ◌++◌, length, take, drop, refl, sym, ◌∙◌, ap, arith, ◌⊎◌, ⊎_elim}
use Rattle.std.proofs.lemmas.List.{length-take, length-drop, length-append, take-append-le, drop-append-le, drop-drop, drop-take, take-take}
use Rattle.std.proofs.Math.Seq.{take-append_seam, drop-append_seam, drop-append-add}
use Rattle.std.specs.Int.{from_le_bytes, to_le_bytes, from_be_bytes, to_be_bytes, w32, w64}
use Rattle.std.proofs.lemmas.Nat.{from_le_bytes-to_le_bytes_4, from_be_bytes-to_be_bytes_8}
use Rattle.dc_model.specs.Block.{part, stored, get4, set4, get8, set8}

pub length-stored : (b : List ℕ) (at : ℕ) (ws : List ℕ) → at + length ws ≤ length b → length (stored b at ws) ≡ length b
length-stored b at ws h =
    let t = length-take at b in
    let d = length-drop (at + length ws) b in
    let x = length-append (take at b) (ws ++ drop (at + length ws) b) in
    let y = length-append ws (drop (at + length ws) b) in
    omega arith

-- what follows the place where the writing began
after_start : (b : List ℕ) (at : ℕ) (ws : List ℕ) → at ≤ length b → drop at (stored b at ws) ≡ ws ++ drop (at + length ws) b
after_start b at ws h =
    let t = length-take at b in
    let e : length (take at b) ≡ at = omega arith in
    ap (λ k. drop k (stored b at ws)) (sym e) ∙ drop-append_seam (take at b) (ws ++ drop (at + length ws) b)

pub part-stored_same : (b : List ℕ) (at : ℕ) (ws : List ℕ) → at ≤ length b → part (stored b at ws) at (length ws) ≡ ws
part-stored_same b at ws h = ap (take (length ws)) (after_start b at ws h) ∙ take-append_seam ws (drop (at + length ws) b)

pub part-stored_below : (b : List ℕ) (at : ℕ) (ws : List ℕ) (p n : ℕ) → at ≤ length b → p + n ≤ at → part (stored b at ws) p n ≡ part b p n
part-stored_below b at ws p n h k =
    let t = length-take at b in
    let d = length-drop p (take at b) in
    let e : p + (at - p) ≡ at = omega arith in
    ap (take n) (drop-append-le p (take at b) (ws ++ drop (at + length ws) b) (omega arith))
    ∙ take-append-le n (drop p (take at b)) (ws ++ drop (at + length ws) b) (omega arith)
    ∙ ap (λ m. take n (drop p (take m b))) (sym e)
    ∙ ap (take n) (drop-take p (at - p) b)
    ∙ take-take n (at - p) (drop p b) (omega arith)

pub part-stored_above : (b : List ℕ) (at : ℕ) (ws : List ℕ) (p n : ℕ) → at ≤ length b → at + length ws ≤ p → part (stored b at ws) p n ≡ part b p n
part-stored_above b at ws p n h k =
    let e : p ≡ at + (length ws + (p - at - length ws)) = omega arith in
    let f : at + length ws + (p - at - length ws) ≡ p = omega arith in
    let m : ℕ = p - at - length ws in
    ap (take n) (ap (λ q. drop q (stored b at ws)) e
    ∙ sym (drop-drop (length ws + m) at (stored b at ws))
    ∙ ap (drop (length ws + m)) (after_start b at ws h)
    ∙ drop-append-add ws (drop (at + length ws) b) m
    ∙ drop-drop m (at + length ws) b
    ∙ ap (λ q. drop q b) f)

-- 4-byte numbers

pub length-set4 : (b : List ℕ) (at n : ℕ) → at + 4 ≤ length b → length (set4 b at n) ≡ length b
unfolding set4
length-set4 b at n h = length-stored b at (to_le_bytes w32 n) h

pub get4-set4_same : (b : List ℕ) (at n : ℕ) → at + 4 ≤ length b → n < 2 ^ 32 → get4 (set4 b at n) at ≡ n
unfolding get4 set4
get4-set4_same b at n h k = ap (from_le_bytes w32) (part-stored_same b at (to_le_bytes w32 n) (omega arith)) ∙ from_le_bytes-to_le_bytes_4 n k

pub get8-set8_same : (b : List ℕ) (at n : ℕ) → at + 8 ≤ length b → n < 2 ^ 64 → get8 (set8 b at n) at ≡ n
unfolding get8 set8
get8-set8_same b at n h k = ap (from_be_bytes w64) (part-stored_same b at (to_be_bytes w64 n) (omega arith)) ∙ from_be_bytes-to_be_bytes_8 n k

pub part-set4_other : (b : List ℕ) (at n p k : ℕ) → at + 4 ≤ length b → (p + k ≤ at) ⊎ (at + 4 ≤ p) → part (set4 b at n) p k ≡ part b p k
unfolding set4
part-set4_other b at n p k h o = ⊎_elim
    (λ l. part-stored_below b at (to_le_bytes w32 n) p k (omega arith) l)
    (λ l. part-stored_above b at (to_le_bytes w32 n) p k (omega arith) l) o

pub get4-set4_other : (b : List ℕ) (at n p : ℕ) → at + 4 ≤ length b → (p + 4 ≤ at) ⊎ (at + 4 ≤ p) → get4 (set4 b at n) p ≡ get4 b p
unfolding get4
get4-set4_other b at n p h o = ap (from_le_bytes w32) (part-set4_other b at n p 4 h o)

pub get8-set4_other : (b : List ℕ) (at n p : ℕ) → at + 4 ≤ length b → (p + 8 ≤ at) ⊎ (at + 4 ≤ p) → get8 (set4 b at n) p ≡ get8 b p
unfolding get8
get8-set4_other b at n p h o = ap (from_be_bytes w64) (part-set4_other b at n p 8 h o)

pub set4-is : (b : List ℕ) (at n : ℕ) → set4 b at n ≡ stored b at (to_le_bytes w32 n)
unfolding set4
set4-is b at n = refl

pub set8-is : (b : List ℕ) (at n : ℕ) → set8 b at n ≡ stored b at (to_be_bytes w64 n)
unfolding set8
set8-is b at n = refl

pub part-stored_other : (b : List ℕ) (at : ℕ) (ws : List ℕ) (p n : ℕ) → at ≤ length b → (p + n ≤ at) ⊎ (at + length ws ≤ p) → part (stored b at ws) p n ≡ part b p n
part-stored_other b at ws p n h o = ⊎_elim (λ l. part-stored_below b at ws p n h l) (λ l. part-stored_above b at ws p n h l) o

pub get4-stored_other : (b : List ℕ) (at : ℕ) (ws : List ℕ) (p : ℕ) → at ≤ length b → (p + 4 ≤ at) ⊎ (at + length ws ≤ p) → get4 (stored b at ws) p ≡ get4 b p
unfolding get4
get4-stored_other b at ws p h o = ap (from_le_bytes w32) (part-stored_other b at ws p 4 h o)

pub get8-stored_other : (b : List ℕ) (at : ℕ) (ws : List ℕ) (p : ℕ) → at ≤ length b → (p + 8 ≤ at) ⊎ (at + length ws ≤ p) → get8 (stored b at ws) p ≡ get8 b p
unfolding get8
get8-stored_other b at ws p h o = ap (from_be_bytes w64) (part-stored_other b at ws p 8 h o)

pub get4-part : (b : List ℕ) (at n : ℕ) → n < 2 ^ 32 → part b at 4 ≡ to_le_bytes w32 n → get4 b at ≡ n
unfolding get4
get4-part b at n k h = ap (from_le_bytes w32) h ∙ from_le_bytes-to_le_bytes_4 n k

pub get8-part : (b : List ℕ) (at n : ℕ) → n < 2 ^ 64 → part b at 8 ≡ to_be_bytes w64 n → get8 b at ≡ n
unfolding get8
get8-part b at n k h = ap (from_be_bytes w64) h ∙ from_be_bytes-to_be_bytes_8 n k
