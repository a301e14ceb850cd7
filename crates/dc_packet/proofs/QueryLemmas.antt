-- The bytes of a query as they are written.
use Rattle.std.proofs.Common.{◌≡◌, ℕ, ◌+◌, Bool, List, ◌++◌, length, take, replicate, refl, sym, ◌∙◌, ap, arith, append_assoc}
use Rattle.std.proofs.lemmas.List.{length-append}
use Rattle.dc_model.specs.Name.{Name, wire}
use Rattle.dc_model.specs.Message.{u16, query, query_flags, framed}

pub length-query : (n : Name) (kind id : ℕ) (r : Bool) → length (query n kind id r) ≡ 16 + length (wire n)
unfolding query
length-query n kind id r = let c = length-append (wire n) (u16 kind ++ u16 1) in omega (arith, c)

written : (n : Name) (kind id : ℕ) (r : Bool) → (((u16 (length (query n kind id r)) ++ (u16 id ++ (u16 (query_flags r) ++ (u16 1 ++ replicate 6 0)))) ++ wire n) ++ u16 kind) ++ u16 1 ≡ framed (query n kind id r)
unfolding query
written n kind id r = rw (append_assoc (wire n) (u16 kind) (u16 1)) refl

pub query_written : (n : Name) (kind id : ℕ) (r : Bool) (flags len : ℕ) (w a b c d : List ℕ) → w ≡ wire n → flags ≡ query_flags r → len ≡ 16 + length w
    → take 14 a ≡ u16 len ++ (u16 id ++ (u16 flags ++ (u16 1 ++ replicate 6 0))) → take (14 + length w) b ≡ take 14 a ++ w
    → take (14 + length w + 2) c ≡ take (14 + length w) b ++ u16 kind → take (14 + length w + 2 + 2) d ≡ take (14 + length w + 2) c ++ u16 1
    → take (16 + length w + 2) d ≡ framed (query n kind id r)
query_written n kind id r flags len w a b c d e f g h i j k =
    let size : len ≡ length (query n kind id r) = g ∙ ap (λ x. 16 + length x) e ∙ sym (length-query n kind id r) in
    let place : 16 + length w + 2 ≡ 14 + length w + 2 + 2 = omega arith in
    rw (place, k, j, i, h, size, f, e) (written n kind id r)
