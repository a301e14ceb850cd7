-- Texts as their pieces stand one behind another.
use Rattle.std.proofs.Common.{◌≡◌, ℕ, List, [], ◌∷◌, ◌++◌, length, decimal, refl, arith, slice_index_or, append_assoc}
use Rattle.dc_model.specs.Address.{address_text}

-- An address of four octets.
pub four_octets : (a : List ℕ) → length a ≡ 4 → address_text a
    ≡ (((((decimal (slice_index_or a 0 0) ++ 46 ∷ []) ++ decimal (slice_index_or a 1 0)) ++ 46 ∷ []) ++ decimal (slice_index_or a 2 0)) ++ 46 ∷ []) ++ decimal (slice_index_or a 3 0)
four_octets [] h = absurd (omega arith)
four_octets (a ∷ []) h = absurd (omega arith)
four_octets (a ∷ b ∷ []) h = absurd (omega arith)
four_octets (a ∷ b ∷ c ∷ []) h = absurd (omega arith)
four_octets (a ∷ b ∷ c ∷ d ∷ []) h = simp append_assoc
four_octets (a ∷ b ∷ c ∷ d ∷ e ∷ rest) h = absurd (omega arith)

-- Four bytes are their list.
pub four_bytes : (a : List ℕ) → length a ≡ 4 → slice_index_or a 0 0 ∷ slice_index_or a 1 0 ∷ slice_index_or a 2 0 ∷ slice_index_or a 3 0 ∷ [] ≡ a
four_bytes [] h = absurd (omega arith)
four_bytes (a ∷ []) h = absurd (omega arith)
four_bytes (a ∷ b ∷ []) h = absurd (omega arith)
four_bytes (a ∷ b ∷ c ∷ []) h = absurd (omega arith)
four_bytes (a ∷ b ∷ c ∷ d ∷ []) h = refl
four_bytes (a ∷ b ∷ c ∷ d ∷ e ∷ rest) h = absurd (omega arith)
