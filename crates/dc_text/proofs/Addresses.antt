-- Octets, part by part.
use Rattle.std.proofs.Common.{◌≡◌, ℕ, List, ◌++◌, option_map}
use Rattle.dc_model.specs.Name.{octets_of, dotted_parts}

-- The octets of all parts: those found, and then those of the parts that are left.
abbrev pub Found : List ℕ → List ℕ → List (List ℕ) → Type 0
Found text found left = octets_of (dotted_parts text) ≡ option_map (λ ns. found ++ ns) (octets_of left)
