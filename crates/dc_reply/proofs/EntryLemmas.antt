-- Suffixes that are kept by their bytes.
use Rattle.std.proofs.Common.{◌≡◌, ℕ, Bool, true, List, ◌++◌, length, take, sym, ap, ◌∙◌, subst}
use Rattle.std.specs.Str.{str_to_ascii_lowercase}
use Rattle.std.proofs.Math.Seq.{take-append_seam}
use Rattle.dc_model.specs.Name.{Name, IsName, lower, name_eq, same, wire}
use Rattle.dc_name.specs.Wire.{IsWire, name_of}
use Rattle.dc_name.proofs.WireLemmas.{IsWire-of, name_of-is, same_test, same-bytes, bytes-same}

-- A test of bytes, case aside, is the test of the suffix against a name.
pub test-is : (bs ws : List ℕ) (n : Name) (b : Bool) → IsWire bs → IsName n → ws ≡ wire n
    → (b ≡ true → str_to_ascii_lowercase bs ≡ str_to_ascii_lowercase ws) → (str_to_ascii_lowercase bs ≡ str_to_ascii_lowercase ws → b ≡ true)
    → b ≡ name_eq (lower (name_of bs)) (lower n)
test-is bs ws n b h k e f g =
    let good : IsWire ws = IsWire-of ws n k e in
    let test : b ≡ same (name_of bs) (name_of ws) =
    same_test b (same (name_of bs) (name_of ws)) (λ t. same-bytes bs ws h good (f t)) (λ t. g (bytes-same bs ws h good t)) in
    test ∙ ap (λ (m : Name). same (name_of bs) m) (name_of-is ws n k e)

-- The bytes that were written at the front.
pub front-is : (ws new rest : List ℕ) → new ≡ ws → take (length ws) (new ++ rest) ≡ ws
front-is ws new rest e = ap (λ l. take (length ws) (l ++ rest)) e ∙ take-append_seam ws rest

-- They are a name's, and of the suffix.
pub front-IsWire : (ws new rest : List ℕ) (n : Name) → IsName n → ws ≡ wire n → new ≡ ws → IsWire (take (length ws) (new ++ rest))
front-IsWire ws new rest n h e f = subst IsWire (sym (front-is ws new rest f)) (IsWire-of ws n h e)

pub front-name : (ws new rest : List ℕ) (n : Name) → IsName n → ws ≡ wire n → new ≡ ws → name_of (take (length ws) (new ++ rest)) ≡ n
front-name ws new rest n h e f = ap name_of (front-is ws new rest f) ∙ name_of-is ws n h e
