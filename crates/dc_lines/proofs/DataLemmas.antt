-- What a line shows of a record's data.
use Rattle.std.proofs.Common.{◌≡◌, ℕ, ◌<◌, ◌≤◌, false, List, [], ◌∷◌, ◌++◌, length, take, refl, arith, ◌∙◌, codes, nat_le}
use Rattle.std.proofs.lemmas.Grind.{common_steps}
use Rattle.std.proofs.lemmas.List.{take_all, append-nil, append_assoc}
use Rattle.dc_model.specs.Line.{hex, shown_data}
use Rattle.dc_model.proofs.NameLemmas.{leb_yes}

leb_no : (a b : ℕ) → b < a → nat_le a b ≡ false
leb_no a b h = grind (arith, common_steps)

shown_data-short : (bs : List ℕ) → length bs < 32 → shown_data bs ≡ hex bs
unfolding shown_data
shown_data-short bs h = rw (leb_no 32 (length bs) h, take_all 32 bs (omega arith)) (append-nil (hex bs))

shown_data-long : (bs : List ℕ) → 32 ≤ length bs → shown_data bs ≡ hex (take 32 bs) ++ codes "..."
unfolding shown_data
shown_data-long bs h = rw (leb_yes 32 (length bs) h) refl

-- Data of less than 32 bytes, behind a space.
pub data_short : (line bs a b : List ℕ) → length bs < 32 → a ≡ line ++ 32 ∷ [] → b ≡ a ++ hex bs → b ≡ line ++ 32 ∷ shown_data bs
data_short line bs a b h e f = f ∙ rw (e, append_assoc, shown_data-short bs h) refl

-- Data of 32 bytes or more, behind a space.
pub data_long : (line bs a b c : List ℕ) → 32 ≤ length bs → a ≡ line ++ 32 ∷ [] → b ≡ a ++ hex (take 32 bs) → c ≡ b ++ codes "..." → c ≡ line ++ 32 ∷ shown_data bs
data_long line bs a b c h e f g = g ∙ rw (f, e, shown_data-long bs h) (simp append_assoc)
