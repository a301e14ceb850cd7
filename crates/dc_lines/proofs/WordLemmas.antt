-- Words behind one another.
use Rattle.std.proofs.Common.{◌≡◌, ℕ, List, [], ◌∷◌, ◌++◌, refl, ◌∙◌}
use Rattle.std.proofs.lemmas.List.{append_assoc}
use Rattle.dc_model.specs.Line.{words}
use Rattle.dc_lines.specs.Words.{spaced, with_words}

words-two : (a b : List ℕ) (ws : List (List ℕ)) → words (a ∷ b ∷ ws) ≡ words (spaced a b ∷ ws)
words-two a b [] = refl
words-two a b (w ∷ ws) = simp append_assoc

-- Words are put one behind another.
pub words_fold : (w : List ℕ) (ws : List (List ℕ)) → words (w ∷ ws) ≡ with_words w ws
words_fold w [] = refl
words_fold w (v ∷ vs) = words-two w v vs ∙ words_fold (spaced w v) vs

-- One word more.
pub with_words-append : (line : List ℕ) (ws : List (List ℕ)) (w : List ℕ) → with_words line (ws ++ w ∷ []) ≡ spaced (with_words line ws) w
with_words-append line [] w = refl
with_words-append line (v ∷ vs) w = with_words-append (spaced line v) vs w
