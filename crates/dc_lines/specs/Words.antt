-- Words that are put behind a line.
use Rattle.std.specs.Prelude.{ℕ, List, ◌∷◌, ◌++◌, fold}

-- A line with a further word behind a space.
abbrev pub spaced : List ℕ → List ℕ → List ℕ
spaced line word = line ++ 32 ∷ word

-- A line with further words, each behind a space.
abbrev pub with_words : List ℕ → List (List ℕ) → List ℕ
with_words line ws = fold spaced line ws
