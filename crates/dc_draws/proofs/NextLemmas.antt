-- The steps of taking the words of an event.
use Rattle.std.proofs.Common.{◌≡◌, ℕ, ◌+◌, ◌*◌, ◌%◌, ◌^◌, ◌<◌, List, length, arith, ap, ◌∙◌, sym, get_or, set, below_more, get_or-set_other, get_or-set_same, ◌≢◌}
use Rattle.std.proofs.lemmas.List.FromFn.{fill_by_all}
use Rattle.std.proofs.Math.Nat.{mod-eq_of_lt}
use Rattle.rand_chacha.specs.ChaCha.{ChaCha, key_of, next_word}
use Rattle.dc_model.specs.Draws.{word, draws_of}

-- The generator of a seed at a place.
abbrev pub at_place : List ℕ → ℕ → ChaCha
at_place seed n = record { key = key_of seed; stream = 0; word_pos = n }

-- The generator moves on by one place.
pub next_word-moves : (seed : List ℕ) (n m : ℕ) (old new : ChaCha) (result : ℕ) → old ≡ at_place seed n → m ≡ n + 1 → m < 2 ^ 68
    → (result, new) ≡ next_word 10 old → new ≡ at_place seed m
next_word-moves seed n m old new result e f h s =
    let place : (n + 1) % 2 ^ 68 ≡ m = mod-eq_of_lt (omega arith) ∙ sym f in
    ap (λ (p : ℕ × ChaCha). p.1) s ∙ ap (λ (g : ChaCha). (next_word 10 g).1) e ∙ ap (λ k. at_place seed k) place

-- The word at its place.
pub next_word-word : (seed : List ℕ) (n : ℕ) (old new : ChaCha) (result : ℕ) → old ≡ at_place seed n
    → (result, new) ≡ next_word 10 old → result ≡ word seed n
unfolding word
next_word-word seed n old new result e s =
    ap (λ (p : ℕ × ChaCha). p.0) s ∙ ap (λ (g : ChaCha). (next_word 10 g).0) e

-- One more word is written.
pub words-more : (f : ℕ → ℕ) (items : List ℕ) (index value : ℕ) → index < length items → ((k : ℕ) → k < index → get_or items k 0 ≡ f k) → value ≡ f index
    → (k : ℕ) → k < index + 1 → get_or (set items index value) k 0 ≡ f k
words-more f items index value long before now =
    below_more _ _
    (λ k h. let other : k ≢ index = omega arith in rw get_or-set_other (before k h))
    (rw get_or-set_same now)

-- All words are written.
pub words-all : (seed items : List ℕ) (i : ℕ) → length items ≡ 17 → ((k : ℕ) → k < 17 → get_or items k 0 ≡ word seed (17 * i + k)) → items ≡ draws_of seed i
unfolding draws_of
words-all seed items i long each = fill_by_all (λ k. word seed (17 * i + k)) items 17 0 long each
