use Rattle.std.proofs.Common.{◌≡◌, ◌+◌, ◌*◌, ℕ, ◌<◌, slice_index_or}
use Rattle.rand_chacha.specs.ChaCha.{of_seed}
use Rattle.dc_model.specs.Draws.{word}
use Rattle.dc_draws.proofs.Draws.next.Given as goal

abbrev pub invariant-loop-word : goal.invariant-loop-word
invariant-loop-word l =
    (l.self-inside.seed ≡ l.initial.self-inside.seed)
    × (l.self-inside.given ≡ l.initial.self-inside.given)
    × (l.self-inside.rng ≡ record (of_seed l.self-inside.seed) { word_pos = 17 * l.self-inside.given + l.word-index })
    × ((k : ℕ) → k < l.word-index → slice_index_or l.word-items k 0 ≡ word l.self-inside.seed (17 * l.self-inside.given + k))
