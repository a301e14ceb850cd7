use Rattle.std.proofs.Common.{◌≡◌, ◌+◌, ◌*◌, ◌∙◌, ℕ, arith, ap, List}
use Rattle.dc_model.specs.Draws.{word, draws_of}
use Rattle.dc_draws.specs.Drawn.{Drawn}
use Rattle.dc_draws.proofs.NextLemmas.{next_word-moves, next_word-word, words-more, words-all}
use Rattle.dc_draws.proofs.Draws.next.Goals as goal

pub loop-word-preserved : goal.loop-word-preserved
loop-word-preserved c =
    let seed : List ℕ = c.loop-word.self-inside.seed in
    let first : ℕ = 17 * c.loop-word.self-inside.given in
    let index : ℕ = c.loop-word.word-index in
    let given_is = c.loop-word.invariant.1 in
    let given_now : c.self.inside.given ≡ c.args.self.now.given = ap (λ (d : Drawn). d.given) c.self.view_is in
    let before = c.loop-word.invariant.2 in (
      c.loop-word.invariant.0,
      given_is,
      next_word-moves seed (first + index) (first + (index + 1)) c.loop-word.self-inside.rng c.next_word.new.self c.next_word.result before (omega arith) (omega (arith, c.requires)) c.next_word.ensures,
      words-more (λ k. word seed (first + k)) c.loop-word.word-items index c.next_word.result (omega arith) c.loop-word.invariant.3
          (next_word-word seed (first + index) c.loop-word.self-inside.rng c.next_word.new.self c.next_word.result before c.next_word.ensures),
    )

pub returns-clause-words : goal.returns-clause-words
returns-clause-words c =
    let seed_is : c.loop-word.self-inside.seed ≡ c.args.self.now.seed = c.loop-word.invariant.0 ∙ ap (λ (d : Drawn). d.seed) c.self.view_is in
    let given_is : c.loop-word.self-inside.given ≡ c.args.self.now.given = c.loop-word.invariant.1 ∙ ap (λ (d : Drawn). d.given) c.self.view_is in
    words-all c.loop-word.self-inside.seed c.loop-word.word-items c.loop-word.self-inside.given c.loop-word-test.array_long (λ k h. c.loop-word.invariant.3 k (omega arith))
    ∙ ap (λ s. draws_of s c.loop-word.self-inside.given) seed_is ∙ ap (λ n. draws_of c.args.self.now.seed n) given_is
