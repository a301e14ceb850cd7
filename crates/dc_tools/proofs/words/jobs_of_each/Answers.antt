use Rattle.std.proofs.Common.{◌≡◌, ◌≢◌, ◌≤◌, ◌<◌, ◌+◌, ◌++◌, ◌∷◌, [], ℕ, length, map, drop, List, ap, sym, ◌∙◌, arith, None, Some, refl}
use Rattle.std.specs.Prelude.{option_map, string_bytes}
use Rattle.std.proofs.lemmas.Grind.{common_steps}
use Rattle.dc_lookup.specs.Words.{some_each}
use Rattle.dc_stub.specs.Look.{job_of}
use Rattle.dc_stub.specs.Begun.{bytes_of}
use Rattle.dc_tools.proofs.JobLemmas.{so_far_none, so_far_done, some_are, some_long, rest_is, rest_none}
use Rattle.dc_tools.proofs.words.jobs_of_each.Goals as goal

pub returns-in-None-clause-usage : goal.returns-in-None-clause-usage
returns-in-None-clause-usage g c e =
    let words = c.args.words.now in
    let within : c.words.at < length words = c.words-test.true in
    let none : g.T.Word.said (string_bytes c.index-words-at.result) ≡ None =
    ap (λ (w : List ℕ). g.T.Word.said w) (sym c.as_bytes.ensures.value) ∙ sym c.job.ensures ∙ ap (λ o. option_map job_of o) c.in-None.is in
    some_are g.T.Word.said words (omega (arith, within))
    ∙ so_far_none g.T.Word.said (bytes_of words) (map job_of c.words.jobs.items) (bytes_of (drop c.words.at words)) (bytes_of (drop (c.words.at + 1) words)) (string_bytes c.index-words-at.result) c.words.invariant
    (rest_is words c.words.at c.index-words-at.result within c.index-words-at.is) none

pub returns-clause-jobs : goal.returns-clause-jobs
returns-clause-jobs g c =
    let words = c.args.words.now in
    let some : 1 ≤ length words = some_long g.T.Word.said words (c.are_usable.ensures.usable c.if-not-are_usable.false) in
    let all : length words ≤ c.words.at = grind (arith, c.words-test.false) in
    some_are g.T.Word.said words some ∙ so_far_done g.T.Word.said (bytes_of words) (map job_of c.words.jobs.items) (bytes_of (drop c.words.at words)) c.words.invariant (rest_none words c.words.at all)
