use Rattle.std.proofs.Common.{◌≡◌, ◌≢◌, ◌≤◌, ◌<◌, ◌+◌, ◌++◌, ◌∷◌, [], ℕ, length, map, drop, List, ap, sym, ◌∙◌, arith, None, Some, refl}
use Rattle.std.specs.Prelude.{option_map, string_bytes}
use Rattle.std.proofs.lemmas.Grind.{common_steps}
use Rattle.dc_stub.specs.Look.{job_of}
use Rattle.dc_stub.specs.Begun.{bytes_of}
use Rattle.dc_tools.proofs.JobLemmas.{so_far_first, so_far_more, so_far_none, so_far_done, some_are, no_jobs, some_not, rest_is, rest_none}
use Rattle.dc_tools.proofs.words.are_usable.Goals as goal

pub returns-then-is_empty-clause-unusable : goal.returns-then-is_empty-clause-unusable
returns-then-is_empty-clause-unusable g c e =
    let none : length c.args.words.now ≡ 0 = grind (arith, common_steps, c.is_empty.ensures, c.if-is_empty.true) in
    no_jobs g.T.Word.said c.args.words.now none

pub words-init : goal.words-init
words-init g c = ([], so_far_first g.T.Word.said (bytes_of c.args.words.now))

pub returns-in-None-clause-unusable : goal.returns-in-None-clause-unusable
returns-in-None-clause-unusable g c e =
    let words = c.args.words.now in
    let within : c.words.at < length words = c.words-test.true in
    let so = c.words.invariant in
    let none : g.T.Word.said (string_bytes c.index-words-at.result) ≡ None =
    ap (λ (w : List ℕ). g.T.Word.said w) (sym c.as_bytes.ensures.value) ∙ sym c.job.ensures ∙ ap (λ o. option_map job_of o) c.in-None.is in
    some_are g.T.Word.said words (omega (arith, within))
    ∙ so_far_none g.T.Word.said (bytes_of words) so.0 (bytes_of (drop c.words.at words)) (bytes_of (drop (c.words.at + 1) words)) (string_bytes c.index-words-at.result) so.1
    (rest_is words c.words.at c.index-words-at.result within c.index-words-at.is) none

pub words-preserved : goal.words-preserved
words-preserved g c =
    let words = c.args.words.now in
    let within : c.words.at < length words = c.words-test.true in
    let so = c.words.invariant in
    let some : g.T.Word.said (string_bytes c.index-words-at.result) ≡ Some (job_of c.in-Some.field-0) =
    ap (λ (w : List ℕ). g.T.Word.said w) (sym c.as_bytes.ensures.value) ∙ sym c.job.ensures ∙ ap (λ o. option_map job_of o) c.in-Some.is in (
      so.0 ++ (job_of c.in-Some.field-0 ∷ []),
      so_far_more g.T.Word.said (bytes_of words) so.0 (bytes_of (drop c.words.at words)) (bytes_of (drop (c.words.at + 1) words)) (string_bytes c.index-words-at.result) (job_of c.in-Some.field-0) so.1
          (rest_is words c.words.at c.index-words-at.result within c.index-words-at.is) some,
    )

pub returns-clause-usable : goal.returns-clause-usable
returns-clause-usable g c e =
    let words = c.args.words.now in
    let some : 1 ≤ length words = grind (arith, common_steps, c.is_empty.ensures, c.if-is_empty.false) in
    let all : length words ≤ c.words.at = grind (arith, c.words-test.false) in
    let so = c.words.invariant in
    some_not _ so.0 (some_are g.T.Word.said words some ∙ so_far_done g.T.Word.said (bytes_of words) so.0 (bytes_of (drop c.words.at words)) so.1 (rest_none words c.words.at all))
