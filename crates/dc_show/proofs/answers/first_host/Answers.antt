use Rattle.std.proofs.Common.{◌≡◌, ℕ, ◌<◌, length, arith, ◌∙◌, sym}
use Rattle.std.specs.Prelude.{slice_get, Some, None}
use borrow.Author.Count.{below_more}
use Rattle.dc_model.specs.Message.{Record}
use Rattle.dc_show.specs.Parts.{host_part}
use Rattle.dc_show.proofs.PartLemmas.{is_there, no_host, a_host}
use Rattle.dc_show.proofs.answers.first_host.Goals as goal

pub loop-at-preserved : goal.loop-at-preserved
loop-at-preserved c =
    let records = c.args.message.now.records in
    below_more (λ (k : ℕ). (r : Record) → slice_get records k ≡ Some r → host_part r ≡ None) c.loop-at.at c.loop-at.invariant
    (λ r e. sym (c.host_at.ensures r e) ∙ c.in_default.is)

pub returns-in-Some : goal.returns-in-Some
returns-in-Some c =
    let records = c.args.message.now.records in
    let there = is_there records c.loop-at.at (omega (arith, c.count-at-end.ensures.value)) in
    a_host c.args.message.now c.loop-at.at there.0 c.in-Some.name c.loop-at.invariant there.1 (sym c.in-Some.is ∙ c.host_at.ensures there.0 there.1)

pub returns : goal.returns
returns c = no_host c.args.message.now (λ k l r e. c.loop-at.invariant k (omega (arith, l, c.count-at-end.ensures.value)) r e)
