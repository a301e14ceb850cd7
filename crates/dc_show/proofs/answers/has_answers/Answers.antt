use Rattle.std.proofs.Common.{◌≡◌, ℕ, ◌<◌, length, arith, false, ◌∙◌, sym}
use Rattle.std.specs.Prelude.{slice_get, Some}
use borrow.Author.Count.{below_more}
use Rattle.dc_model.specs.Message.{Record}
use Rattle.dc_show.specs.Parts.{is_wanted}
use Rattle.dc_show.proofs.PartLemmas.{is_there, wanted_is, some_wanted, none_wanted}
use Rattle.dc_show.proofs.answers.has_answers.Goals as goal

pub loop-at-preserved : goal.loop-at-preserved
loop-at-preserved c =
    let records = c.args.message.now.records in
    below_more (λ (k : ℕ). (r : Record) → slice_get records k ≡ Some r → is_wanted c.args.kind r ≡ false) c.loop-at.at c.loop-at.invariant
    (λ r e. wanted_is c.args.kind records c.loop-at.at c.rr.result r c.rr.ensures e ∙ sym c.is_wanted.ensures ∙ c.if-is_wanted.false)

pub returns-then-is_wanted-clause-some : goal.returns-then-is_wanted-clause-some
returns-then-is_wanted-clause-some c h =
    let records = c.args.message.now.records in
    let there = is_there records c.loop-at.at (omega (arith, c.count-at-end.ensures.value)) in
    some_wanted c.args.kind c.args.message.now c.loop-at.at there.0 there.1
    (wanted_is c.args.kind records c.loop-at.at c.rr.result there.0 c.rr.ensures there.1 ∙ sym c.is_wanted.ensures ∙ c.if-is_wanted.true)

pub returns-clause-none : goal.returns-clause-none
returns-clause-none c h = none_wanted c.args.kind c.args.message.now (λ k l r e. c.loop-at.invariant k (omega (arith, l, c.count-at-end.ensures.value)) r e)
