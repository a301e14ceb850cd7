use Rattle.std.proofs.Common.{◌↔◌, true, IsTrue, List, [], length, ◌++◌, refl, subst}
use Rattle.std.proofs.lemmas.Bool.{false≢true}
use Rattle.dc_model.specs.Cache.{Entry, hsize}
use Rattle.dc_model.specs.Layout.{end_to_end}
use Rattle.dc_image.specs.Fronts.{Passes, AreBehind, AreNewest}
use Rattle.dc_image.specs.Gathered.{Lies}
use Rattle.dc_image.specs.Loaded.{marked}
use Rattle.dc_image.proofs.FrontLemmas.{is_laid, laid_order, old_stops, young_stops, laid_newest, all_places}
use Rattle.dc_image.proofs.check.check_layout.Goals as goal

pub returns-then-not-are_in_order : goal.returns-then-not-are_in_order
returns-then-not-are_in_order c = (λ e. absurd (false≢true e), λ h. c.if-not-are_in_order.ensures.1 (laid_order c.args.bytes.now (marked c.args.marks) h))

pub returns-then-not-pass : goal.returns-then-not-pass
returns-then-not-pass c = (
  λ e. absurd (false≢true e),
  λ h. absurd (old_stops c.args.bytes.now (marked c.args.marks) (c.if-not-pass.ensures [] (c.in_ok-fronts.ensures c.args.bytes.now c.hsize_of-heads.ensures)) h),
)

pub pass-requires-2-clause-noted : goal.pass-requires-2-clause-noted
pass-requires-2-clause-noted c =
    let p = c.if-not-pass.ensures [] (c.in_ok-fronts.ensures c.args.bytes.now c.hsize_of-heads.ensures) in
    (end_to_end c.args.marks.oldest p.0 ++ [], p.2)

pub returns-then-not-pass-2 : goal.returns-then-not-pass-2
returns-then-not-pass-2 c = (
  λ e. absurd (false≢true e),
  λ h.
      let b = c.args.bytes.now in
      let p = c.if-not-pass.ensures [] (c.in_ok-fronts.ensures b c.hsize_of-heads.ensures) in
      let stop : (es : List Entry) → Lies b c.hsize_of-heads.result c.args.marks.writer es → AreBehind b (end_to_end c.hsize_of-heads.result es ++ (end_to_end c.args.marks.oldest p.0 ++ [])) → ⊥ =
      c.if-not-pass-2.ensures (end_to_end c.args.marks.oldest p.0 ++ []) p.2 in
      absurd (young_stops b (marked c.args.marks) p.0 p.1 c.hsize_of-heads.result c.hsize_of-heads.ensures stop h),
)

pub are_headed-requires-clause-noted : goal.are_headed-requires-clause-noted
are_headed-requires-clause-noted c =
    let p = c.if-not-pass.ensures [] (c.in_ok-fronts.ensures c.args.bytes.now c.hsize_of-heads.ensures) in
    let q = c.if-not-pass-2.ensures (end_to_end c.args.marks.oldest p.0 ++ []) p.2 in
    (end_to_end c.hsize_of-heads.result q.0 ++ (end_to_end c.args.marks.oldest p.0 ++ []), q.2)

pub returns : goal.returns
returns c =
    let b = c.args.bytes.now in
    let m = marked c.args.marks in
    let p = c.if-not-pass.ensures [] (c.in_ok-fronts.ensures b c.hsize_of-heads.ensures) in
    let q : Passes b c.hsize_of-heads.result c.args.marks.writer (end_to_end c.args.marks.oldest p.0 ++ []) c.pass-2.new.self true = c.if-not-pass-2.ensures (end_to_end c.args.marks.oldest p.0 ++ []) p.2 in
    let r : Passes b (hsize (length b)) c.args.marks.writer (end_to_end c.args.marks.oldest p.0 ++ []) c.pass-2.new.self true =
    subst (λ k. Passes b k c.args.marks.writer (end_to_end c.args.marks.oldest p.0 ++ []) c.pass-2.new.self true) c.hsize_of-heads.ensures q in
    let a : IsTrue c.are_headed.result ↔ AreNewest b (all_places b m r.0 p.0) = c.are_headed.ensures (all_places b m r.0 p.0) r.2 in (
      λ e. is_laid b m r.0 p.0 (c.if-not-are_in_order.ensures.0 refl) r.1 p.1 r.2.behind (a.0 e),
      λ h. a.1 (laid_newest b m r.0 p.0 r.1 p.1 h),
    )
