use Rattle.std.proofs.Common.{◌≡◌, ℕ, ◌*◌, ◌<◌, length, get_or, refl, ◌∙◌, sym, subst, arith}
use Rattle.std.proofs.lemmas.Bool.{false≢true}
use Rattle.std.proofs.lemmas.List.{get_or_read}
use Rattle.dc_model.specs.Layout.{chain}
use Rattle.dc_model.proofs.SizeLemmas.{hsize_most}
use Rattle.dc_image.specs.Fronts.{no_front, IsFront}
use Rattle.dc_image.proofs.FrontLemmas.{all_headed, front_at, is_head, newest_fits, right_newest}
use Rattle.dc_image.proofs.fronts.Fronts.are_headed.Goals.{then-number_at-front-via-then-number_at-front, then-number_at-front-via-else-number_at-front+then-not-fits}
use Rattle.dc_image.proofs.fronts.Fronts.are_headed.Goals as goal

pub number_at-requires : goal.number_at-requires
number_at-requires c =
    let n = c.requires.noted.1 in
    omega (arith, n.count, c.len-index-end.ensures, c.loop-index-test.true, c.args.self.now.fronts.ok.0, hsize_most (length c.args.block.now) c.requires.least)

pub returns-then-number_at-front : goal.returns-then-number_at-front
returns-then-number_at-front c = λ ps n. (
  λ e. absurd (false≢true e),
  λ h.
      let b = c.args.block.now in
      let k : ℕ = c.loop-index.index in
      let within : k < length c.args.self.now.fronts.items = omega (arith, c.loop-index-test.true, c.len-index-end.ensures, c.args.self.now.fronts.ok.0) in
      let f = c.index-front.result.now in
      let same : f ≡ get_or c.args.self.now.fronts.items k no_front = get_or_read c.args.self.now.fronts.items k f within c.index-front.ensures no_front in
      let is : IsFront b (chain (length b) (4 * k) ps) f = subst (λ x. IsFront b (chain (length b) (4 * k) ps) x) (sym same) (front_at b ps c.args.self.now k n within) in
      let r = h (4 * k) (is_head (length b) (length c.args.self.now.fronts.items) k n.count within) in
      absurd (elim c.then-number_at-front.branch as (λ _. ⊥) [
        | then-number_at-front-via-then-number_at-front w ↦ w.if-number_at-front.true (c.number_at.ensures ∙ right_newest b (4 * k) (chain (length b) (4 * k) ps) f is r.0)
        | then-number_at-front-via-else-number_at-front+then-not-fits w ↦ false≢true (w.if-not-fits.ensures.1 (newest_fits b (4 * k) (chain (length b) (4 * k) ps) f is r.1))
      ]),
)

pub returns : goal.returns
returns c = λ ps n. (
  λ e. all_headed c.args.block.now ps c.args.self.now n (λ k l. c.loop-index.invariant k (omega (arith, l, c.loop-index-test.false, c.len-index-end.ensures, c.args.self.now.fronts.ok.0))),
  λ h. refl,
)
