use Rattle.std.proofs.Common.{◌≡◌, ℕ, ◌+◌, ◌≤◌, [], ◌∷◌, List, length, refl, sym, ap, ◌∙◌, arith}
use Rattle.arrayvec.specs.ArrayVec.{array_vec_len}
use Rattle.dc_model.specs.Name.{Name, wire}
use Rattle.dc_show.proofs.DotLemmas.{dot_root, dot_first, wire_more}
use Rattle.dc_show.proofs.names.dot.Goals as goal

pub returns-in_default : goal.returns-in_default
returns-in_default c =
    let root : c.args.name.now ≡ [] = sym c.suffix-first.ensures.value ∙ c.parent.ensures.root.0 (rw c.in_default.is refl) in
    dot_root c.args.name.now c.push.new.self.items root (c.push.ensures.items ∙ rw c.clear.ensures refl)

pub loop-above-init : goal.loop-above-init
loop-above-init c =
    let is : c.args.name.now ≡ c.label.result.now ∷ c.in-Some.rest = sym c.suffix-first.ensures.value ∙ c.in-Some.ensures.first ∙ ap (λ (l : List ℕ). l ∷ c.in-Some.rest) (sym c.label.ensures.value) in
    let long : length (wire c.args.name.now) ≤ 255 = c.suffix-first.ensures.name.whole in
    let wide : length (wire (c.label.result.now ∷ c.in-Some.rest)) ≡ 1 + length c.label.result.now + length (wire c.in-Some.rest) = wire_more c.label.result.now c.in-Some.rest in
    let none : array_vec_len c.clear.new.self ≡ 0 = rw c.clear.ensures refl in
    let same : length (wire c.args.name.now) ≡ length (wire (c.label.result.now ∷ c.in-Some.rest)) = ap (λ (n : Name). length (wire n)) is in (
      dot_first c.args.name.now c.label.result.now c.in-Some.rest c.push_label.new.out.items is (c.push_label.ensures.items ∙ rw c.clear.ensures refl),
      omega (arith, long, wide, same, none, c.push_label.ensures.len),
    )
