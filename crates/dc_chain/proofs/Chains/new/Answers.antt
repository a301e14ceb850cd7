use Rattle.std.proofs.Common.{◌≡◌, ◌≤◌, ℕ, List, [], length, replicate, sym, ◌∙◌, ap, arith, subst}
use Rattle.std.proofs.lemmas.List.{length-replicate}
use Rattle.dc_model.specs.Cache.{hsize}
use Rattle.dc_model.specs.Layout.{Holds}
use Rattle.dc_model.proofs.ImageLemmas.{empty_layout}
use Rattle.dc_chain.proofs.Chains.new.Goals as goal

-- zeros hold nothing
none_held : (b : List ℕ) (size : ℕ) → 100 ≤ size → size ≤ 1000000000 → b ≡ replicate size 0 → Holds b (length b) []
none_held b size h k e =
    let P : List ℕ → Type 0 = λ d. Holds d size [] in
    let Q : ℕ → Type 0 = λ n. Holds b n [] in
    subst Q (sym (ap (λ d. length d) e ∙ length-replicate size 0)) (subst P (sym e) (empty_layout size h k).holds)

pub invariant_of-result : goal.invariant_of-result
invariant_of-result c =
    let b : List ℕ = c.in_ok-new.field-0 in
    let n : length b ≡ c.args.size = ap (λ d. length d) c.in_ok-new.ensures ∙ length-replicate c.args.size 0 in
    record {
      least = omega arith;
      most = omega arith;
      heads = c.hsize_of.ensures ∙ ap hsize (sym n);
      ps = [];
      holds = none_held b c.args.size c.requires.least c.requires.most c.in_ok-new.ensures;
    }

pub returns-clause-empty : goal.returns-clause-empty
returns-clause-empty c =
    let b : List ℕ = c.in_ok-new.field-0 in
    let n : length b ≡ c.args.size = ap (λ d. length d) c.in_ok-new.ensures ∙ length-replicate c.args.size 0 in
    let P : ℕ → Type 0 = λ k. Holds b k [] in
    subst P n (none_held b c.args.size c.requires.least c.requires.most c.in_ok-new.ensures)
