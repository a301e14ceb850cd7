use Rattle.std.proofs.Common.{◌≡◌, List, ℕ, length, replicate, refl, ◌∙◌, ap, arith}
use Rattle.std.proofs.lemmas.List.{length-replicate}
use Rattle.dc_model.specs.Cache.{hsize}
use Rattle.dc_store_tests.proofs.chains.two_entries_in_a_chain.Goals as goal

heads_of_100 : hsize 100 ≡ 4
unfolding hsize
heads_of_100 = refl

heads_of_3000 : hsize 3000 ≡ 128
unfolding hsize
heads_of_3000 = refl

heads_in : (b : List ℕ) (n : ℕ) → b ≡ replicate n 0 → hsize (length b) ≡ hsize n
heads_in b n e = ap (λ d. hsize (length d)) e ∙ ap hsize (length-replicate n 0)

pub two_entries-requires-clause-after : goal.two_entries-requires-clause-after
two_entries-requires-clause-after g c =
    let h = heads_in c.in_ok-new.field-0 100 c.in_ok-new.ensures.bytes ∙ heads_of_100 in
    omega (arith, h)

pub two_entries-requires-2-clause-after : goal.two_entries-requires-2-clause-after
two_entries-requires-2-clause-after g c =
    let h = heads_in c.in_ok-new-2.field-0 3000 c.in_ok-new-2.ensures.bytes ∙ heads_of_3000 in
    omega (arith, h)
