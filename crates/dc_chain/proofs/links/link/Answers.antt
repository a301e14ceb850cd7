use Rattle.std.proofs.Common.{◌≡◌, ℕ, List, length, sym, ◌∙◌, ap, arith}
use Rattle.std.specs.Prelude.{bit_xor}
use Rattle.dc_model.specs.Block.{get4, set4}
use Rattle.dc_model.proofs.SizeLemmas.{bucket_head}
use Rattle.dc_chain.proofs.Held.{home}
use Rattle.dc_chain.proofs.Front.{linked_some, linked_none, first_fits}
use Rattle.dc_chain.proofs.links.link.Goals as goal
use Rattle.dc_chain.proofs.links.link.Goals.{then-first-ne0, else-first-ne0}

pub get4-link-requires : goal.get4-link-requires
get4-link-requires c =
    let f = c.requires.2 in
    let i = bucket_head (length c.args.arena.now) c.requires.1.entry.key in
    let k = first_fits c.args.arena.now (length c.args.arena.now) c.requires.1 c.requires.0 i f.holds f.stands f.clear c.get4-first.result c.if-first-ne0.true (c.get4-first.ensures ∙ ap (get4 c.args.arena.now) (sym f.bucket_is)) in
    let l = c.set4.ensures.len in
    omega arith

pub set4-requires-then-first-ne0 : goal.set4-requires-then-first-ne0
set4-requires-then-first-ne0 c =
    let f = c.requires.2 in
    let i = bucket_head (length c.args.arena.now) c.requires.1.entry.key in
    let k = first_fits c.args.arena.now (length c.args.arena.now) c.requires.1 c.requires.0 i f.holds f.stands f.clear c.get4-first.result c.if-first-ne0.true (c.get4-first.ensures ∙ ap (get4 c.args.arena.now) (sym f.bucket_is)) in
    let l = c.set4.ensures.len in
    omega arith

pub returns-clause-first : goal.returns-clause-first
returns-clause-first c = λ ps p f.
    let b : List ℕ = c.args.arena.now in
    let n : ℕ = length b in
    let first : ℕ = c.get4-first.result in
    let i = bucket_head n p.entry.key in
    let hd : c.args.head ≡ home n p = sym f.bucket_is in
    let pa : c.args.at ≡ p.at = sym f.place_is in
    elim c.if-first-ne0.branch [
      | then-first-ne0 w ↦
          linked_some b n p ps i f.holds f.stands f.clear c.set4-2.new.self first w.get4-link.result w.if-first-ne0.true (omega arith)
          (c.get4-first.ensures ∙ ap (get4 b) hd)
          (w.get4-link.ensures ∙ ap (λ d. get4 d first) c.set4.ensures.bytes ∙ (λ j. get4 (set4 b (pa j) (bit_xor (hd j) first)) first))
          (omega arith)
          (c.set4-2.ensures.bytes ∙ ap (λ d. set4 d c.args.head c.args.at) (w.arena-is ∙ w.set4-then-first-ne0.ensures.bytes ∙ ap (λ d. set4 d first (bit_xor (bit_xor w.get4-link.result c.args.head) c.args.at)) c.set4.ensures.bytes)
          ∙ (λ j. set4 (set4 (set4 b (pa j) (bit_xor (hd j) first)) first (bit_xor (bit_xor w.get4-link.result (hd j)) (pa j))) (hd j) (pa j)))
      | else-first-ne0 w ↦
          linked_none b n p ps i f.holds f.stands f.clear c.set4-2.new.self first w.if-first-ne0.false
          (c.get4-first.ensures ∙ ap (get4 b) hd)
          (c.set4-2.ensures.bytes ∙ ap (λ d. set4 d c.args.head c.args.at) (w.arena-is ∙ c.set4.ensures.bytes) ∙ (λ j. set4 (set4 b (pa j) (bit_xor (hd j) first)) (hd j) (pa j)))
    ]

pub get4-first-requires : goal.get4-first-requires
get4-first-requires c =
    let f = c.requires.2 in
    let b = c.args.arena.now in
    let i = (bucket_head (length c.args.arena.now) c.requires.1.entry.key).within in
    let e = f.bucket_is in
    let s = f.stands in
    let w = s.within in let a = s.after in
    omega arith

pub set4-requires-2 : goal.set4-requires-2
set4-requires-2 c =
    let f = c.requires.2 in
    let i = (bucket_head (length c.args.arena.now) c.requires.1.entry.key).within in
    let e = f.bucket_is in
    let s = f.stands in
    let v = s.within in let a = s.after in let m = c.set4.ensures.len in
    elim c.if-first-ne0.branch [
      | then-first-ne0 w ↦ let l = w.set4-then-first-ne0.ensures.len in let n = ap (λ d. length d) w.arena-is in omega arith
      | else-first-ne0 w ↦ let n = ap (λ d. length d) w.arena-is in omega arith
    ]
