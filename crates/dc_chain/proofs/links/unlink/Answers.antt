use Rattle.std.proofs.Common.{◌≡◌, ℕ, ◌++◌, List, length, sym, ◌∙◌, ap, arith, subst}
use Rattle.std.specs.Prelude.{bit_xor}
use Rattle.dc_model.specs.Block.{get4, set4}
use Rattle.dc_model.specs.Layout.{Holds}
use Rattle.dc_chain.proofs.Tail.{tail_stands, tail_front, front_is, front_fits, tail_left}
use Rattle.dc_chain.proofs.links.unlink.Goals as goal

pub get4-requires : goal.get4-requires
get4-requires c =
    let r = c.requires in
    let s = tail_stands c.args.arena.now c.args.at r.0 r.1 r.2 r.3 in
    let w = s.within in
    omega arith

pub overflow_add-at : goal.overflow_add-at
overflow_add-at c =
    let r = c.requires in
    let s = tail_stands c.args.arena.now c.args.at r.0 r.1 r.2 r.3 in
    let w = s.within in let z = r.3.holds.small in
    omega arith

pub overflow_add-size : goal.overflow_add-size
overflow_add-size c =
    let r = c.requires in
    let s = tail_stands c.args.arena.now c.args.at r.0 r.1 r.2 r.3 in
    let k = s.bytes.key_len in let l = s.limits.key in
    omega arith

pub overflow_add-at-2 : goal.overflow_add-at-2
overflow_add-at-2 c =
    let r = c.requires in
    let s = tail_stands c.args.arena.now c.args.at r.0 r.1 r.2 r.3 in
    let w = s.within in let z = r.3.holds.small in
    omega arith

pub get4-requires-2 : goal.get4-requires-2
get4-requires-2 c =
    let r = c.requires in
    let s = tail_stands c.args.arena.now c.args.at r.0 r.1 r.2 r.3 in
    let w = s.within in
    omega arith

pub overflow_add-size-2 : goal.overflow_add-size-2
overflow_add-size-2 c =
    let r = c.requires in
    let s = tail_stands c.args.arena.now c.args.at r.0 r.1 r.2 r.3 in
    let k = s.bytes.key_len in let l = s.limits.key in let y = s.bytes.body_len in let m = s.limits.body in
    omega arith

pub get4-before-requires : goal.get4-before-requires
get4-before-requires c =
    let r = c.requires in
    let s = tail_stands c.args.arena.now c.args.at r.0 r.1 r.2 r.3 in
    let w = s.within in
    omega arith

pub get4-link-requires : goal.get4-link-requires
get4-link-requires c =
    let r = c.requires in
    let f = front_fits c.args.arena.now c.args.at r.0 r.1 r.2 r.3 in
    let e = c.get4-before.ensures ∙ front_is c.args.arena.now c.args.at r.0 r.1 r.2 r.3 in
    omega arith

pub set4-requires : goal.set4-requires
set4-requires c =
    let r = c.requires in
    let f = front_fits c.args.arena.now c.args.at r.0 r.1 r.2 r.3 in
    let e = c.get4-before.ensures ∙ front_is c.args.arena.now c.args.at r.0 r.1 r.2 r.3 in
    omega arith

pub returns-clause-others : goal.returns-clause-others
returns-clause-others c = λ before behind p t.
    let b : List ℕ = c.args.arena.now in
    let l : ℕ = tail_front b c.args.at before behind p t in
    let e : c.get4-before.result ≡ l = c.get4-before.ensures ∙ front_is b c.args.at before behind p t in
    let w : c.set4.new.self ≡ set4 b l (bit_xor (get4 b l) c.args.at) =
    c.set4.ensures.bytes ∙ (λ j. set4 b (e j) (bit_xor ((c.get4-link.ensures ∙ ap (get4 b) e) j) c.args.at)) in
    let P : List ℕ → Type 0 = λ d. Holds d (length b) (before ++ behind) in
    subst P (sym w) (tail_left b c.args.at before behind p t)

pub returns-clause-size : goal.returns-clause-size
returns-clause-size c = λ before behind p t.
    let s = tail_stands c.args.arena.now c.args.at before behind p t in
    let k = s.bytes.key_len in let y = s.bytes.body_len in
    omega arith
