use Rattle.std.proofs.Common.{ℕ, ◌+◌, ◌-◌, ◌∙◌, sym, arith, subst}
use Rattle.std.specs.Prelude.{bit_xor}
use Rattle.dc_chain.proofs.Places.{Left, left_none, left_read, left_done, done_read, left_hit, hit_read, left_miss, left_fits, more}
use Rattle.dc_chain.proofs.links.walk.Goals as goal

pub has_key-requires : goal.has_key-requires
has_key-requires g c = record {
  size = c.requires.size;
  inside = left_fits c.args.arena.now c.loop-i.before c.loop-i.at c.args.key.now c.requires.chain.0 (101 - c.loop-i.i) (c.loop-i.invariant.left c.requires.chain.0 c.requires.chain.1) c.if-at-eq0.false;
}

pub returns-then-at-eq0 : goal.returns-then-at-eq0
returns-then-at-eq0 g c = record {
  first = λ ps h. left_none c.args.arena.now c.loop-i.before c.loop-i.at c.args.key.now ps (101 - c.loop-i.i) (c.loop-i.invariant.left ps h) c.if-at-eq0.true;
  cost = λ ps h. let r = left_read c.args.arena.now c.loop-i.before c.loop-i.at c.args.key.now ps (101 - c.loop-i.i) (c.loop-i.invariant.left ps h) c.if-at-eq0.true in omega arith;
  most = omega arith;
}

pub returns-then-has_key : goal.returns-then-has_key
returns-then-has_key g c = record {
  first = λ ps h.
      left_hit c.args.arena.now c.loop-i.before c.loop-i.at c.args.key.now ps (100 - c.loop-i.i)
      (more _ _ _ (101 - c.loop-i.i) _ _ _ (omega arith) (c.loop-i.invariant.left ps h)) c.if-at-eq0.false (sym c.has_key.ensures.value ∙ c.if-has_key.true);
  cost = λ ps h.
      let r = hit_read c.args.arena.now c.loop-i.before c.loop-i.at c.args.key.now ps (100 - c.loop-i.i)
      (more _ _ _ (101 - c.loop-i.i) _ _ _ (omega arith) (c.loop-i.invariant.left ps h)) c.if-at-eq0.false (sym c.has_key.ensures.value ∙ c.if-has_key.true) in
      omega arith;
  most = omega arith;
}

pub loop-i-preserved : goal.loop-i-preserved
loop-i-preserved g c = record {
  left = λ ps h.
      let m = left_miss c.args.arena.now c.loop-i.before c.loop-i.at c.args.key.now ps (100 - c.loop-i.i)
      (more _ _ _ (101 - c.loop-i.i) _ _ _ (omega arith) (c.loop-i.invariant.left ps h)) c.if-at-eq0.false (sym c.has_key.ensures.value ∙ c.if-has_key.false) in
      let P : ℕ → Type 0 = λ k. Left c.args.arena.now c.loop-i.at (bit_xor c.loop-i.before k) (101 - (c.loop-i.i + 1)) c.args.key.now ps in
      subst P (sym c.get4.ensures) (more _ _ _ (100 - c.loop-i.i) (101 - (c.loop-i.i + 1)) _ _ (omega arith) m);
  cost = omega arith;
}

pub returns : goal.returns
returns g c = record {
  first = λ ps h. left_done c.args.arena.now c.loop-i.before c.loop-i.at c.args.key.now ps (more _ _ _ (101 - c.loop-i.i) 0 _ _ (omega arith) (c.loop-i.invariant.left ps h));
  cost = λ ps h.
      let r = done_read c.args.arena.now c.loop-i.before c.loop-i.at c.args.key.now ps (more _ _ _ (101 - c.loop-i.i) 0 _ _ (omega arith) (c.loop-i.invariant.left ps h)) in
      omega arith;
  most = omega arith;
}
