use Rattle.std.proofs.Common.{◌≡◌, ◌*◌, arith, sym, ◌∙◌}
use Rattle.dc_model.specs.Cache.{hsize}
use Rattle.dc_model.proofs.SizeLemmas.{doubled_next, doubled_done}
use Rattle.dc_bucket.proofs.hsize_of.Goals as goal

pub loop-heads-preserved : goal.loop-heads-preserved
loop-heads-preserved c =
    let e : c.loop-heads.heads * 2 ≡ 2 * c.loop-heads.heads = omega arith in
    rw e (record {
      least = omega arith;
      most = omega arith;
      same = doubled_next c.loop-heads.heads c.args.size c.loop-heads.invariant.least c.requires c.loop-heads-test.true ∙ c.loop-heads.invariant.same;
    })

pub returns : goal.returns
unfolding hsize
returns c = sym (doubled_done 28 c.loop-heads.heads c.args.size c.loop-heads-test.false) ∙ c.loop-heads.invariant.same
