use Rattle.std.proofs.Common.{subst, sym}
use Rattle.dc_model.specs.Name as model
use Rattle.dc_name.proofs.TextLemmas.{IsSoFar, so_far_more}
use Rattle.dc_name.proofs.name.Name.from_dotted.Goals as goal

pub loop-part-preserved : goal.loop-part-preserved
loop-part-preserved c =
    let text = model.without_final_dot c.args.text.now in
    let before = subst (λ ps. IsSoFar text c.loop-part.name ps) c.in-Some.ensures c.loop-part.invariant.so_far in
    record {
      so_far = subst (λ n. IsSoFar text n c.next_part.new.self) (sym c.in_ok-add.ensures.ok) (so_far_more text c.loop-part.name c.in-Some.part.now c.next_part.new.self before c.in_ok-add.ensures.why);
      name = c.in_ok-add.ensures.name;
    }
