use Rattle.std.proofs.Common.{◌≡◌, take, sym, ap, ◌∙◌, arith}
use Rattle.dc_config.specs.Variables as defined
use Rattle.dc_program.specs.Invoked.{value_among}
use Rattle.dc_program.proofs.Reading.{one_more, next_name}
use Rattle.dc_program.proofs.read.environment.Goals as goal

pub loop-name-preserved : goal.loop-name-preserved
loop-name-preserved g c =
    let i = c.loop-name.invariant in
    let at = c.loop-name.name-index in
    let next = next_name (λ name. name.now) c.names-name-items.result defined.names at _ i.names (omega arith) in
    record {
      few = omega arith;
      names = i.names;
      values = λ value e name. one_more value (take at defined.names) _ name _ _ (c.in_ok-read_variable.ensures.set value e) (i.values value e name) ∙ ap (λ l. value_among value l name) (sym next);
    }

pub returns : goal.returns
returns g c = λ value e name.
    let at : c.loop-name.name-index ≡ 8 = omega arith in
    c.loop-name.invariant.values value e name ∙ ap (λ k. value_among value (take k defined.names) name) at
