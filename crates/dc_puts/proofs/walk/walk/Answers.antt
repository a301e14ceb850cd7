use Rattle.std.proofs.Common.{◌≡◌, ℕ, ◌++◌, List, [], ap, sym, ◌∙◌, subst, arith}
use Rattle.std.proofs.lemmas.Bool.Decides.{nat_tests}
use Rattle.dc_model.specs.Event.{Action}
use Rattle.dc_model.specs.Puts.{Given, all_put, puts_given}
use Rattle.dc_puts.specs.Order.{records_in, given_from}
use Rattle.dc_puts.specs.Group.{first_pair}
use Rattle.dc_puts.specs.Told.{told, given_in}
use Rattle.dc_puts.specs.Sorted.{AreSorted}
use Rattle.dc_puts.proofs.Runs.{given_none}
use Rattle.dc_puts.proofs.Telling.{nil_is}
use Rattle.dc_puts.proofs.Walking.{sorted_drop, step_run, told_on, told_none, puts_none, put_on, run_some, sound_run}
use Rattle.dc_puts.proofs.walk.walk.Goals as goal

pub put_run-requires-clause-some : goal.put_run-requires-clause-some
put_run-requires-clause-some g c = run_some c.loop-rest.rest.now c.front-run.result.now c.run_len-n.result c.front-run.ensures c.run_len-n.ensures.least c.run_len-n.ensures.most

pub put_run-requires-clause-sound : goal.put_run-requires-clause-sound
put_run-requires-clause-sound g c = sound_run c.args.message.now c.loop-rest.rest.now c.front-run.result.now c.run_len-n.result c.front-run.ensures c.loop-rest.invariant.sorted

pub loop-rest-preserved : goal.loop-rest-preserved
loop-rest-preserved g c =
    let a = c.args in
    let own : List Given = given_in a.zones.now a.control.now a.server (first_pair a.message.now c.front-run.result.now) (records_in a.message.now c.front-run.result.now) in
    let more : List Given = given_from a.zones.now a.control.now a.server (records_in a.message.now c.behind-rest.result.now) in
    let step : given_from a.zones.now a.control.now a.server (records_in a.message.now c.loop-rest.rest.now) ≡ own ++ more =
    step_run a.zones.now a.control.now a.server a.message.now c.loop-rest.rest.now c.front-run.result.now c.behind-rest.result.now c.run_len-n.result c.front-run.ensures c.behind-rest.ensures c.run_len-n.ensures.least c.run_len-n.ensures.most c.loop-rest.invariant.sorted c.run_len-n.ensures.run in
    record {
      sorted = subst (AreSorted a.message.now) (sym c.behind-rest.ensures) (sorted_drop a.message.now c.run_len-n.result c.loop-rest.rest.now c.loop-rest.invariant.sorted);
      cache = ap (all_put (puts_given more) a.now) c.put_run.ensures.cache ∙ sym (put_on own more a.now (g.S.Store.cache c.loop-rest.store))
          ∙ ap (λ (gs : List Given). all_put (puts_given gs) a.now (g.S.Store.cache c.loop-rest.store)) (sym step) ∙ c.loop-rest.invariant.cache;
      acts = λ after h. c.loop-rest.invariant.acts after
          (subst (λ (ls : List Action). g.O.Effects.acted c.loop-rest.out ls after) (sym (ap told step ∙ told_on own more)) (g.met.O.Effects.acted_both _ _ _ _ _ c.put_run.ensures.acts h));
    }

pub returns-clause-acts : goal.returns-clause-acts
returns-clause-acts g c =
    let a = c.args in
    let e : c.loop-rest.rest.now ≡ [] = nil_is c.loop-rest.rest.now (grind (arith, nat_tests)) in
    c.loop-rest.invariant.acts c.loop-rest.out
    (subst (λ (ls : List Action). g.O.Effects.acted c.loop-rest.out ls c.loop-rest.out)
    (sym (ap (λ (is : List ℕ). told (given_from a.zones.now a.control.now a.server (records_in a.message.now is))) e ∙ ap told (given_none a.zones.now a.control.now a.server) ∙ told_none)) (g.met.O.Effects.acted_none _))

pub returns-clause-cache : goal.returns-clause-cache
returns-clause-cache g c =
    let a = c.args in
    let e : c.loop-rest.rest.now ≡ [] = nil_is c.loop-rest.rest.now (grind (arith, nat_tests)) in
    sym (ap (λ (is : List ℕ). all_put (puts_given (given_from a.zones.now a.control.now a.server (records_in a.message.now is))) a.now (g.S.Store.cache c.loop-rest.store)) e
    ∙ ap (λ (gs : List Given). all_put (puts_given gs) a.now (g.S.Store.cache c.loop-rest.store)) (given_none a.zones.now a.control.now a.server) ∙ puts_none a.now (g.S.Store.cache c.loop-rest.store))
    ∙ c.loop-rest.invariant.cache
