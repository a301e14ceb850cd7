use Rattle.std.proofs.Common.{◌≡◌, true, [], ◌∷◌, refl, ap, sym, ◌∙◌, subst}
use Rattle.std.proofs.Math.Nat.{min-le_right}
use Rattle.std.specs.Result.{is_ok}
use Rattle.dc_event.specs.Causes.{count_where}
use Rattle.dc_event.specs.History.{listened}
use Rattle.dc_play.specs.Playing.{limit_of}
use Rattle.dc_core.specs.Running.{core_machine}
use Rattle.dc_shard.specs.Bays.{MayStepEach}
use Rattle.dc_status.specs.Faults.{fault_of, world_well}
use Rattle.dc_status.specs.Refused.{refused_by}
use Rattle.dc_status.specs.declared.status.Status.TheVariants.{BadVariable}
use Rattle.dc_serving.specs.Serving.{IsConfigured}
use Rattle.dc_serving.proofs.ServingLemmas.{went_well, count_ok}
use Rattle.dc_shards.proofs.SessionLemmas.{may_step, serves, unserved}
use Rattle.dc_shards.proofs.StatusLemmas.{fits_bad, told_bad, error_refused, error_unserved, fits_error, none_before, told_error, fits_behind, told_behind, world_behind}
use Rattle.dc_shards.proofs.command.shards_command.Goals as goal

pub returns-in-Err-clause-served : goal.returns-in-Err-clause-served
returns-in-Err-clause-served g c =
    let w = g.W.World in
    let status = c.refused.ensures.status in
    record {
      bytes = [];
      taken = g.met.S.Source.took_none c.args.source.now;
      session = unserved w.history w.used_up w.broken c.args.world.now c.args.world.now c.args.env.now (IsConfigured c.args.env.now (g.F.Files.tree c.args.files.now)) [] _ (limit_of c.args.turns) _ (BadVariable c.in-Err.variable) _ status c.refused.ensures.cores refl (g.met.W.World.history_none c.args.world.now);
      conf = λ t e. fits_bad _ c.in-Err.variable _ status;
      variable = told_bad _ c.in-Err.variable _ status c.in-Err.ensures.bad;
    }

pub returns-in-Err-load-clause-served : goal.returns-in-Err-load-clause-served
returns-in-Err-load-clause-served g c =
    let w = g.W.World in
    let error = c.in-Err-load.error in
    let status = c.refused-in-Err-load.ensures.status ∙ c.from.ensures in
    record {
      bytes = [];
      taken = g.met.S.Source.took_none c.args.source.now;
      session = unserved w.history w.used_up w.broken c.args.world.now c.args.world.now c.args.env.now (IsConfigured c.args.env.now (g.F.Files.tree c.args.files.now)) [] _ (limit_of c.args.turns) _ (refused_by error) _ status c.refused-in-Err-load.ensures.cores (error_refused error _)
          (error_unserved w.history c.args.world.now _ error (g.met.W.World.history_none c.args.world.now));
      conf = λ t e. fits_error _ error _ status (c.in-Err-load.ensures.conf t e);
      variable = told_error _ error _ _ status (none_before c.args.env.now c.in-Ok.ensures.none) c.in-Ok.ensures.none c.in-Err-load.ensures.variable;
    }

pub serve_shards-ended-requires-clause-events : goal.serve_shards-ended-requires-clause-events
serve_shards-ended-requires-clause-events g c κs within =
    let limit = limit_of c.args.turns in
    subst (MayStepEach core_machine limit) (sym c.in-Ok-memory_of.ensures.states) (may_step c.in-Ok.cores limit c.in-Ok-load.config (min-le_right c.args.turns 1152921504606846976))

pub returns-clause-served : goal.returns-clause-served
returns-clause-served g c =
    let w = g.W.World in
    let seed = c.in-Whole.ensures.took in
    let run = c.serve_shards-ended.ensures.run in
    let config = c.in-Ok-load.config in
    let status = c.behind.ensures.status in
    let well : is_ok c.listen.result ≡ true = went_well c.listen.result (sym c.is_err.ensures.value ∙ c.if-is_err.false) in
    let listening = subst (λ b. w.history c.args.world.now (listened config.ip config.ipsend b ∷ []) c.listen.new.self) well c.listen.ensures.history in
    record {
      bytes = seed.0;
      taken = seed.1;
      session = serves w.history w.used_up w.broken c.args.world.now c.serve_shards-ended.new.world c.args.env.now (IsConfigured c.args.env.now (g.F.Files.tree c.args.files.now)) seed.0 _
          (limit_of c.args.turns) c.listen.new.self config c.in-Ok.cores c.from_seed-draws.result _ _ _ c.serve_shards-ended.result run.0 run.1.0 _ _ g.met.W.World.history_then c.in-Ok-load.ensures.conf
          c.in-Ok.ensures.cores seed.2.1 c.in-Ok.ensures.least listening (c.from_seed-draws.ensures ∙ ap (λ s. record { seed = s; given = 0 }) (sym seed.2.0)) c.in-Ok-memory_of.ensures.states
          run.1.1.0 run.1.1.1 c.serve_shards-ended.ensures.justified status c.behind.ensures.cores;
      conf = λ t e. fits_behind c.serve_shards-ended.result _ _ config status (c.in-Ok-load.ensures.conf t e);
      variable = told_behind c.serve_shards-ended.result _ _ status c.in-Ok.ensures.none;
    }

pub returns-clause-world_fares : goal.returns-clause-world_fares
returns-clause-world_fares g c =
    let w = g.W.World in
    let answer = c.serve_shards-ended.result in
    let still = c.listen.ensures.count ∙ count_ok c.listen.result _ (sym c.is_err.ensures.value ∙ c.if-is_err.false) in
    c.serve_shards-ended.ensures.count ∙ world_behind answer (w.faults c.listen.new.self)
    ∙ (λ i. count_where (world_well (fault_of (sym c.behind.ensures.status i))) (still i))
