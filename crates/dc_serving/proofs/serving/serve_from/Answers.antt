use Rattle.std.proofs.Common.{◌≡◌, true, false, [], ◌∷◌, subst, rules}
use Rattle.std.specs.Result.{is_ok}
use Rattle.dc_event.specs.History.{listened}
use Rattle.dc_play.specs.Playing.{limit_of}
use Rattle.dc_serving.proofs.ServingLemmas.{serves, went_well, went_wrong, unserved}
use Rattle.dc_serving.proofs.serving.serve_from.Goals as goal

pub returns-then-is_err-clause-serves : goal.returns-then-is_err-clause-serves
returns-then-is_err-clause-serves g c =
    let w = g.W.World in
    let config = c.args.basis.config in
    let wrong : is_ok c.listen.result ≡ false = went_wrong c.listen.result (search rules) in
    unserved w.history w.used_up w.broken c.args.world.now c.listen.new.self config c.args.first c.args.basis.seed (limit_of c.args.turns) _ _
    c.refused-then-is_err.ensures.status c.refused-then-is_err.ensures.core
    (subst (λ b. w.history c.args.world.now (listened config.ip config.ipsend b ∷ []) c.listen.new.self) wrong c.listen.ensures.history)

pub returns-clause-serves : goal.returns-clause-serves
returns-clause-serves g c =
    let w = g.W.World in
    let config = c.args.basis.config in
    let seed = c.args.basis.seed in
    let run = c.serve-ended.ensures.run in
    let well : is_ok c.listen.result ≡ true = went_well c.listen.result (search rules) in
    serves w.history w.used_up w.broken c.args.world.now c.listen.new.self c.serve-ended.new.world config c.args.first seed
    c.from_seed-draws.result c.in-Ok.core c.serve-ended.new.engine (limit_of c.args.turns) c.serve-ended.result c.status_of.result run.0
    g.met.W.World.history_then c.have_places.ensures (subst (λ b. w.history c.args.world.now (listened config.ip config.ipsend b ∷ []) c.listen.new.self) well c.listen.ensures.history)
    c.from_seed-draws.ensures c.in-Ok.ensures.opening run.1 run.2 c.serve-ended.ensures.justified c.status_of.ensures.status
