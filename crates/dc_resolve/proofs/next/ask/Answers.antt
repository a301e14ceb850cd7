use Rattle.std.proofs.Common.{rules, ◌≡◌, ◌-◌, ◌∷◌, subst, [], refl, ap, ◌∙◌, List, ℕ}
use Rattle.dc_model.specs.Puts.{all_put}
use Rattle.dc_model.specs.Draws.{shuffled}
use Rattle.dc_frames.specs.View.{query_of}
use Rattle.dc_machine.specs.Query.{top_of, level_of, wanted_of, name_of, with_places}
use Rattle.dc_model.specs.Transmission.{Attempt, waiting, started, opening_of}
use Rattle.dc_model.specs.Line.{line_tx}
use Rattle.dc_transmit.specs.Attempts.{occasion}
use Rattle.dc_transmit.specs.Standing.{standing_at}
use Rattle.dc_machine.specs.Turn.{at_next, ask_row, attempt_of, waits}
use Rattle.dc_desk.specs.View.{setting_at, at, setting_of}
use Rattle.dc_model.proofs.ShuffleLemmas.{still_placed, places_long}
use Rattle.dc_resolve.proofs.TurnLemmas.{step_as}
use Rattle.dc_resolve.proofs.NextLemmas.{next_fails, next_asks, asks_same, started_same, line_same}
use Rattle.dc_resolve.proofs.next.ask.Goals as goal

pub returns-then-none_placed : goal.returns-then-none_placed
unfolding all_put
returns-then-none_placed g c = step_as g.O.Effects.acted g.S.Store.cache at_next c.args.moment _ _ _ _ _ _ _ _ _
    (next_fails (setting_at c.args.desk.now c.args.moment) (at g.S.Store.cache c.args.query.now c.args.desk.now) c.requires.hosts (search rules))
    (g.met.O.Effects.acted_none _) refl refl refl refl refl (refl, c.requires.idle)

pub start-requires-clause-place : goal.start-requires-clause-place
start-requires-clause-place g c =
    rw (c.shuffle.ensures) (still_placed _ _ (places_long _ _ 16 c.shuffle.array_long c.shuffle.ensures) (search rules))

pub returns : goal.returns
unfolding all_put ask_row setting_of
returns g c =
    let a : Attempt = attempt_of (setting_at c.args.desk.now c.args.moment) (at g.S.Store.cache c.args.query.now c.args.desk.now) (shuffled c.args.moment.draws.now (top_of (query_of c.args.query.now)).places) in
    let q2 = asks_same (query_of c.args.query.now) (query_of c.set_places.new.self) c.shuffle.new.servers c.requires.some c.set_places.ensures in
    let servers : c.shuffle.new.servers ≡ shuffled c.args.moment.draws.now (top_of (query_of c.args.query.now)).places = c.shuffle.ensures ∙ ap (λ (x : List (List ℕ)). shuffled c.args.moment.draws.now x) c.places.ensures in
    let same : started c.name-2.result.now c.wanted-2.result c.args.desk.now.forward c.shuffle.new.servers (occasion c.args.moment.time c.args.moment.draws.now c.args.desk.now.link) ≡ a =
    started_same _ _ _ _ _ _ _ _ (c.name-2.ensures ∙ q2.name) (c.wanted-2.ensures ∙ q2.wanted) servers in
    let text : c.text.result.now ≡ line_tx (level_of (query_of c.args.query.now)) (wanted_of (query_of c.args.query.now)) (name_of (query_of c.args.query.now)) (top_of (query_of c.args.query.now)).control (shuffled c.args.moment.draws.now (top_of (query_of c.args.query.now)).places) =
    c.text.ensures.bytes ∙ c.line_tx.ensures ∙ line_same _ _ _ _ _ _ _ _ _ _ (ap (λ n. n - 1) c.levels.ensures.value ∙ q2.level) (c.wanted.ensures ∙ q2.wanted) (c.name.ensures ∙ q2.name) (c.control.ensures ∙ q2.control) servers in
    let standing : c.start.new.self ≡ standing_at (waiting a) = c.start.ensures.standing ∙ ap (λ (x : Attempt). standing_at (waiting x)) same in
    step_as g.O.Effects.acted g.S.Store.cache at_next c.args.moment _ _ _ _ _ _ c.start.new.self _ _
    (next_asks (setting_at c.args.desk.now c.args.moment) (at g.S.Store.cache c.args.query.now c.args.desk.now) c.requires.hosts (search rules))
    (g.met.O.Effects.acted_then _ _ _ _ _ (rw (← text) c.line.ensures) (subst (λ (x : Attempt). g.O.Effects.acted c.line.new.self (opening_of x ∷ []) c.start.new.out) same c.start.ensures.acts))
    (c.set_places.ensures ∙ ap (with_places (query_of c.args.query.now)) servers) refl c.start.ensures.links refl refl
    (waits a, refl, (a, refl, standing))
