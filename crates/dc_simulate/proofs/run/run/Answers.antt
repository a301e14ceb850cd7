use Rattle.std.proofs.Common.{◌≡◌, ℕ, ◌+◌, List, ap, refl, sym, subst, ◌∙◌, arith, Option, Some}
use Rattle.dc_model.specs.Draws.{draws_of}
use Rattle.dc_core.specs.Running.{Running}
use Rattle.dc_draws.specs.Drawn.{Drawn}
use Rattle.dc_machine.specs.Machine.{wake}
use Rattle.dc_simulation.specs.World as model
use Rattle.dc_simulation.specs.Loop.{loops}
use Rattle.dc_simulate.specs.Told.{loop_of}
use Rattle.dc_simulate.proofs.LoopLemmas.{Goes, goes_first, goes_more, goes_last}
use Rattle.dc_simulate.proofs.run.run.Goals as goal

pub events-init : goal.events-init
events-init c =
    let words = draws_of c.args.draws.now.seed in
    let w = c.args.world.now in
    let first = goes_first words c.args.core.now w c.launch.new.out c.requires.rules c.requires.fresh c.requires.given c.launch.ensures.acted in
    let same = subst (λ (s : Running). Goes words (loops words w.events (loop_of c.args.core.now w)) w.events s c.launch.new.out) (sym c.launch.ensures.state) first in
    (same, refl, omega (arith, c.requires.words, first.counted, c.requires.fresh))

pub events-preserved : goal.events-preserved
events-preserved c =
    let words = draws_of c.args.draws.now.seed in
    let end = loops words c.args.world.now.events (loop_of c.args.core.now c.args.world.now) in
    let s = c.events.core in
    let w = c.events.world in
    let is : model.next (wake s.machine) w ≡ Some (record { event = c.next.new.inbox; world = c.next.new.world }) =
    ap (λ (o : Option ℕ). model.next o w) (sym c.wake.ensures) ∙ c.events-test.ensures in
    let drawn : c.next-words.result ≡ words w.given =
    c.next-words.ensures.words ∙ ap (λ (x : List ℕ). draws_of x c.events.draws.given) c.events.invariant.1 ∙ ap (λ (n : ℕ). words n) c.events.invariant.2 in
    let more = goes_more words end c.args.world.now.events s c.step.new.self w c.next.new.world c.step.new.out c.next.new.inbox c.next-words.result c.events.invariant.0 is drawn c.step.ensures.state c.step.ensures.acted in
    let seed : c.next-words.new.self.seed ≡ c.args.draws.now.seed = ap (λ (d : Drawn). d.seed) c.next-words.ensures.given ∙ c.events.invariant.1 in
    let given : c.next-words.new.self.given ≡ c.events.draws.given + 1 = ap (λ (d : Drawn). d.given) c.next-words.ensures.given in
    (more.0, seed, omega (arith, given, c.events.invariant.2, more.2))

pub events-smaller : goal.events-smaller
events-smaller c =
    let words = draws_of c.args.draws.now.seed in
    let end = loops words c.args.world.now.events (loop_of c.args.core.now c.args.world.now) in
    let s = c.events.core in
    let w = c.events.world in
    let is : model.next (wake s.machine) w ≡ Some (record { event = c.next.new.inbox; world = c.next.new.world }) =
    ap (λ (o : Option ℕ). model.next o w) (sym c.wake.ensures) ∙ c.events-test.ensures in
    let drawn : c.next-words.result ≡ words w.given =
    c.next-words.ensures.words ∙ ap (λ (x : List ℕ). draws_of x c.events.draws.given) c.events.invariant.1 ∙ ap (λ (n : ℕ). words n) c.events.invariant.2 in
    (goes_more words end c.args.world.now.events s c.step.new.self w c.next.new.world c.step.new.out c.next.new.inbox c.next-words.result c.events.invariant.0 is drawn c.step.ensures.state c.step.ensures.acted).1

pub returns : goal.returns
returns c =
    let words = draws_of c.args.draws.now.seed in
    let end = loops words c.args.world.now.events (loop_of c.args.core.now c.args.world.now) in
    let last = c.events-test.ensures in
    goes_last words end c.args.world.now.events c.events.core c.events.world c.next.new.world c.events.invariant.0 (ap (λ (o : Option ℕ). model.next o c.events.world) (sym c.wake.ensures) ∙ last.0) last.1
