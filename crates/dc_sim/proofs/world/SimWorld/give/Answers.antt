use Rattle.std.proofs.Common.{◌≡◌, ◌<◌, ◌%◌, List, slice_get, sym, ap, subst, ◌∙◌, Some, None}
use Rattle.dc_model.specs.Event.{Event}
use Rattle.dc_simulation.specs.World as model
use Rattle.dc_sim.specs.Steps.{IsRequest, IsTick}
use Rattle.dc_sim.proofs.StepLemmas.{asks_fourth, asks_unasked, ticks_asked, brings_first, none_taken}
use Rattle.dc_sim.proofs.world.SimWorld.give.Goals as goal

pub returns-then-self-eq0-clause-given : goal.returns-then-self-eq0-clause-given
returns-then-self-eq0-clause-given c =
    let w = c.args.self.now in
    asks_fourth c.args.wake w c.ask.new.self c.ask.new.inbox c.requires (ap (λ (x : model.World). x.given % 4) (sym c.self.view_is) ∙ c.if-self-eq0.true) c.ask.ensures.given

pub returns-in-Some-clause-given : goal.returns-in-Some-clause-given
returns-in-Some-clause-given c =
    let i = c.self.inside in
    let v : model.World = record { clock = i.clock; x = i.x; given = i.given; events = i.events; queue = i.queue.items; ring = i.ring.items } in
    let few = subst (λ (x : model.World). x.given < x.events) (sym c.self.view_is) c.requires in
    let front : slice_get i.queue.items 0 ≡ Some c.in-Some.entry = sym c.pop_front.ensures.value ∙ c.in-Some.is in
    rw (← c.self.view_is, c.bring.ensures.event, c.bring.ensures.world, c.pop_front.ensures.items) (brings_first c.args.wake v c.in-Some.entry few c.if-self-eq0.false front)

pub returns-in-Some-wake-clause-given : goal.returns-in-Some-wake-clause-given
returns-in-Some-wake-clause-given c =
    let i = c.self.inside in
    let v : List Event → model.World = λ q. record { clock = i.clock; x = i.x; given = i.given; events = i.events; queue = q; ring = i.ring.items } in
    let few = subst (λ (x : model.World). x.given < x.events) (sym c.self.view_is) c.requires in
    let front : slice_get i.queue.items 0 ≡ None = sym c.pop_front.ensures.value ∙ c.in-None.is in
    let same = none_taken i.queue.items c.pop_front.new.self.items front (ap (λ b. b.items) c.pop_front.ensures.items) in
    let ticked = subst (λ (q : List Event). IsTick c.in-Some-wake.moment (v q) c.tick.new.inbox c.tick.new.self) same c.tick.ensures.given in
    rw (← c.self.view_is, c.in-Some-wake.is) (ticks_asked c.in-Some-wake.moment (v i.queue.items) c.tick.new.self c.tick.new.inbox few c.if-self-eq0.false front ticked)

pub returns-in-None-wake-clause-given : goal.returns-in-None-wake-clause-given
returns-in-None-wake-clause-given c =
    let i = c.self.inside in
    let v : List Event → model.World = λ q. record { clock = i.clock; x = i.x; given = i.given; events = i.events; queue = q; ring = i.ring.items } in
    let few = subst (λ (x : model.World). x.given < x.events) (sym c.self.view_is) c.requires in
    let front : slice_get i.queue.items 0 ≡ None = sym c.pop_front.ensures.value ∙ c.in-None.is in
    let same = none_taken i.queue.items c.pop_front.new.self.items front (ap (λ b. b.items) c.pop_front.ensures.items) in
    let asked = subst (λ (q : List Event). IsRequest (v q) c.ask-in-None-wake.new.inbox c.ask-in-None-wake.new.self) same c.ask-in-None-wake.ensures.given in
    rw (← c.self.view_is, c.in-None-wake.is) (asks_unasked (v i.queue.items) c.ask-in-None-wake.new.self c.ask-in-None-wake.new.inbox few c.if-self-eq0.false front asked)
