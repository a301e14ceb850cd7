use Rattle.std.proofs.Common.{◌≡◌, ◌<◌, ◌≤◌, ◌+◌, List, length, Box, refl, ap, sym, ◌∙◌, subst, arith}
use Rattle.std.specs.declared.alloc.Global.{Global}
use Rattle.dc_lookup.specs.Filter.{Filtered, hear_step}
use Rattle.dc_filter.specs.declared.slot.Slot.{Slot}
use Rattle.dc_filter.specs.View.{slot_of}
use Rattle.dc_filter.specs.Queue.{slots_of}
use Rattle.dc_filter.specs.Kept.{sifter_of}
use Rattle.dc_filter.specs.Places.{event_place}
use Rattle.dc_filter.specs.Sifter.{Sifter, alone}
use Rattle.dc_filter.proofs.PlaceLemmas.{nowhere, heard_at}
use Rattle.dc_filter.proofs.HearLemmas.{few}
use Rattle.dc_filter.proofs.EngineLemmas.{read_at, fit_at, fit_with, place_within, with_queue, heard_next, unheard_next}
use Rattle.dc_filter.proofs.engine.FilterEngine.hear.Goals as goal

pub returns-in_default-clause-acts : goal.returns-in_default-clause-acts
returns-in_default-clause-acts g c =
    let e = c.args.inbox.now in
    let here = c.event_place.ensures e c.event.ensures.event ∙ ap (λ (q : List (Box Slot Global)). event_place e.kind e (slots_of q)) c.deref.ensures.value in
    let step = nowhere (sifter_of c.self.inside) e c.args.draws.now c.event_place.result here c.in_default.is in
    subst (λ (s : Sifter). g.O.Effects.acted c.args.out.now (hear_step (alone s) e c.args.draws.now).actions c.args.out.now) c.self.view_is
    (subst (λ (x : Filtered). g.O.Effects.acted c.args.out.now x.actions c.args.out.now) (sym step) (g.met.O.Effects.acted_none c.args.out.now))

pub returns-in_default-clause-next : goal.returns-in_default-clause-next
returns-in_default-clause-next g c =
    let e = c.args.inbox.now in
    let here = c.event_place.ensures e c.event.ensures.event ∙ ap (λ (q : List (Box Slot Global)). event_place e.kind e (slots_of q)) c.deref.ensures.value in
    let step = nowhere (sifter_of c.self.inside) e c.args.draws.now c.event_place.result here c.in_default.is in
    subst (λ (s : Sifter). s ≡ with_queue s (hear_step (alone s) e c.args.draws.now).filter.queue (hear_step (alone s) e c.args.draws.now).filter.links) c.self.view_is
    (unheard_next (sifter_of c.self.inside) e c.args.draws.now step)

pub index_mut-slot-requires : goal.index_mut-slot-requires
index_mut-slot-requires g c =
    let e = c.args.inbox.now in
    let here = c.event_place.ensures e c.event.ensures.event ∙ ap (λ (q : List (Box Slot Global)). event_place e.kind e (slots_of q)) c.deref.ensures.value in
    let l : c.in-Some.place < length c.self.inside.queue.items = place_within (sifter_of c.self.inside) e c.self.inside.queue.items c.event_place.result c.in-Some.place refl here c.in-Some.is in
    omega (arith, l, c.self.inside.queue.ok.0)

pub hear-requires-clause-fit : goal.hear-requires-clause-fit
hear-requires-clause-fit g c =
    let e = c.args.inbox.now in
    let here = c.event_place.ensures e c.event.ensures.event ∙ ap (λ (q : List (Box Slot Global)). event_place e.kind e (slots_of q)) c.deref.ensures.value in
    let l = place_within (sifter_of c.self.inside) e c.self.inside.queue.items c.event_place.result c.in-Some.place refl here c.in-Some.is in
    fit_at c.self.inside.queue.items c.in-Some.place c.index_mut-slot.result.now c.deref_mut.result.now l c.index_mut-slot.ensures.value c.deref_mut.ensures.value c.self.invariant.fit

pub invariant_of-self : goal.invariant_of-self
invariant_of-self g c =
    let old = c.deref_mut.result.now in
    let more = few (slot_of old).at old.line.items c.self.inside.servers c.self.inside.link c.args.inbox.now c.args.draws.now in
    let counted : c.self.inside.link + 1 ≤ c.self.inside.handled = subst (λ (s : Sifter). s.links + 1 ≤ s.handled) (sym c.self.view_is) c.requires.handled in
    record {
      fit = fit_with c.self.inside.queue.items c.in-Some.place _ c.self.invariant.fit c.hear.ensures.fit;
      idle = c.self.invariant.idle;
      slots = c.self.invariant.slots;
      least = c.self.invariant.least;
      most = c.self.invariant.most;
      queue = c.self.invariant.queue;
      spare = c.self.invariant.spare;
      links = omega (arith, more, counted, c.hear.ensures.links);
      place = c.self.invariant.place;
    }

pub returns-clause-acts : goal.returns-clause-acts
returns-clause-acts g c =
    let e = c.args.inbox.now in
    let here = c.event_place.ensures e c.event.ensures.event ∙ ap (λ (q : List (Box Slot Global)). event_place e.kind e (slots_of q)) c.deref.ensures.value in
    let l = place_within (sifter_of c.self.inside) e c.self.inside.queue.items c.event_place.result c.in-Some.place refl here c.in-Some.is in
    let at = read_at c.self.inside.queue.items c.in-Some.place c.index_mut-slot.result.now c.deref_mut.result.now l c.index_mut-slot.ensures.value c.deref_mut.ensures.value in
    let step = heard_at (sifter_of c.self.inside) e c.args.draws.now c.event_place.result c.in-Some.place (slot_of c.deref_mut.result.now) here c.in-Some.is at in
    subst (λ (s : Sifter). g.O.Effects.acted c.args.out.now (hear_step (alone s) e c.args.draws.now).actions c.hear.new.out) c.self.view_is
    (subst (λ (x : Filtered). g.O.Effects.acted c.args.out.now x.actions c.hear.new.out) (sym step) c.hear.ensures.acts)

pub returns-clause-next : goal.returns-clause-next
returns-clause-next g c =
    let e = c.args.inbox.now in
    let here = c.event_place.ensures e c.event.ensures.event ∙ ap (λ (q : List (Box Slot Global)). event_place e.kind e (slots_of q)) c.deref.ensures.value in
    let l = place_within (sifter_of c.self.inside) e c.self.inside.queue.items c.event_place.result c.in-Some.place refl here c.in-Some.is in
    let at = read_at c.self.inside.queue.items c.in-Some.place c.index_mut-slot.result.now c.deref_mut.result.now l c.index_mut-slot.ensures.value c.deref_mut.ensures.value in
    let step = heard_at (sifter_of c.self.inside) e c.args.draws.now c.event_place.result c.in-Some.place (slot_of c.deref_mut.result.now) here c.in-Some.is at in
    heard_next (sifter_of c.self.inside) e c.args.draws.now c.self.inside.queue.items c.in-Some.place c.deref_mut.result.now _ c.hear.new.link refl step c.hear.ensures.next c.hear.ensures.links
    ∙ ap (λ (s : Sifter). with_queue s (hear_step (alone s) e c.args.draws.now).filter.queue (hear_step (alone s) e c.args.draws.now).filter.links) c.self.view_is
