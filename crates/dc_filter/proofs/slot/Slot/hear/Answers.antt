use Rattle.std.proofs.Common.{◌≡◌, ℕ, List, Option, Some, sym, subst, ap, ◌∙◌}
use Rattle.dc_model.specs.Transmission.{Attempt}
use Rattle.dc_filter.specs.View.{IsFitAt}
use Rattle.dc_filter.specs.declared.slot.Stage.{Stage}
use Rattle.dc_filter.specs.declared.slot.Stage.TheVariants.{Asked}
use Rattle.dc_lookup.specs.Filter.{Slot}
use Rattle.dc_filter.specs.Lines.{Gone}
use Rattle.dc_filter.proofs.HearLemmas.{fresh_step, follow_step, done_step}
use Rattle.dc_filter.proofs.slot.Slot.hear.Goals as goal

pub returns-in-Fresh-clause-acts : goal.returns-in-Fresh-clause-acts
returns-in-Fresh-clause-acts g c =
    let s = c.args.self.now in
    let step = fresh_step s.stage c.in-Fresh.addr s.sender.attempt s.text.items s.line.items c.args.servers.now c.args.link.now c.args.inbox.now c.args.draws.now c.in-Fresh.is in
    subst (λ (x : Gone). g.O.Effects.acted c.args.out.now x.actions c.begin.new.out) (sym step) c.begin.ensures.acts

pub returns-in-Fresh-clause-next : goal.returns-in-Fresh-clause-next
returns-in-Fresh-clause-next g c =
    let s = c.args.self.now in
    let step = fresh_step s.stage c.in-Fresh.addr s.sender.attempt s.text.items s.line.items c.args.servers.now c.args.link.now c.args.inbox.now c.args.draws.now c.in-Fresh.is in
    c.begin.ensures.next ∙ ap (λ (x : Gone). let t : Slot = record { line = s.line.items; at = x.at } in t) (sym step)

pub returns-in-Fresh-clause-links : goal.returns-in-Fresh-clause-links
returns-in-Fresh-clause-links g c =
    let s = c.args.self.now in
    let step = fresh_step s.stage c.in-Fresh.addr s.sender.attempt s.text.items s.line.items c.args.servers.now c.args.link.now c.args.inbox.now c.args.draws.now c.in-Fresh.is in
    c.begin.ensures.links ∙ ap (λ (x : Gone). x.links) (sym step)

-- The attempt of a line that is asked for.
asking : (stage : Stage) (attempt : Option Attempt) (text : List ℕ) → IsFitAt stage attempt text → stage ≡ Asked → (a : Attempt) × (attempt ≡ Some a)
asking stage attempt text fit h = subst (λ (s : Stage). IsFitAt s attempt text) h fit

pub returns-in-Asked-clause-acts : goal.returns-in-Asked-clause-acts
returns-in-Asked-clause-acts g c =
    let s = c.args.self.now in
    let a = asking s.stage s.sender.attempt s.text.items c.requires.fit c.in-Asked.is in
    let step = follow_step s.stage s.sender.attempt s.text.items s.line.items c.args.servers.now c.args.link.now c.args.inbox.now c.args.draws.now c.in-Asked.is a.0 a.1 in
    subst (λ (x : Gone). g.O.Effects.acted c.args.out.now x.actions c.follow.new.out) (sym step) c.follow.ensures.acts

pub returns-in-Asked-clause-next : goal.returns-in-Asked-clause-next
returns-in-Asked-clause-next g c =
    let s = c.args.self.now in
    let a = asking s.stage s.sender.attempt s.text.items c.requires.fit c.in-Asked.is in
    let step = follow_step s.stage s.sender.attempt s.text.items s.line.items c.args.servers.now c.args.link.now c.args.inbox.now c.args.draws.now c.in-Asked.is a.0 a.1 in
    c.follow.ensures.next ∙ ap (λ (x : Gone). let t : Slot = record { line = s.line.items; at = x.at } in t) (sym step)

pub returns-in-Asked-clause-links : goal.returns-in-Asked-clause-links
returns-in-Asked-clause-links g c =
    let s = c.args.self.now in
    let a = asking s.stage s.sender.attempt s.text.items c.requires.fit c.in-Asked.is in
    let step = follow_step s.stage s.sender.attempt s.text.items s.line.items c.args.servers.now c.args.link.now c.args.inbox.now c.args.draws.now c.in-Asked.is a.0 a.1 in
    c.follow.ensures.links ∙ ap (λ (x : Gone). x.links) (sym step)

pub returns-in-Done-clause-acts : goal.returns-in-Done-clause-acts
returns-in-Done-clause-acts g c =
    let s = c.args.self.now in
    let step = done_step s.stage s.sender.attempt s.text.items s.line.items c.args.servers.now c.args.link.now c.args.inbox.now c.args.draws.now c.in-Done.is in
    subst (λ (x : Gone). g.O.Effects.acted c.args.out.now x.actions c.args.out.now) (sym step) (g.met.O.Effects.acted_none c.args.out.now)

pub returns-in-Done-clause-next : goal.returns-in-Done-clause-next
returns-in-Done-clause-next g c =
    let s = c.args.self.now in
    let step = done_step s.stage s.sender.attempt s.text.items s.line.items c.args.servers.now c.args.link.now c.args.inbox.now c.args.draws.now c.in-Done.is in
    ap (λ (x : Gone). let t : Slot = record { line = s.line.items; at = x.at } in t) (sym step)

pub returns-in-Done-clause-links : goal.returns-in-Done-clause-links
returns-in-Done-clause-links g c =
    let s = c.args.self.now in
    let step = done_step s.stage s.sender.attempt s.text.items s.line.items c.args.servers.now c.args.link.now c.args.inbox.now c.args.draws.now c.in-Done.is in
    ap (λ (x : Gone). x.links) (sym step)
