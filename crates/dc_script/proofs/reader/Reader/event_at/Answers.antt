use Rattle.std.proofs.Common.{Some, ap, arith, refl, sym, ◌∙◌}
use Rattle.dc_script.proofs.Furthering.{found_says, not_end, at_none, at_same, at_other}
use Rattle.dc_script.proofs.StateLemmas.{ReadOff-line}
use Rattle.dc_script.proofs.reader.Reader.event_at.Goals as goal

pub returns-in-None-clause-gives : goal.returns-in-None-clause-gives
returns-in-None-clause-gives g c =
    let found = c.requires.found in
    (at_none _ _ (found_says _ _ _ _ _ c.requires.ended found (c.args.self.now.line found) (c.args.self.now.short found) (sym (rw c.line.ensures at c.in-None.ensures.event))), refl)

pub returns-then-line-now-clause-gives : goal.returns-then-line-now-clause-gives
returns-then-line-now-clause-gives g c =
    let found = c.requires.found in
    (at_other _ _ _ (found_says _ _ _ _ _ c.requires.ended found (c.args.self.now.line found) (c.args.self.now.short found) (sym (rw c.line.ensures at c.in-Some.ensures.event))) c.if-line-now.true, refl)

pub returns-clause-gives : goal.returns-clause-gives
returns-clause-gives g c =
    let found = c.requires.found in
    let says = found_says _ _ _ _ _ c.requires.ended found (c.args.self.now.line found) (c.args.self.now.short found) (sym (rw c.line.ensures at c.in-Some.ensures.event)) in
    (at_same _ _ _ (says ∙ ap Some (sym c.put_event.ensures.event)) (ap (λ e. e.now) c.put_event.ensures.event ∙ c.if-line-now.false), c.put_event.ensures.bounds)

pub returns-clause-heard : goal.returns-clause-heard
returns-clause-heard g c =
    let found = c.requires.found in
    let says = sym (rw c.line.ensures at c.in-Some.ensures.event) in
    ReadOff-line g.S.Source.took g.met.S.Source.took_none _ _ _ _ _ _ _ _ _ c.requires.ended found (c.args.self.now.line found)
    (c.args.self.now.short found) (not_end _ _ says)
    (says ∙ ap Some (sym c.put_event.ensures.event))
    (λ h. omega (arith, c.saturating_add-self.ensures, h))
