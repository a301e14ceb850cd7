use Rattle.std.proofs.Common.{Some, ap, arith, refl, sym, ◌∙◌}
use Rattle.dc_script.proofs.StateLemmas.{Breaks-here, ReadOff-behind, ReadOff-line}
use Rattle.dc_script.proofs.reader.Reader.line_found.Goals as goal

pub returns-then-is_end-clause-heard : goal.returns-then-is_end-clause-heard
returns-then-is_end-clause-heard g c =
    ReadOff-behind g.S.Source.took _ _ _ _ _ _ _ _ _ _ _ _ _ _ c.requires.ended c.requires.found (sym c.line.ensures ∙ c.if-is_end.ensures.same refl)
    c.behind_end.ensures.answer c.behind_end.ensures.heard

pub returns-in-None-clause-answer : goal.returns-in-None-clause-answer
returns-in-None-clause-answer g c =
    Breaks-here _ _ _ _ _ _ _ c.requires.ended c.requires.found (c.args.self.now.line c.requires.found)
    (sym (rw c.line.ensures at c.if-is_end.ensures.value)) (sym (rw c.line-2.ensures at c.in-None.ensures.event)) c.number.ensures

pub returns-clause-heard : goal.returns-clause-heard
returns-clause-heard g c =
    ReadOff-line g.S.Source.took g.met.S.Source.took_none _ _ _ _ _ _ _ _ _ c.requires.ended c.requires.found (c.args.self.now.line c.requires.found)
    (c.args.self.now.short c.requires.found) (sym (rw c.line.ensures at c.if-is_end.ensures.value))
    (sym (rw c.line-2.ensures at c.in-Some.ensures.event) ∙ ap Some (sym c.put_event.ensures.event))
    (λ h. omega (arith, c.saturating_add-self.ensures, h))
