use Rattle.std.proofs.Common.{sym, subst}
use Rattle.dc_image.specs.Loaded.{marked, Loads}
use Rattle.dc_image.proofs.LoadLemmas.{loaded, fares_adopted}
use Rattle.dc_image.proofs.load.load_image.Goals as goal

pub returns-clause-loads : goal.returns-clause-loads
returns-clause-loads g c =
    let t = c.in_ok-parts.ensures.took in
    let p = t.3 in
    let left = g.I.Source.left c.take_parts.new.source in (
      t.0,
      t.1,
      t.2,
      subst (λ x. Loads c.args.size x left c.adopt.result) (sym p.2) (loaded c.args.size p.0 c.in_ok-parts.parts.block.items left (marked c.in_ok-parts.parts.marks) c.adopt.result p.1 p.3 p.4 c.adopt.ensures),
    )

pub returns-clause-fares : goal.returns-clause-fares
returns-clause-fares g c =
    fares_adopted g.I.Source.took g.I.Source.refused g.I.Source.faults _ _ c.in_ok-parts.parts.block.items (marked c.in_ok-parts.parts.marks) c.adopt.result c.in_ok-parts.ensures.fares c.adopt.ensures
