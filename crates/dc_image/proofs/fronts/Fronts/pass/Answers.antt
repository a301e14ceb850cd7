use Rattle.std.proofs.Common.{◌<◌, ◌≤◌, ◌≡◌, ◌∷◌, ◌++◌, sym, subst, arith}
use Rattle.dc_model.specs.Layout.{end_to_end, entry_read}
use Rattle.dc_image.specs.Gathered.{Lies}
use Rattle.dc_image.specs.Fronts.{AreNoted}
use Rattle.dc_image.proofs.GatherLemmas.{lies_up}
use Rattle.dc_image.proofs.FrontLemmas.{lies_more, places_more, pass_stops}
use Rattle.dc_image.proofs.fronts.Fronts.pass.Goals as goal

pub note-requires-clause-noted : goal.note-requires-clause-noted
note-requires-clause-noted c =
    let r = c.entries.invariant.done c.requires.noted.0 c.requires.noted.1 in
    (end_to_end c.args.from r.0 ++ c.requires.noted.0, r.2)

pub entries-smaller : goal.entries-smaller
entries-smaller c =
    let r = c.entries.invariant.done c.requires.noted.0 c.requires.noted.1 in
    let s = c.in-Some.ensures (end_to_end c.args.from r.0 ++ c.requires.noted.0) r.2 in
    let w = s.1.within in
    let k : c.entries.at < c.in-Some.end = omega (arith, s.0) in
    let m : c.in-Some.end ≤ c.args.up = omega (arith, s.0, w) in
    omega (arith, k, m)

pub entries-preserved : goal.entries-preserved
entries-preserved c =
    let r = c.entries.invariant.done c.requires.noted.0 c.requires.noted.1 in
    let s = c.in-Some.ensures (end_to_end c.args.from r.0 ++ c.requires.noted.0) r.2 in
    let w = s.1.within in
    let after = c.entries.invariant.after in
    record {
      after = omega (arith, s.0, after);
      within = omega (arith, s.0, w);
      done = λ ps n.
          let d = c.entries.invariant.done ps n in
          let t = c.in-Some.ensures (end_to_end c.args.from d.0 ++ ps) d.2 in
          let lies = lies_more c.args.block.now c.args.from c.entries.at c.args.up d.0 c.requires.within d.1 t.1 in (
            entry_read c.args.block.now c.entries.at ∷ d.0,
            subst (λ k. Lies c.args.block.now c.args.from k (entry_read c.args.block.now c.entries.at ∷ d.0)) (sym t.0) lies,
            subst (λ x. AreNoted c.args.block.now x c.note.new.self) (sym (places_more c.args.block.now c.args.from c.entries.at d.0 ps (lies_up c.args.block.now c.args.from c.entries.at d.0 d.1))) t.2,
          );
    }

pub returns-in-None : goal.returns-in-None
returns-in-None c = λ ps n.
    let d = c.entries.invariant.done ps n in
    pass_stops c.args.block.now c.args.from c.entries.at c.args.up d.0 ps (omega arith) d.1 (c.in-None.ensures (end_to_end c.args.from d.0 ++ ps) d.2)

pub returns : goal.returns
returns c = λ ps n.
    let d = c.entries.invariant.done ps n in
    let e : c.entries.at ≡ c.args.up = omega arith in
    (d.0, subst (λ k. Lies c.args.block.now c.args.from k d.0) e d.1, d.2)
