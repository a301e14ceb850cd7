use Rattle.std.proofs.Common.{◌≡◌, ◌+◌, ◌-◌, ◌∷◌, ◌∙◌, length, map, take, drop, get_or, false, ap, sym, refl, arith, length-drop}
use Rattle.std.proofs.lemmas.List.{drop-drop, take_all}
use Rattle.dc_auditing.specs.Runs.{spread, found_of}
use Rattle.dc_auditing.proofs.FindingLemmas.{placed_more, placed_all}
use Rattle.dc_auditing.proofs.judging.findings.Goals as goal

pub loop-there-preserved : goal.loop-there-preserved
loop-there-preserved c =
    let i = c.loop-there.invariant in
    let present = c.args.present.now in
    let at = c.loop-there.there-index in
    let placed = c.placed-finding in
    let next = c.loop-there.next in
    let verdicts = c.args.verdicts.now in
    let whole : take (length verdicts - next) (drop next verdicts) ≡ drop next verdicts = take_all _ (drop next verdicts) (let l = length-drop next verdicts in omega (arith, l)) in
    let on = drop-drop placed.result.1 next verdicts in
    record {
      items = placed_more c.loop-there.findings.items c.push.new.self.items present at (get_or present at false) false (drop next verdicts) (drop (next + placed.result.1) verdicts) placed.result.0 _ c.loop-there-test.true refl
          (λ bs. ap (λ l. map found_of (spread (get_or present at false ∷ bs) l)) (sym whole) ∙ placed.ensures.found bs ∙ ap (λ l. placed.result.0 ∷ map found_of (spread bs (drop placed.result.1 l))) whole ∙ ap (λ l. placed.result.0 ∷ map found_of (spread bs l)) on) c.in_ok-push.ensures.items i.items;
      bound = let l = ap length whole in omega (arith, placed.ensures.bound, l, length-drop next verdicts, i.bound);
    }

pub returns : goal.returns
returns c = placed_all c.loop-there.findings.items c.args.present.now c.loop-there.there-index _ _ c.loop-there-test.false c.loop-there.invariant.items
