use Rattle.std.proofs.Common.{◌≡◌, ◌∷◌, rules}
use Rattle.std.proofs.lemmas.Result.{err_from_is_err_and}
use Rattle.std.specs.Vec.Iter.{into_iter_items}
use Rattle.dc_config.proofs.Asking.{fares_exits, one_more}
use Rattle.dc_config.proofs.folders.add_zone_files.Goals as goal

pub loop-file-preserved : goal.loop-file-preserved
loop-file-preserved g c = record {
  zones = search rules;
  same = search rules;
  asked =
      let i = c.loop-file.invariant in
      let next : into_iter_items c.loop-file.rest ≡ c.in-Some.file ∷ into_iter_items c.next.new.self = search rules in
      one_more g.F.Files.asked g.met.F.Files.asked_both _ _ _ i.asked.0 _ c.in-Some.file _ _ i.asked.1 i.asked.2 next c.in_ok-add_zone_file.ensures.asked;
  stays = search rules;
  count = search rules;
}

pub returns-in_err-add_zone_file-clause-fares : goal.returns-in_err-add_zone_file-clause-fares
returns-in_err-add_zone_file-clause-fares g c =
    let p = err_from_is_err_and c.from_residual.result c.from_residual.ensures.1 in
    let i = c.loop-file.invariant in
    fares_exits g.F.Files.asked g.met.F.Files.asked_both g.F.Files.refused g.F.Files.faults _ _ _ i.asked.0 _ p.0 _ p.1 p.2 i.asked.1 i.stays c.in_err-add_zone_file.ensures.fares
