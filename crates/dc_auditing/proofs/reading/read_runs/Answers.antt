use Rattle.std.proofs.Common.{◌≡◌, ◌<◌, ℕ, List, length, map, take, ◌++◌, [], ◌∷◌, ap, sym, ◌∙◌, arith, refl}
use Rattle.std.specs.Prelude.{string_bytes}
use Rattle.std.proofs.lemmas.List.{map_more}
use Rattle.std.proofs.lemmas.Result.{err_from_is_err_and}
use Rattle.dc_auditing.proofs.AskingLemmas.{fares_exits, asked_more, told_more}
use Rattle.dc_auditing.proofs.SpreadLemmas.{held_none, whole_none, each_more}
use Rattle.dc_auditing.proofs.reading.read_runs.Goals as goal

pub loop-name-init : goal.loop-name-init
loop-name-init g c = record {
  told = λ t e. held_none _ _ c.new-runs.ensures.present c.new-runs.ensures.pairs;
  whole = whole_none _ _ c.new-runs.ensures.present c.new-runs.ensures.pairs;
  each = ap length c.new-runs.ensures.present;
  same = refl;
  asked = g.met.F.Files.asked_none _;
  stays = refl;
}

pub returns-in_err-run-clause-fares : goal.returns-in_err-run-clause-fares
returns-in_err-run-clause-fares g c =
    let p = err_from_is_err_and c.from_residual.result c.from_residual.ensures.1 in
    let i = c.loop-name.invariant in
    fares_exits g.F.Files.asked g.met.F.Files.asked_both g.F.Files.refused g.F.Files.faults _ _ _ _ _ p.0 _ p.1 p.2 i.asked i.stays c.in_err-run.ensures.fares

pub loop-name-preserved : goal.loop-name-preserved
loop-name-preserved g c =
    let i = c.loop-name.invariant in
    let names = c.args.names.now in
    let at = c.loop-name.name-index in
    let lt : at < length names = c.loop-name-test.true in
    let item = c.name-item.result in
    let more = map_more string_bytes names at item lt ∙ ap (λ s. map string_bytes (take at names) ++ string_bytes s ∷ []) (sym c.name-item.is) in
    record {
      told = λ t e. told_more t _ _ _ c.as_str.result.now (string_bytes item) (map string_bytes (take at names)) _ (i.told t e) c.in_ok-push.ensures.held (c.in_ok-run.ensures.told t (i.same ∙ e)) c.as_str.ensures.value more;
      whole = c.in_ok-push.ensures.whole;
      each = each_more c.loop-name.runs.present.items c.push.new.self.present.items c.loop-name.runs.pairs.items c.push.new.self.pairs.items _ at c.in_ok-push.ensures.held i.each;
      same = c.in_ok-run.ensures.same ∙ i.same;
      asked = asked_more g.F.Files.asked g.met.F.Files.asked_both _ _ _ (map string_bytes (take at names)) _ c.as_str.result.now (string_bytes item) c.as_str.ensures.value more i.asked c.in_ok-run.ensures.asked;
      stays = c.in_ok-run.ensures.fares ∙ i.stays;
    }
