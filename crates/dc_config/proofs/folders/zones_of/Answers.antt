use Rattle.std.proofs.Common.{◌≡◌, true, false, sym, ap, ◌∙◌}
use Rattle.std.proofs.lemmas.Result.{err_from_is_err_and}
use Rattle.dc_model.specs.Name.{root}
use Rattle.dc_model.specs.Rules.{servers}
use Rattle.dc_config.specs.Answered.{and_then}
use Rattle.dc_config.specs.Folders as defined
use Rattle.dc_config.proofs.Steps.{refused, refuses-along, exits}
use Rattle.dc_config.proofs.Asking.{fares_exits, zones_asked}
use Rattle.dc_config.proofs.Zoned.{zones_from, zones_rooted, zones_unrooted}
use Rattle.dc_config.proofs.folders.zones_of.Goals as goal

pub returns-in_err-add_zone_files-clause-zones : goal.returns-in_err-add_zone_files-clause-zones
returns-in_err-add_zone_files-clause-zones g c = λ t e.
    let p = err_from_is_err_and c.from_residual-in_err-add_zone_files.result c.from_residual-in_err-add_zone_files.ensures.1 in
    let whole = zones_from t c.in_ok-names.names.items c.in_ok-zones.zones (c.in_ok-names.ensures.names t e) c.in_ok-zones.ensures in
    exits _ (defined.zones_of t) p.0 c.in_err-add_zone_files.field-0.0 p.1 p.2
    (refuses-along _ _ _ (sym whole) (refused _ _ defined.rooted (c.in_err-add_zone_files.ensures.zones t (c.in_ok-names.ensures.same ∙ e))))

pub returns-then-not-has_root-clause-zones : goal.returns-then-not-has_root-clause-zones
returns-then-not-has_root-clause-zones g c = λ t e.
    let whole = zones_from t c.in_ok-names.names.items c.in_ok-zones.zones (c.in_ok-names.ensures.names t e) c.in_ok-zones.ensures in
    let none : defined.has_server (servers c.add_zone_files.new.zones root) ≡ false = cc in
    whole ∙ ap (λ r. and_then defined.rooted r) (c.in_ok-add_zone_files.ensures.zones t (c.in_ok-names.ensures.same ∙ e)) ∙ zones_unrooted c.add_zone_files.new.zones none

pub returns-clause-zones : goal.returns-clause-zones
returns-clause-zones g c = λ t e.
    let whole = zones_from t c.in_ok-names.names.items c.in_ok-zones.zones (c.in_ok-names.ensures.names t e) c.in_ok-zones.ensures in
    let some : defined.has_server (servers c.add_zone_files.new.zones root) ≡ true = cc in
    whole ∙ ap (λ r. and_then defined.rooted r) (c.in_ok-add_zone_files.ensures.zones t (c.in_ok-names.ensures.same ∙ e)) ∙ zones_rooted c.add_zone_files.new.zones some

pub returns-in_err-add_zone_files-clause-fares : goal.returns-in_err-add_zone_files-clause-fares
returns-in_err-add_zone_files-clause-fares g c =
    let p = err_from_is_err_and c.from_residual-in_err-add_zone_files.result c.from_residual-in_err-add_zone_files.ensures.1 in
    fares_exits g.F.Files.asked g.met.F.Files.asked_both g.F.Files.refused g.F.Files.faults _ _ _ _ _ p.0 _ p.1 p.2 c.in_ok-names.ensures.asked c.in_ok-names.ensures.fares
    c.in_err-add_zone_files.ensures.fares

pub returns-clause-asked : goal.returns-clause-asked
returns-clause-asked g c = record {
  files = c.in_ok-names.names.items;
  told = c.in_ok-names.ensures.names;
  asks = zones_asked g.F.Files.tree g.F.Files.asked g.met.F.Files.asked_both _ _ _ c.in_ok-names.names.items c.in_ok-names.ensures.asked c.in_ok-add_zone_files.ensures.asked;
}
