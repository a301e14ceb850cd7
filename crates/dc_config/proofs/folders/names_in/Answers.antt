use Rattle.std.proofs.Common.{◌∙◌}
use Rattle.dc_event.specs.Causes.{failed_now}
use Rattle.dc_config.proofs.Order.{listing_some, listing_none}
use Rattle.dc_config.proofs.folders.names_in.Goals as goal

pub returns-in_ok-sorted-in-Names-clause-names : goal.returns-in_ok-sorted-in-Names-clause-names
returns-in_ok-sorted-in-Names-clause-names g c = λ t e. c.in_ok-sorted-in-Names.ensures ∙ listing_some (t.names c.args.folder.now) c.in-Names.names.items (c.in-Names.ensures.names t e)

pub returns-in-Absent-clause-names : goal.returns-in-Absent-clause-names
returns-in-Absent-clause-names g c = λ t e. c.new.ensures.items ∙ listing_none (t.names c.args.folder.now) (c.in-Absent.ensures.names t e)

pub returns-in-Failed-clause-fares : goal.returns-in-Failed-clause-fares
returns-in-Failed-clause-fares g c =
    failed_now g.F.Files.asked g.met.F.Files.asked_none g.F.Files.refused g.F.Files.faults _ _ c.in-Failed.ensures.failed c.in-Failed.ensures.count
