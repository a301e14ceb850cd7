use Rattle.dc_event.specs.Causes.{failed_now}
use Rattle.dc_auditing.proofs.reading.read_file.Goals as goal

pub returns-in-Failed-clause-fares : goal.returns-in-Failed-clause-fares
returns-in-Failed-clause-fares g c = failed_now g.F.Files.asked g.met.F.Files.asked_none g.F.Files.refused g.F.Files.faults _ _ c.in-Failed.ensures.failed c.in-Failed.ensures.count
