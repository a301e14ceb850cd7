use Rattle.std.proofs.Common.{◌≡◌, ◌≢◌, ◌^◌, min, sym, ◌∙◌}
use Rattle.dc_model.specs.Draws.{draws_of}
use Rattle.dc_stub.specs.Begun.{bytes_of}
use Rattle.dc_stub.proofs.BegunLemmas.{servers_are}
use Rattle.dc_filtering.proofs.RunLemmas.{slots_fit, sifted_by, files_fare}
use Rattle.dc_filtering.proofs.running.run.Goals as goal

pub filter-requires-clause-least : goal.filter-requires-clause-least
filter-requires-clause-least g c = (slots_fit (bytes_of c.args.words.now) c.in-Some.slots (sym c.slots_of.ensures.slots ∙ c.in-Some.is)).0

pub filter-requires-clause-most : goal.filter-requires-clause-most
filter-requires-clause-most g c = (slots_fit (bytes_of c.args.words.now) c.in-Some.slots (sym c.slots_of.ensures.slots ∙ c.in-Some.is)).1

pub returns-in-Ok-clause-filtered : goal.returns-in-Ok-clause-filtered
returns-in-Ok-clause-filtered g c slots is other memory = (
  c.in-Ok.servers,
  servers_are (g.F.Files.tree c.args.files.now) c.args.env.now c.in-Ok.servers c.in-Ok.ensures.servers,
  sifted_by g.S.Source.took g.S.Source.left g.K.Sink.gained g.W.World.history g.W.World.used_up g.W.World.broken _ _ _ _ _ _ (min c.args.turns (2 ^ 60)) (bytes_of c.args.words.now) c.in-Some.slots slots c.in-Ok.servers
      (draws_of c.args.seed) c.filter.result (sym c.slots_of.ensures.slots ∙ c.in-Some.is) is (c.filter.ensures.sifted memory),
)

pub returns-in-Ok-clause-files_fare : goal.returns-in-Ok-clause-files_fare
returns-in-Ok-clause-files_fare g c = files_fare g.F.Files.asked g.F.Files.refused g.F.Files.faults c.filter.result _ _ c.filter.ensures.asked c.in-Ok.ensures.fares
