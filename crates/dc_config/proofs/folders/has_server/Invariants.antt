use Rattle.std.proofs.Common.{◌≡◌, true, take}
use Rattle.std.specs.List.{list_all}
use Rattle.dc_model.specs.Places.{is_empty_place}
use Rattle.dc_config.proofs.folders.has_server.Given as goal

abbrev pub invariant-loop-server : goal.invariant-loop-server
invariant-loop-server l = list_all is_empty_place (take l.server-index l.servers) ≡ true
