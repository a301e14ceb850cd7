-- The servers of the code as those of the tree.
use Rattle.std.specs.Prelude.{◌<◌}
use Rattle.dc_simulation.specs.Tree as tree
use Rattle.dc_sim.specs.declared.server.Server.{Server}
use Rattle.dc_sim.specs.declared.server.Server.TheVariants.{Root, Top, Zone}

-- The server that it is.
abbrev pub server_of : Server → tree.Server
server_of Root = tree.of_root
server_of (Top k) = tree.of_top k
server_of (Zone j k) = tree.of_zone j k

-- Its numbers are those of the tree.
abbrev pub IsPlaced : Server → Type 0
IsPlaced Root = Unit {0}
IsPlaced (Top k) = k < 16
IsPlaced (Zone j k) = (j < 16) × (k < 16)
