-- Servers that fit what is told of the files.
use Rattle.std.proofs.Common.{◌≡◌, ℕ, List, [], refl, Option, Some, None}
use Rattle.dc_config.specs.Environment.{Environment}
use Rattle.dc_config.specs.Tree.{Tree}
use Rattle.dc_stub.specs.Begun.{servers_in, AreServers}

pub some_servers : (o : Option Tree) (env : Environment) → (servers : List (List ℕ)) × AreServers o env servers
some_servers None env = ([], tt)
some_servers (Some t) env = (servers_in env t, refl)

pub servers_are : (o : Option Tree) (env : Environment) (servers : List (List ℕ)) → ((t : Tree) → o ≡ Some t → servers ≡ servers_in env t) → AreServers o env servers
servers_are None env servers h = tt
servers_are (Some t) env servers h = h t refl
