use Rattle.std.proofs.Common.{◌≡◌, ◌++◌, drop}
use Rattle.std.specs.List.{flat_map}
use Rattle.dc_record.specs.HeadLines.{server_text}
use Rattle.dc_record.proofs.head.push_servers.Given as goal

abbrev pub invariant-loop-server : goal.invariant-loop-server
invariant-loop-server l = l.text.items ++ flat_map server_text (drop l.server-index l.servers) ≡ l.fn.text.items ++ flat_map server_text l.servers
