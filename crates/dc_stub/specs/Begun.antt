-- What a tool's run begins with: its words, and the servers that it asks.
use Rattle.std.specs.Prelude.{◌≡◌, ℕ, List, map, Option, Some, None, string_bytes, String, codes}
use Rattle.std.specs.declared.alloc.Global.{Global}
use Rattle.dc_config.specs.Environment.{Environment, value_of}
use Rattle.dc_config.specs.Tree.{Tree}
use Rattle.dc_lookup.specs.Servers.{tool_servers}

-- The bytes of each word.
abbrev pub bytes_of : List (String Global) → List (List ℕ)
bytes_of words = map (λ (w : String Global). string_bytes w) words

-- The servers of an environment and of files.
abbrev pub servers_in : Environment → Tree → List (List ℕ)
servers_in env t = tool_servers (value_of (codes "DNSCACHEIP") env) (t.bytes (codes "/etc/resolv.conf"))

-- Where it is told what the files hold, the servers are theirs.
abbrev pub AreServers : Option Tree → Environment → List (List ℕ) → Type 0
AreServers None env servers = Unit {0}
AreServers (Some t) env servers = servers ≡ servers_in env t
