-- The configuration that a service serves while it records.
use Rattle.std.specs.Prelude.{◌≡◌, None}
use Rattle.dc_rules.specs.Leading.{root_first}
use Rattle.dc_rules.specs.declared.config.Config.{Config}
use Rattle.dc_record.specs.HeadOf.{head_refusal}

-- The same configuration, but the root's zone stands before all others, as in a script's head. Each name has the servers that it had.
abbrev pub rooted : Config → Config
rooted c = record c { zones = root_first c.zones }

-- Whether its zones can be said in a head.

abbrev pub IsSaid : Config → Type 0
IsSaid c = head_refusal (rooted c).zones.configured ≡ None

abbrev pub IsUnsaid : Config → Type 0
IsUnsaid c = IsSaid c → ⊥
