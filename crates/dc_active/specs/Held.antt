-- The active queries that the fields of `Actives` hold.
use Rattle.std.specs.Prelude.{◌≡◌, ◌+◌, ◌≤◌, length, IsNone, vec_capacity, vec_len}
use Rattle.dc_model.specs.Limits.{most_works}
use Rattle.dc_machine.specs.Kept.{AllOf}
use Rattle.dc_machine.specs.Machine.{udp_queries}
use Rattle.dc_active.specs.Roll.{Roll}
use Rattle.dc_active.specs.View.{queries_of, IsFit}
use Rattle.dc_active.specs.declared.actives.Actives.TheInside.{Inside}

-- The active queries, and how many spare works there are.
abbrev pub roll_of : Inside → Roll
roll_of a = record { queries = queries_of a.entries.items; spare = vec_len a.spare }

-- Each entry fits its query, each spare work has an idle sender, the UDP queries are counted, and there is memory for 221.
pub record IsKept (a : Inside) : Type 0 where
  pub fit : AllOf IsFit a.entries.items
  pub idle : AllOf (λ w. IsNone w.value.sender.attempt) a.spare.items
  pub udp : a.udp ≡ length (udp_queries (queries_of a.entries.items))
  pub most : vec_len a.entries + vec_len a.spare ≤ most_works
  pub entries : most_works ≤ vec_capacity a.entries
  pub works : most_works ≤ vec_capacity a.spare
