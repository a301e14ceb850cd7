-- A desk and a query on it, as the turn of the query sees them.
use Rattle.std.specs.Prelude.{ℕ, Bool, List}
use Rattle.dc_model.specs.Cache.{Cache}
use Rattle.dc_model.specs.Rules.{Zones}
use Rattle.dc_machine.specs.Turn.{Setting, State}
use Rattle.dc_frames.specs.View.{query_of}
use Rattle.dc_frames.specs.declared.query.Query.{Query}
use Rattle.dc_desk.specs.declared.desk.Counts.{Counts}
use Rattle.dc_desk.specs.declared.desk.Desk.{Desk}
use Rattle.dc_desk.specs.declared.moment.Moment.{Moment}

-- What a turn goes by.
unfoldable pub setting_of : Zones → Bool → Counts → ℕ → List ℕ → Setting
setting_of zones forward counts now draws = record {
  zones = zones;
  forward = forward;
  draws = draws;
  now = now;
  accepted = counts.accepted;
  udp = counts.udp;
  tcp = counts.tcp;
}

-- What a turn goes by at a desk.
abbrev pub setting_at : {S : Type 0} → Desk S → Moment → Setting
setting_at desk moment = setting_of desk.zones desk.forward desk.counts moment.time moment.draws.now

-- What a turn changes, by what the desk's store holds.
abbrev pub at : {S : Type 0} → (S → Cache) → Query → Desk S → State
at cache query desk = record { query = query_of query; cache = cache desk.store; links = desk.link }
