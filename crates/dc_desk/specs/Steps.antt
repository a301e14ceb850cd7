-- What a rule of a turn promises, and what a turn does.
use Rattle.std.specs.Prelude.{List, ◌≡◌}
use Rattle.dc_model.specs.Event.{second, Action}
use Rattle.dc_model.specs.Line as line
use Rattle.dc_model.specs.Reply.{Reply}
use Rattle.dc_model.specs.Puts.{all_put}
use Rattle.dc_model.specs.Cache.{Cache}
use Rattle.dc_reply.specs.Draft.{Draft, draft_of}
use Rattle.dc_machine.specs.Turn as turn
use Rattle.dc_machine.specs.Turn.{Setting, State, Row, Following, go, end}
use Rattle.dc_frames.specs.View.{query_of}
use Rattle.dc_frames.specs.declared.query.Query.{Query}
use Rattle.dc_desk.specs.View.{setting_at, at}
use Rattle.dc_desk.specs.declared.desk.Desk.{Desk}
use Rattle.dc_desk.specs.declared.moment.Moment.{Moment}
use Rattle.dc_desk.specs.declared.outcome.Cause.{Cause}
use Rattle.dc_desk.specs.declared.outcome.Cause.TheVariants as cause
use Rattle.dc_desk.specs.declared.outcome.Outcome.TheVariants.{Waiting, Replied, Dropped}
use Rattle.dc_desk.specs.declared.step.Point.{Point}
use Rattle.dc_desk.specs.declared.step.Point.TheVariants.{Look, Next, Down, Servfail, NxDomain, Alias}
use Rattle.dc_desk.specs.declared.step.Step.{Step}
use Rattle.dc_desk.specs.declared.step.Step.TheVariants.{Go, End}

-- Why a query is dropped.
abbrev pub cause_of : Cause → line.DropCause
cause_of cause.Axfr = line.axfr
cause_of cause.Malformed = line.malformed
cause_of cause.Turns = line.turns
cause_of cause.Aliases = line.aliases
cause_of cause.Foreign = line.foreign
cause_of cause.TooLong = line.too_long
cause_of cause.NoPort = line.no_port

-- A point of the table.
abbrev pub point_of : Point → turn.Point
point_of Look = turn.at_look
point_of Next = turn.at_next
point_of Down = turn.at_down
point_of Servfail = turn.at_servfail
point_of NxDomain = turn.at_nxdomain
point_of (Alias target ttl) = turn.at_alias target ttl

-- What follows a rule that asks nobody, as it was answered. Where the query is replied to, the reply is what is kept.
abbrev pub Follows : Step → Draft → Following → Type 0
Follows (Go p) d f = f ≡ go (point_of p)
Follows (End Waiting) d f = ⊥
Follows (End Replied) d f = (r : Reply) × (f ≡ end (turn.replied r)) × (d ≡ draft_of r)
Follows (End (Dropped c)) d f = f ≡ end (turn.dropped (cause_of c))

-- A row that asks nobody was taken for a query at a desk, between two states of the outside: what it did, the query and the cache
-- that it leaves, and what follows. What the turn goes by stays, and so do the number of links and the counts.
pub record TookRow {S O : Type 0} (acted : O → List Action → O → Type 0) (cache : S → Cache) (row : Setting → State → Row) (moment : Moment)
    (before : O) (q : Query) (d : Desk S) (after : O) (q' : Query) (d' : Desk S) (step : Step) : Type 0 where
  pub acts : acted before (row (setting_at d moment) (at cache q d)).actions after
  pub query : query_of q' ≡ (row (setting_at d moment) (at cache q d)).query
  pub store : cache d'.store ≡ all_put (row (setting_at d moment) (at cache q d)).puts (second moment.time) (cache d.store)
  pub links : d'.link ≡ d.link
  pub setting : setting_at d' moment ≡ setting_at d moment
  pub counts : d'.counts ≡ d.counts
  pub next : Follows step d'.reply (row (setting_at d moment) (at cache q d)).following
