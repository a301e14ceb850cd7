-- What a row promises that may ask servers.
use Rattle.std.specs.Prelude.{List, ◌≡◌, IsNone}
use Rattle.dc_model.specs.Event.{Action}
use Rattle.dc_model.specs.Cache.{Cache}
use Rattle.dc_model.specs.Reply.{Reply}
use Rattle.dc_model.specs.Transmission.{Attempt, waiting}
use Rattle.dc_transmit.specs.Standing.{Standing, standing_at}
use Rattle.dc_reply.specs.Draft.{Draft, draft_of}
use Rattle.dc_machine.specs.Turn as turn
use Rattle.dc_machine.specs.Turn.{Setting, State, Point, Row, Following, go, end, row, state_after}
use Rattle.dc_machine.specs.Took.{Took}
use Rattle.dc_frames.specs.declared.query.Query.{Query}
use Rattle.dc_desk.specs.View.{setting_at, at}
use Rattle.dc_desk.specs.Steps.{point_of, cause_of}
use Rattle.dc_desk.specs.declared.desk.Desk.{Desk}
use Rattle.dc_desk.specs.declared.moment.Moment.{Moment}
use Rattle.dc_desk.specs.declared.outcome.Outcome.{Outcome}
use Rattle.dc_desk.specs.declared.outcome.Outcome.TheVariants.{Waiting, Replied, Dropped}
use Rattle.dc_desk.specs.declared.step.Step.{Step}
use Rattle.dc_desk.specs.declared.step.Step.TheVariants.{Go, End}

-- How a turn ended: the query waits for the transmission's attempt; or the reply that is kept answers it, or it is dropped, and
-- nothing is asked.
abbrev pub Ends : Outcome → Draft → Standing → turn.Outcome → Type 0
Ends Waiting d w o = (a : Attempt) × (o ≡ turn.waits a) × (w ≡ standing_at (waiting a))
Ends Replied d w o = (r : Reply) × (o ≡ turn.replied r) × (d ≡ draft_of r) × IsNone w.attempt
Ends (Dropped c) d w o = (o ≡ turn.dropped (cause_of c)) × IsNone w.attempt

-- What follows a row.
abbrev pub Comes : Step → Draft → Standing → Following → Type 0
Comes (Go p) d w f = (f ≡ go (point_of p)) × IsNone w.attempt
Comes (End answer) d w f = (o : turn.Outcome) × (f ≡ end o) × Ends answer d w o

-- A row was taken for a query at a desk, between two states of the outside. What the turn goes by stays, and so do the counts.
pub record TookStep {S O : Type 0} (acted : O → List Action → O → Type 0) (cache : S → Cache) (p : Point) (moment : Moment)
    (before : O) (q : Query) (d : Desk S) (after : O) (q' : Query) (d' : Desk S) (w' : Standing) (step : Step) : Type 0 where
  pub took : Took acted before after (setting_at d moment) p (at cache q d) (at cache q' d') (row (setting_at d moment) p (at cache q d)).following
  pub setting : setting_at d' moment ≡ setting_at d moment
  pub counts : d'.counts ≡ d.counts
  pub next : Comes step d'.reply w' (row (setting_at d moment) p (at cache q d)).following
