-- What the public calls promise: whole turns.
use Rattle.std.specs.Prelude.{ℕ, List, [], ◌≡◌, Some}
use Rattle.dc_model.specs.Event.{Action}
use Rattle.dc_model.specs.Transmission.{Progress, waiting, packet, failed, no_port, After}
use Rattle.dc_transmit.specs.Standing.{Standing}
use Rattle.dc_reply.specs.Draft.{Draft}
use Rattle.dc_model.specs.Cache.{Cache}
use Rattle.dc_model.specs.Message.{Request}
use Rattle.dc_machine.specs.Query.{query_for}
use Rattle.dc_desk.specs.declared.desk.Desk.{Desk}
use Rattle.dc_machine.specs.Turn as turn
use Rattle.dc_machine.specs.Turn.{Setting, State, Turned, before, turn as turn_from, at_heard, at_failed, at_no_port, waits}
use Rattle.dc_desk.specs.declared.outcome.Outcome.{Outcome}
use Rattle.dc_resolve.specs.Steps.{Ends}

-- A turn was taken, between two states of the outside: what it did, the state that it leaves, and how it ended.
pub record TookTurned {O : Type 0} (acted : O → List Action → O → Type 0) (first last : O) (t : Turned) (s : State) (d : Draft) (w : Standing) (answer : Outcome) : Type 0 where
  pub acts : acted first t.actions last
  pub state : s ≡ t.state
  pub outcome : turn.Outcome
  pub same : Some outcome ≡ t.outcome
  pub ends : Ends answer d w outcome

-- A state with so many links used.
abbrev pub with_links : ℕ → State → State
with_links n s = record s { links = n }

-- What follows an event on the query's transmission: it goes on, or the query has a turn.
unfoldable pub turned_by : Progress → Setting → State → Turned
turned_by (waiting a) g s = record { state = s; puts = []; actions = []; outcome = Some (waits a) }
turned_by (packet p) g s = turn_from g (at_heard p) s
turned_by failed g s = turn_from g at_failed s
turned_by no_port g s = turn_from g at_no_port s

-- The same behind what the transmission did.
unfoldable pub turned_after : After → Setting → State → Turned
turned_after f g s = before [] f.actions (turned_by f.progress g (with_links f.links s))

-- A query that begins with a request, at a desk.
abbrev pub begins : {S : Type 0} → Request → (S → Cache) → Desk S → State
begins request cache desk = record { query = query_for request; cache = cache desk.store; links = desk.link }
