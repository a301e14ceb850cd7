-- Clients as the machine sees them.
use Rattle.std.specs.Prelude.{ℕ, ◌+◌, ◌≡◌, ◌<◌, List, length}
use Rattle.dc_model.specs.Cache.{Cache}
use Rattle.dc_model.specs.Event.{Event, Action}
use Rattle.dc_model.specs.Rules.{Rules}
use Rattle.dc_machine.specs.Machine.{Machine, Input, Stepped}
use Rattle.dc_desk.specs.declared.desk.Counts.{Counts}
use Rattle.dc_clients.specs.declared.clients.Clients.{Clients}

-- The core, by what the store holds.
abbrev pub machine_of : {S : Type 0} → (S → Cache) → Clients S → Machine
machine_of cache c = record {
  cache = cache c.desk.store;
  queries = c.queries.queries;
  connections = c.connections;
  accepted = c.desk.counts.accepted;
  sent = c.desk.counts.sent;
  dropped = c.desk.counts.dropped;
  links = c.desk.link;
}

-- The rules.
abbrev pub rules_of : {S : Type 0} → Clients S → Rules
rules_of c = record { zones = c.desk.zones; permits = c.permit; forward = c.desk.forward }

-- What a step goes by at an event with these random words.
abbrev pub input_of : {S : Type 0} → Clients S → Event → List ℕ → Input
input_of c e draws = record { rules = rules_of c; event = e; draws = draws }

-- How many works there are, but for one that was taken out.
abbrev pub works : {S : Type 0} → Clients S → ℕ
works c = length c.queries.queries + c.queries.spare

-- The counts of queries are below a bound.
pub record AreBelow (n : ℕ) (c : Counts) : Type 0 where
  pub accepted : c.accepted < n
  pub sent : c.sent < n
  pub dropped : c.dropped < n

-- This was made of the core, between two states of the outside, and the rules stay.
pub record Took {S O : Type 0} (acted : O → List Action → O → Type 0) (cache : S → Cache) (before : O) (c : Clients S) (after : O) (c' : Clients S) (s : Stepped) : Type 0 where
  pub acts : acted before s.actions after
  pub machine : machine_of cache c' ≡ s.machine
  pub rules : rules_of c' ≡ rules_of c
