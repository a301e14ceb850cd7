-- Rules that do nothing to the outside and put nothing into the cache.
use Rattle.std.specs.Prelude.{◌≡◌, []}
use Rattle.std.specs.List.{AllByRecursion}
use Rattle.dc_model.specs.Message.{Message, IsWellFormed}
use Rattle.dc_reply.specs.Draft.{Draft}
use Rattle.dc_machine.specs.Query.{Query}
use Rattle.dc_machine.specs.Turn.{Row}
use Rattle.dc_desk.specs.declared.step.Step.{Step}
use Rattle.dc_desk.specs.Steps.{Follows}

-- A row without actions and puts leads to this query, and to what follows it with this reply.
pub record Leads (r : Row) (q : Query) (d : Draft) (step : Step) : Type 0 where
  pub acts : r.actions ≡ []
  pub puts : r.puts ≡ []
  pub query : q ≡ r.query
  pub next : Follows step d r.following

-- The data of each record has the form of its type and class.
abbrev pub AreFormed : Message → Type 0
AreFormed m = AllByRecursion (λ r. IsWellFormed r) m.records
