-- The work of a query behind a turn.
use Rattle.std.specs.Prelude.{IsTrue, IsNone}
use Rattle.dc_reply.specs.Draft.{Draft}
use Rattle.dc_active.specs.View.{IsWaiting}
use Rattle.dc_active.specs.declared.work.Work.{Work}
use Rattle.dc_desk.specs.declared.outcome.Outcome.{Outcome}
use Rattle.dc_desk.specs.declared.outcome.Outcome.TheVariants.{Waiting, Replied, Dropped}

-- The query waits; or its sender is idle, and where it is replied to the kept reply is begun.
abbrev pub EndsWell : Outcome → Draft → Work → Type 0
EndsWell Waiting d w = IsWaiting w
EndsWell Replied d w = IsTrue d.begun × IsNone w.sender.attempt
EndsWell (Dropped cause) d w = IsNone w.sender.attempt
