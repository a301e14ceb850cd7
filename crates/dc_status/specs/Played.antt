-- The status of a script that was played.
use Rattle.dc_play.specs.declared.played.Played.{Played}
use Rattle.dc_play.specs.declared.played.Played.TheVariants as played
use Rattle.dc_status.specs.declared.status.Status.{Status}
use Rattle.dc_status.specs.declared.status.Status.TheVariants.{Done, Spent, ReadFault, WriteFault, BadScript}

abbrev pub status_of : Played → Status
status_of played.Done = Done
status_of played.Spent = Spent
status_of (played.Bad k) = BadScript k
status_of played.ReadFault = ReadFault
status_of played.WriteFault = WriteFault
