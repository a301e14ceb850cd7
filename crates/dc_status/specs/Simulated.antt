-- The status of a simulation.
use Rattle.dc_simulate.specs.declared.command.Simulated.{Simulated}
use Rattle.dc_simulate.specs.declared.command.Simulated.TheVariants as simulated
use Rattle.dc_status.specs.declared.status.Status.{Status}
use Rattle.dc_status.specs.declared.status.Status.TheVariants.{Done, WriteFault, NoMemory}

abbrev pub status_of : Simulated → Status
status_of simulated.Done = Done
status_of simulated.WriteFault = WriteFault
status_of simulated.NoMemory = NoMemory
