-- Whose fault an answer is.
use Rattle.std.specs.Prelude.{Bool, true, false}
use Rattle.dc_status.specs.declared.status.Status.{Status}
use Rattle.dc_status.specs.declared.status.Status.TheVariants.{Done, Spent, Usage, BadVariable, NoRoot, BadZone, BadPermit, FilesFault, SeedShort, ReadFault, WriteFault, BadScript, BadImage, Unequal, WorldFault, NoMemory}

-- The object of which a call failed.
pub data Fault : Type 0 where
  nobody : Fault
  of_files : Fault
  of_source : Fault
  of_sink : Fault
  of_world : Fault

abbrev pub fault_of : Status → Fault
fault_of FilesFault = of_files
fault_of ReadFault = of_source
fault_of WriteFault = of_sink
fault_of WorldFault = of_world
fault_of Done = nobody
fault_of Spent = nobody
fault_of Usage = nobody
fault_of (BadVariable v) = nobody
fault_of NoRoot = nobody
fault_of (BadZone f) = nobody
fault_of (BadPermit f) = nobody
fault_of SeedShort = nobody
fault_of (BadScript k) = nobody
fault_of BadImage = nobody
fault_of Unequal = nobody
fault_of NoMemory = nobody

-- Whether all calls of an object went well.

abbrev pub files_well : Fault → Bool
files_well nobody = true
files_well of_files = false
files_well of_source = true
files_well of_sink = true
files_well of_world = true

abbrev pub source_well : Fault → Bool
source_well nobody = true
source_well of_files = true
source_well of_source = false
source_well of_sink = true
source_well of_world = true

abbrev pub sink_well : Fault → Bool
sink_well nobody = true
sink_well of_files = true
sink_well of_source = true
sink_well of_sink = false
sink_well of_world = true

abbrev pub world_well : Fault → Bool
world_well nobody = true
world_well of_files = true
world_well of_source = true
world_well of_sink = true
world_well of_world = false
