-- Which calls went well, by how a tool ended.
use Rattle.std.specs.Prelude.{ℕ, Bool, true, false, Result, Ok, Err}
use Rattle.dc_event.specs.Causes.{counted}
use Rattle.dc_stub.specs.declared.servers.StubError.{StubError}
use Rattle.dc_stub.specs.declared.servers.StubError.TheVariants as servers
use Rattle.dc_stub.specs.declared.status.ToolStatus.{ToolStatus}
use Rattle.dc_stub.specs.declared.status.ToolStatus.TheVariants.{FilesFault, WriteFault, WorldFault, ReadFault}

-- Whether the files went well where servers were read.

abbrev pub well_error : StubError → Bool
well_error servers.FilesFault = false
well_error servers.NoMemory = true

abbrev pub well_servers : {T : Type 0} → Result T StubError → Bool
well_servers (Ok servers) = true
well_servers (Err why) = well_error why

-- Whether the files went well.
abbrev pub files_well : ToolStatus → Bool
files_well FilesFault = false
files_well status = true

-- Whether the input did.
abbrev pub input_well : ToolStatus → Bool
input_well ReadFault = false
input_well status = true

-- Whether the output did.
abbrev pub output_well : ToolStatus → Bool
output_well WriteFault = false
output_well status = true

-- The world's count of faults: one more where it failed.
abbrev pub count_world : ToolStatus → ℕ → ℕ
count_world WorldFault before = counted before
count_world status before = before
