-- The causes and types of this crate, as the meaning names them.
use Rattle.dc_model.specs.Line as model
use Rattle.dc_lines.specs.declared.causes.DropCause.{DropCause}
use Rattle.dc_lines.specs.declared.causes.DropCause.TheVariants.{Axfr, Malformed, Turns, Aliases, Foreign, TooLong, NoPort, Displaced, Closed}
use Rattle.dc_lines.specs.declared.causes.CloseCause.{CloseCause}
use Rattle.dc_lines.specs.declared.causes.CloseCause.TheVariants as close
use Rattle.dc_lines.specs.declared.causes.HostKind.{HostKind}
use Rattle.dc_lines.specs.declared.causes.HostKind.TheVariants.{Ns, Cname, Ptr}

-- Why a query is dropped.
abbrev pub drop_cause_of : DropCause → model.DropCause
drop_cause_of Axfr = model.axfr
drop_cause_of Malformed = model.malformed
drop_cause_of Turns = model.turns
drop_cause_of Aliases = model.aliases
drop_cause_of Foreign = model.foreign
drop_cause_of TooLong = model.too_long
drop_cause_of NoPort = model.no_port
drop_cause_of Displaced = model.displaced
drop_cause_of Closed = model.closed

-- Why a connection is closed.
abbrev pub close_cause_of : CloseCause → model.CloseCause
close_cause_of close.Displaced = model.close_displaced
close_cause_of close.Closed = model.close_closed
close_cause_of close.Timeout = model.close_timeout
close_cause_of close.Proto = model.close_proto
close_cause_of close.Drop = model.close_drop
close_cause_of close.Long = model.close_long

-- A type with a word of its own.
abbrev pub host_kind_of : HostKind → model.HostKind
host_kind_of Ns = model.host_ns
host_kind_of Cname = model.host_cname
host_kind_of Ptr = model.host_ptr
