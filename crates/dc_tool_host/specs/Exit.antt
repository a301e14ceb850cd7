-- The exit status of a tool.
use Rattle.std.specs.Prelude.{ℕ}
use Rattle.dc_stub.specs.declared.status.ToolStatus.{ToolStatus}
use Rattle.dc_stub.specs.declared.status.ToolStatus.TheVariants.{Done, Usage}

-- 0 where all was written, 100 for words that aren't usable, and else 111.
abbrev pub exit_of : ToolStatus → ℕ
exit_of Done = 0
exit_of Usage = 100
exit_of status = 111
