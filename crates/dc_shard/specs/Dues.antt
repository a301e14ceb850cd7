-- The core that is due, as code holds it.
use Rattle.std.specs.Prelude.{option_map}
use Rattle.std.specs.declared.option.Option.{Option}
use Rattle.dc_split.specs.Split.{Due}
use Rattle.dc_shard.specs.declared.due.Due.{Due as CodeDue}

abbrev pub due_of : CodeDue → Due
due_of d = record { core = d.core; moment = d.moment }

abbrev pub due_as : Option CodeDue → Option Due
due_as d = option_map due_of d
