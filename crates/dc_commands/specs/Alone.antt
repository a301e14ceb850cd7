-- What a command leaves as it was.
use Rattle.dc_commands.specs.declared.command.Command.{Command}
use Rattle.dc_commands.specs.declared.command.Command.TheVariants.{Serve, Record, Keep, Shards, Replay, Simulate, Audit, Unknown}

-- For each object, that it is as it was.
pub record Same : Type 1 where
  pub files : Type 0
  pub source : Type 0
  pub sink : Type 0
  pub world : Type 0
  pub image_in : Type 0
  pub image_out : Type 0

-- No byte of an image is read or written but where the cache is kept.
abbrev pub Alone : Same → Command → Type 0
Alone same Serve = same.sink × same.image_in × same.image_out
Alone same Record = same.image_in × same.image_out
Alone same Keep = same.sink
Alone same Shards = same.sink × same.image_in × same.image_out
Alone same Replay = same.files × same.world × same.image_in × same.image_out
Alone same (Simulate seed events) = same.files × same.source × same.world × same.image_in × same.image_out
Alone same Audit = same.source × same.world × same.image_in × same.image_out
Alone same Unknown = same.files × same.source × same.sink × same.world × same.image_in × same.image_out
