-- The status of a refused configuration.
use Rattle.dc_config.specs.declared.error.ConfigError.{ConfigError}
use Rattle.dc_config.specs.declared.error.ConfigError.TheVariants as config
use Rattle.dc_status.specs.declared.status.Status.{Status}
use Rattle.dc_status.specs.declared.status.Status.TheVariants.{BadVariable, NoRoot, BadZone, BadPermit, FilesFault, NoMemory}

abbrev pub refused_by : ConfigError → Status
refused_by (config.BadVariable v) = BadVariable v
refused_by (config.BadZone f) = BadZone f
refused_by config.NoRoot = NoRoot
refused_by (config.BadPermit f) = BadPermit f
refused_by config.FilesFault = FilesFault
refused_by config.NoMemory = NoMemory
