-- The variables that the fields of `Env` hold.
use Rattle.std.specs.Prelude.{◌≤◌, map, string_bytes, vec_capacity}
use Rattle.dc_config.specs.Environment.{Environment, Setting}
use Rattle.dc_config.specs.declared.env.Setting.{Setting as Kept}
use Rattle.dc_config.specs.declared.env.Env.TheInside.{Inside}

-- A variable as its bytes.
abbrev pub setting_of : Kept → Setting
setting_of s = record { name = string_bytes s.name; value = string_bytes s.value }

abbrev pub settings_of : Inside → Environment
settings_of a = map setting_of a.settings.items

-- There is memory for 16.
abbrev pub HasRoom : Inside → Type 0
HasRoom a = 16 ≤ vec_capacity a.settings
