use Rattle.std.proofs.Common.{◌≡◌, drop, map, find}
use Rattle.dc_config.specs.Environment.{is_called}
use Rattle.dc_config.specs.Settings.{setting_of}
use Rattle.dc_config.proofs.env.Env.get.Given as goal

abbrev pub invariant-loop-setting : goal.invariant-loop-setting
invariant-loop-setting l = find (is_called l.name) (map setting_of l.setting-items) ≡ find (is_called l.name) (map setting_of (drop l.setting-index l.setting-items))
