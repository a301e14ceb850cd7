-- What is put of the records of one pair.
use Rattle.std.specs.Prelude.{ℕ, if◌then◌else◌, List, []}
use Rattle.std.specs.List.{list_any}
use Rattle.dc_model.specs.Name.{Name}
use Rattle.dc_model.specs.Message.{Record}
use Rattle.dc_model.specs.Rules.{Rule}
use Rattle.dc_model.specs.Puts.{Put, put_if_short}
use Rattle.dc_puts.specs.Told.{counts_for, items_for, keeps_kind}

-- The put of those that are looked at, where it is kept.
abbrev pub puts_kept : Rule → ℕ → ℕ → Name → List Record → List Put
puts_kept rule ttl kind owner rs = if keeps_kind rule kind (list_any (counts_for kind) rs) then put_if_short owner kind (items_for kind rs) ttl else []
