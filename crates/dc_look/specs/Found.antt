-- What the cache knows, as the rules of a turn see it.
use Rattle.dc_store.specs.Lent.{hit_value}
use Rattle.dc_machine.specs.Turn.{Known}
use Rattle.dc_look.specs.declared.kinds.Entry.{Entry}

-- A cached entry and its type.
abbrev pub entry_value : Entry → Known
entry_value e = record { kind = e.kind; hit = hit_value e.hit }
