-- The lines that a queue of the code holds.
use Rattle.std.specs.Prelude.{List, map, Box}
use Rattle.std.specs.List.{AllByRecursion}
use Rattle.std.specs.declared.alloc.Global.{Global}
use Rattle.dc_lookup.specs.Filter as model
use Rattle.dc_filter.specs.declared.slot.Slot.{Slot}
use Rattle.dc_filter.specs.View.{slot_of, IsFit, IsIdle}

-- The lines of a queue.
abbrev pub slots_of : List (Box Slot Global) → List model.Slot
slots_of queue = map (λ (s : Box Slot Global). slot_of s.value) queue

-- Each of them fits.
abbrev pub AreFit : List (Box Slot Global) → Type 0
AreFit queue = AllByRecursion (λ (s : Box Slot Global). IsFit s.value) queue

-- Slots that no line stands in.
abbrev pub AreIdle : List (Box Slot Global) → Type 0
AreIdle slots = AllByRecursion (λ (s : Box Slot Global). IsIdle s.value) slots
