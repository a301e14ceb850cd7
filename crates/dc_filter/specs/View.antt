-- What a line of the code stands for.
use Rattle.std.specs.Prelude.{◌≡◌, ℕ, ◌-◌, List, [], ◌++◌, length, take, Option, Some, None}
use Rattle.dc_model.specs.Name.{reverse_name}
use Rattle.dc_model.specs.Transmission.{Attempt}
use Rattle.dc_lookup.specs.Text.{line_end}
use Rattle.dc_lookup.specs.Filter as model
use Rattle.dc_lookup.specs.Filter.{Progressed, fresh, asked, done}
use Rattle.dc_filter.specs.declared.slot.Slot.{Slot}
use Rattle.dc_filter.specs.declared.slot.Stage.{Stage}
use Rattle.dc_filter.specs.declared.slot.Stage.TheVariants.{Fresh, Asked, Done}

-- A text without the line feed behind it.
abbrev pub before_end : List ℕ → List ℕ
before_end text = take (length text - 1) text

-- A line whose attempt is this one.
abbrev pub asked_by : Option Attempt → Progressed
asked_by None = done []
asked_by (Some a) = asked a

-- How far a line has got, by its stage, its attempt and its text with a line feed.
abbrev pub at_of : Stage → Option Attempt → List ℕ → Progressed
at_of (Fresh addr) attempt text = fresh (reverse_name addr)
at_of Asked attempt text = asked_by attempt
at_of Done attempt text = done (before_end text)

-- The line.
abbrev pub slot_of : Slot → model.Slot
slot_of s = record { line = s.line.items; at = at_of s.stage s.sender.attempt s.text.items }

-- Only a line that is asked for has an attempt, and the text of one that is done ends with a line feed.
abbrev pub IsFitAt : Stage → Option Attempt → List ℕ → Type 0
IsFitAt (Fresh addr) attempt text = attempt ≡ None
IsFitAt Asked attempt text = (a : Attempt) × (attempt ≡ Some a)
IsFitAt Done attempt text = (attempt ≡ None) × (text ≡ before_end text ++ line_end)

abbrev pub IsFit : Slot → Type 0
IsFit s = IsFitAt s.stage s.sender.attempt s.text.items

-- A slot that no line stands in.
abbrev pub IsIdle : Slot → Type 0
IsIdle s = s.sender.attempt ≡ None
