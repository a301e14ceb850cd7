-- Lines of events as they are written.
use Rattle.std.specs.Prelude.{ℕ, List, [], ◌∷◌, ◌++◌, flat_map, codes, decimal}
use Rattle.dc_model.specs.Event.{Event, Kind}
use Rattle.dc_script.specs.Script.{Words}
use Rattle.dc_script.specs.EventText.{kind_text, event_text}

-- Words with a space before each.
abbrev pub spaced : Words → List ℕ
spaced ws = flat_map (λ w. 32 ∷ w) ws

-- The first three words of a line.
abbrev pub begun_text : ℕ → Kind → List ℕ
begun_text now kind = codes "at " ++ decimal now ++ codes " " ++ kind_text kind

-- The line of an event, with its line feed.
abbrev pub event_line : Event → List ℕ
event_line e = event_text e ++ 10 ∷ []
