-- Further events of one moment, which a recorded world gives at once.
use Rattle.std.specs.Prelude.{◌≡◌, ◌<◌, ◌+◌, ◌⊎◌, ℕ, Bool, true, false, ◌||◌, ◌==◌, if◌then◌else◌, List, [], ◌∷◌, ◌++◌, length, take}
use Rattle.std.specs.declared.option.Option.{Option}
use Rattle.std.specs.declared.option.Option.TheVariants.{None, Some}
use Rattle.dc_model.specs.Event.{Event, IsEvent}
use Rattle.dc_event.specs.declared.answers.Heard.{Heard as Answer}
use Rattle.dc_event.specs.declared.answers.Heard.TheVariants as answer
use Rattle.dc_script.specs.Script.{Words, pieces_of, most_line}
use Rattle.dc_script.specs.Lines.{Held, IsOneLine}
use Rattle.dc_script.specs.Read.{line_event}
use Rattle.dc_script.specs.World.{Recorded}

-- The event of the first whole line of a text, where that line is one's. The pieces are those between line feeds.
abbrev pub first_event : Words → Option Event
first_event [] = None
first_event (piece ∷ []) = None
first_event (line ∷ piece ∷ pieces) = line_event line

abbrev pub next_event : List ℕ → Option Event
next_event text = first_event (pieces_of text)

-- An event of this moment.
abbrev pub at_moment : Option ℕ → Option Event → Option Event
at_moment None e = None
at_moment (Some now) None = None
at_moment (Some now) (Some e) = if e.now == now then Some e else None

-- The event that is handed out further, where there is one: no read or write has failed, and the next line that was taken whole is that of
-- an event whose moment is that of the event handed out last.
abbrev pub further : {S K : Type 0} → Recorded S K → Option Event
further w = if w.read_failed || w.write_failed then None else at_moment w.moment (next_event w.unread)

-- The moment of the event that was handed out last, behind an answer.
abbrev pub moment_by : Answer → Event → Option ℕ → Option ℕ
moment_by answer.Event e before = Some e.now
moment_by answer.End e before = before
moment_by answer.Failed e before = before
moment_by (answer.Bad line) e before = before

-- A call that asks for a further event hands that one out, or there is none and nothing changes.
abbrev pub HandsFurther : {S K : Type 0} → Bool → (before after : Event) → Recorded S K → Recorded S K → Type 0
HandsFurther true before after old new = (further old ≡ Some after) × (new ≡ record old { unread = new.unread; lines = new.lines })
HandsFurther false before after old new = (further old ≡ None) × ((after ≡ before) × (new ≡ old))

-- No whole line of at most 131200 bytes stands in front of these bytes.
abbrev pub HasNoLine : List ℕ → Type 0
HasNoLine bytes = IsOneLine bytes ⊎ ((most_line < length bytes) × IsOneLine (take (most_line + 1) bytes))

-- Whether a whole line stands in front of these bytes. It is taken off, and else nothing changes.
abbrev pub Holds : Bool → List ℕ → Held → Type 0
Holds true bytes new = (bytes ≡ new.line ++ (10 ∷ new.rest)) × (IsOneLine new.line × (length new.line < most_line + 1))
Holds false bytes new = (new.rest ≡ bytes) × HasNoLine bytes

-- What a reader gives of a text at a moment.
abbrev pub Gives : Bool → (now : ℕ) → (text : List ℕ) → (before after : Event) → Type 0
Gives true now text before after = (at_moment (Some now) (next_event text) ≡ Some after) × IsEvent after
Gives false now text before after = (at_moment (Some now) (next_event text) ≡ None) × (after ≡ before)

-- The event that was handed out, where there was one.
abbrev pub event_if : Bool → Event → List Event
event_if true e = e ∷ []
event_if false e = []
