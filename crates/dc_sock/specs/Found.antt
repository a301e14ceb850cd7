-- What a source gives.
use Rattle.std.specs.Prelude.{ℕ, ◌≤◌, List, [], ◌∷◌, take}
use Rattle.dc_model.specs.Event.{Event as ModelEvent}
use Rattle.dc_engine.specs.View.{kind_of}
use Rattle.dc_engine.specs.declared.events.Kind.{Kind as CodeKind}
use Rattle.dc_sock.specs.declared.found.Found.{Found}
use Rattle.dc_sock.specs.declared.found.Step.{Step}
use Rattle.dc_sock.specs.declared.found.Step.TheVariants.{Nothing, Event, Last}

-- Its bytes stand among so many.
abbrev pub Fits : ℕ → Step → Type 0
Fits room Nothing = Unit {0}
Fits room (Event found) = found.len ≤ room
Fits room (Last found) = found.len ≤ room

-- No address and no bytes.
abbrev pub plain_found : CodeKind → Found
plain_found kind = record { kind = kind; addr = 0 ∷ 0 ∷ 0 ∷ 0 ∷ []; port = 0; len = 0 }

-- The event that it is at a moment, with a number and the buffer of its bytes.
abbrev pub event_found : (now id : ℕ) → Found → List ℕ → ModelEvent
event_found now id found buffer =
    record { now = now; kind = kind_of found.kind; id = id; addr = found.addr; port = found.port; bytes = take found.len buffer }
