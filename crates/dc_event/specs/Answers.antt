-- What the answers of `next`, `take` and `put` say.
use Rattle.std.specs.Prelude.{◌≡◌, ℕ, ◌≤◌, Bool, true, false, List, [], ◌∷◌, length, take}
use Rattle.dc_model.specs.Event.{Event, IsEvent}
use Rattle.dc_event.specs.declared.answers.Heard.{Heard}
use Rattle.dc_event.specs.declared.answers.Heard.TheVariants as heard
use Rattle.dc_event.specs.declared.answers.Taken.{Taken}
use Rattle.dc_event.specs.declared.answers.Taken.TheVariants as taken
use Rattle.dc_event.specs.declared.answers.Put.{Put}
use Rattle.dc_event.specs.declared.answers.Put.TheVariants as put
use Rattle.dc_event.specs.Causes.{counted}
use Rattle.dc_event.specs.Told.{GainedFront}

-- What a call of `next` that left this in the inbox gained.
abbrev pub heard_by : Heard → Event → List Event
heard_by heard.Event e = e ∷ []
heard_by heard.End e = []
heard_by heard.Failed e = []
heard_by (heard.Bad line) e = []

-- The count of faults behind a call, by its answer: one more where it failed, and else what it was.

abbrev pub count_heard : Heard → ℕ → ℕ
count_heard heard.Event before = before
count_heard heard.End before = before
count_heard heard.Failed before = counted before
count_heard (heard.Bad line) before = before

abbrev pub count_taken : Taken → ℕ → ℕ
count_taken (taken.Bytes n) before = before
count_taken taken.Failed before = counted before

abbrev pub count_put : Put → ℕ → ℕ
count_put (put.Taken n) before = before
count_put put.Failed before = counted before

-- Whether the call went well.

abbrev pub well_heard : Heard → Bool
well_heard heard.Event = true
well_heard heard.End = true
well_heard heard.Failed = false
well_heard (heard.Bad line) = true

abbrev pub well_taken : Taken → Bool
well_taken (taken.Bytes n) = true
well_taken taken.Failed = false

abbrev pub well_put : Put → Bool
well_put (put.Taken n) = true
well_put put.Failed = false

-- One more event was gathered.
abbrev pub IfMore : Bool → Type 0 → Type 0
IfMore true P = P
IfMore false P = Unit {0}

-- What stands where a call of `next` that left this in the inbox answered so: an event is within its bounds, the end comes where the
-- events are used up, and a bad line where that line is outside the grammar.
abbrev pub Warrants : Heard → Event → (used_up : Type 0) → (broken : ℕ → Type 0) → Type 0
Warrants heard.Event e used_up broken = IsEvent e
Warrants heard.End e used_up broken = used_up
Warrants heard.Failed e used_up broken = Unit {0}
Warrants (heard.Bad line) e used_up broken = broken line

-- The bytes that a call of `take` gave.
abbrev pub taken_by : Taken → List ℕ → List ℕ
taken_by (taken.Bytes n) buffer = take n buffer
taken_by taken.Failed buffer = []

-- How many there may be.
abbrev pub TakesAtMost : Taken → ℕ → Type 0
TakesAtMost (taken.Bytes n) room = n ≤ room
TakesAtMost taken.Failed room = Unit {0}

-- The bytes that a call of `put` took.
abbrev pub put_by : Put → List ℕ → List ℕ
put_by (put.Taken n) bytes = take n bytes
put_by put.Failed bytes = []

-- It took at least one, and no more than there were.
abbrev pub PutsSome : Put → ℕ → Type 0
PutsSome (put.Taken n) count = (1 ≤ n) × (n ≤ count)
PutsSome put.Failed count = Unit {0}

-- This holds where the call failed.

abbrev pub IfTakeFailed : Taken → Type 0 → Type 0
IfTakeFailed (taken.Bytes n) P = Unit {0}
IfTakeFailed taken.Failed P = P

abbrev pub IfPutFailed : Put → Type 0 → Type 0
IfPutFailed (put.Taken n) P = Unit {0}
IfPutFailed put.Failed P = P

-- What a call that puts a whole text did: it put all of it and answers its length, or failed behind a front of it.
abbrev pub PutsWhole : {K : Type 0} → (K → List ℕ → K → Type 0) → Put → K → List ℕ → K → Type 0
PutsWhole gained (put.Taken n) old text new = (n ≡ length text) × gained old text new
PutsWhole gained put.Failed old text new = GainedFront gained old text new
