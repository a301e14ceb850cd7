-- What a client has asked for on its connection: each request is two bytes of length, high byte first, and so many more.
use Rattle.std.specs.Prelude.{ℕ, ◌+◌, ◌-◌, ◌*◌, ◌==◌, ◌&&◌, Bool, true, false, if◌then◌else◌, List, fold, length}
use Rattle.dc_event.specs.Causes.{counted}
use Rattle.dc_sock.specs.declared.asked.Frame.{Frame}
use Rattle.dc_sock.specs.declared.asked.Frame.TheVariants.{Start, High, Body}
use Rattle.dc_sock.specs.declared.asked.Asked.{Asked}

-- How far a request has come of which so many bytes are left.
abbrev pub left_of : ℕ → Frame
left_of left = if left == 0 then Start else Body left

-- How far the next request has come with one more byte.
abbrev pub frame_after : Frame → ℕ → Frame
frame_after Start byte = High byte
frame_after (High high) byte = left_of (high * 256 + byte)
frame_after (Body left) byte = left_of (left - 1)

-- The request before is whole.
abbrev pub is_whole : Frame → Bool
is_whole Start = true
is_whole (High high) = false
is_whole (Body left) = false

-- Nothing was asked.
abbrev pub none_asked : Asked
none_asked = record { frame = Start; owed = 0 }

-- With one more byte there is one more request where that is whole.
abbrev pub asked_after : Asked → ℕ → Asked
asked_after asked byte =
    record { frame = frame_after asked.frame byte; owed = if is_whole (frame_after asked.frame byte) then counted asked.owed else asked.owed }

abbrev pub asked_all : Asked → List ℕ → Asked
asked_all asked bytes = fold asked_after asked bytes

-- One request was answered.
abbrev pub one_answered : Asked → Asked
one_answered asked = record asked { owed = asked.owed - 1 }

-- Every whole request was answered, and no byte of an answer waits.
abbrev pub is_settled : Asked → (waiting : List ℕ) → Bool
is_settled asked waiting = (asked.owed == 0) && (length waiting == 0)
