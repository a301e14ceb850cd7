-- What the types of a script's head stand for, and what an answer of `read_head` says.
use Rattle.std.specs.Prelude.{◌≡◌, ℕ, ◌+◌, ◌<◌, Bool, true, false, List, [], ◌++◌, length, Result, Ok, Err}
use Rattle.std.specs.declared.option.Option.{Option}
use Rattle.std.specs.declared.option.Option.TheVariants.{Some}
use Rattle.dc_script.specs.Script.{pieces_of}
use Rattle.dc_script.specs.Heading.{HeadLine, version_line, size_line, forward_line, allow_line, root_line, zone_line, seed_line, begin_line}
use Rattle.dc_script.specs.Head as head
use Rattle.dc_script.specs.Head.{Head, HeadStep, refused, going, begun, behind, other, head_from, head_of, MayFollow, most_ahead}
use Rattle.dc_script.specs.declared.heading.Heading.{Heading}
use Rattle.dc_script.specs.declared.heading.Heading.TheVariants.{Version, Size, Forward, Allow, Root, Zone, Seed, Begin}
use Rattle.dc_script.specs.declared.setup.Stage.{Stage}
use Rattle.dc_script.specs.declared.setup.Stage.TheVariants as stage
use Rattle.dc_script.specs.declared.setup.Step.{Step}
use Rattle.dc_script.specs.declared.setup.Step.TheVariants as step
use Rattle.dc_script.specs.declared.setup.Setup.{Setup}
use Rattle.dc_script.specs.declared.head.Script.{Script}
use Rattle.dc_script.specs.declared.head.ScriptError.{ScriptError}
use Rattle.dc_script.specs.declared.head.ScriptError.TheVariants.{Bad, ReadFault, NoMemory}
use Rattle.dc_script.specs.declared.head.HeadNext.{HeadNext}
use Rattle.dc_script.specs.declared.head.HeadNext.TheVariants as next

-- What a line says.
abbrev pub heading_in : Heading → HeadLine
heading_in (Version version) = version_line version
heading_in (Size size) = size_line size
heading_in (Forward forward) = forward_line forward
heading_in (Allow text) = allow_line text.now
heading_in (Root places) = root_line places
heading_in (Zone name places) = zone_line name places
heading_in (Seed seed) = seed_line seed
heading_in Begin = begin_line

-- The lines that may come next.
abbrev pub stage_of : Stage → head.Stage
stage_of stage.Version = head.at_version
stage_of stage.Size = head.at_size
stage_of stage.Forward = head.at_forward
stage_of stage.Allows = head.at_allows
stage_of stage.Zones = head.at_zones
stage_of stage.Begin = head.at_begin

-- The head that is kept.
abbrev pub head_in : Setup → Head
head_in s = record { version = s.version; config = s.config; seed = s.seed }

-- What a line made of the head that was kept.
abbrev pub Steps : Step → Setup → HeadStep → Type 0
Steps step.Refused new defined = defined ≡ refused
Steps step.Going new defined = defined ≡ going (stage_of new.stage) (head_in new)
Steps step.Begun new defined = defined ≡ begun (head_in new)

-- The head that a script begins with.
abbrev pub head_at : Script → Head
head_at s = record { version = s.version; config = s.config; seed = s.seed }

-- Between two states some bytes were taken of a source, and the next line of a head was read off what is read. Whatever follows, the
-- head goes on with the rest, or is whole; or, with what may follow, that line is bad; or it isn't complete.
abbrev pub Reads : HeadNext → (old : Setup) (text more : List ℕ) (new : Setup) (rest : List ℕ) → (left : Option (List ℕ)) → Type 0
Reads next.Going old text more new rest left =
    ((tail : List ℕ) (k : ℕ) → head_from k (going (stage_of old.stage) (head_in old)) (pieces_of (text ++ (more ++ tail)))
    ≡ head_from (k + 1) (going (stage_of new.stage) (head_in new)) (pieces_of (rest ++ tail)))
    × ((tail : List ℕ) → length (pieces_of (text ++ (more ++ tail))) ≡ 1 + length (pieces_of (rest ++ tail)))
    × (most_ahead (stage_of new.stage) (head_in new) < most_ahead (stage_of old.stage) (head_in old))
Reads next.Begun old text more new rest left =
    (tail : List ℕ) (k : ℕ) → head_from k (going (stage_of old.stage) (head_in old)) (pieces_of (text ++ (more ++ tail))) ≡ behind (head_in new) (k + 1) (pieces_of (rest ++ tail))
Reads next.Bad old text more new rest left =
    (tail : List ℕ) → MayFollow left tail → (k : ℕ) → head_from k (going (stage_of old.stage) (head_in old)) (pieces_of (text ++ (more ++ tail))) ≡ other (k + 1)
Reads next.Failed old text more new rest left =
    ((k : ℕ) → head_from k (going (stage_of old.stage) (head_in old)) (pieces_of (text ++ more)) ≡ other (k + 1)) × (length (pieces_of (text ++ more)) ≡ 1)

-- Whether the source went well.

abbrev pub well_next : HeadNext → Bool
well_next next.Going = true
well_next next.Begun = true
well_next next.Bad = true
well_next next.Failed = false

abbrev pub well_read : {T : Type 0} → Result T ScriptError → Bool
well_read (Ok value) = true
well_read (Err (Bad k)) = true
well_read (Err ReadFault) = false
well_read (Err NoMemory) = true

-- What an answer to all lines of a head says of the bytes that were taken.
abbrev pub LinesStand : Result ℕ ScriptError → (new : Setup) → (rest bytes : List ℕ) → (left : Option (List ℕ)) → Type 0
LinesStand (Ok lines) new rest bytes left = (tail : List ℕ) → head_of (bytes ++ tail) ≡ behind (head_in new) lines (pieces_of (rest ++ tail))
LinesStand (Err (Bad k)) new rest bytes left = (tail : List ℕ) → MayFollow left tail → head_of (bytes ++ tail) ≡ other k
LinesStand (Err ReadFault) new rest bytes left = head_of bytes ≡ other (length (pieces_of bytes))
LinesStand (Err NoMemory) new rest bytes left = bytes ≡ []

-- What an answer says of the bytes that were taken. Whatever follows them, this is the head, and the bytes of `rest` stand behind it; or,
-- with what may follow, this line is the first bad one; or the source failed in a line that isn't complete, behind lines of a head.
abbrev pub HeadStands : Result Script ScriptError → (bytes : List ℕ) → (left : Option (List ℕ)) → Type 0
HeadStands (Ok s) bytes left = (tail : List ℕ) → head_of (bytes ++ tail) ≡ behind (head_at s) s.lines (pieces_of (s.rest.rest ++ tail))
HeadStands (Err (Bad k)) bytes left = (tail : List ℕ) → MayFollow left tail → head_of (bytes ++ tail) ≡ other k
HeadStands (Err ReadFault) bytes left = head_of bytes ≡ other (length (pieces_of bytes))
HeadStands (Err NoMemory) bytes left = bytes ≡ []

-- What an answer says of all bytes that a source had left, where they are told: this is the head, and what is held and what is left now
-- stand behind it; or this is the first bad line.
abbrev pub HeadIs : Result Script ScriptError → (text : List ℕ) → (left : Option (List ℕ)) → Type 0
HeadIs (Ok s) text left = (rest : List ℕ) × (left ≡ Some rest) × (head_of text ≡ behind (head_at s) s.lines (pieces_of (s.rest.rest ++ rest)))
HeadIs (Err (Bad k)) text left = head_of text ≡ other k
HeadIs (Err ReadFault) text left = Unit {0}
HeadIs (Err NoMemory) text left = Unit {0}
