-- The answers of a message, record by record.
use Rattle.std.specs.Prelude.{ℕ, Bool, ◌&&◌, if◌then◌else◌, List, [], ◌∷◌, take}
use Rattle.dc_model.specs.Name.{same}
use Rattle.dc_model.specs.Message.{Record, Message, is_in, kept_ttl}
use Rattle.dc_model.specs.Marks.{is_wanted, is_answer}
use Rattle.dc_model.specs.Reply.{Answer}
use Rattle.dc_machine.specs.Query.{Query, name_of, wanted_of}
use Rattle.dc_machine.specs.Turn.{answer_of, heard_answers}

-- Whether the client is told of a record.
abbrev pub is_told : Query → Record → Bool
is_told q r = is_in r && (is_answer r.section && (is_wanted (wanted_of q) r.kind && same r.owner (name_of q)))

-- What the client is told of a record.
abbrev pub told : Query → Record → List Answer
told q r = if is_told q r then answer_of q r.kind (kept_ttl r.ttl) r.body ∷ [] else []

-- What the first records of a message answer, so many.
unfoldable pub first_heard : ℕ → Query → Message → List Answer
first_heard n q m = heard_answers q (record m { records = take n m.records })
