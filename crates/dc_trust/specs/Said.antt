-- What a client reads in a reply: nothing that nobody told.
use Rattle.std.specs.Prelude.{ℕ, ◌≡◌, List, Some}
use Rattle.dc_model.specs.Message.{class_in, answer, framed, Record, Message, message_of}
use Rattle.dc_model.specs.Event.{Action, reply, conn_reply, conn_close, udp, tcp, link_write, link_close, line}
use Rattle.dc_model.specs.Rules.{Zones}
use Rattle.dc_model.specs.Reply.{Answer}
use Rattle.dc_machine.specs.Machine.{first_message}
use Rattle.dc_machine.specs.Kept.{AllOf}
use Rattle.dc_trust.specs.Trust.{Telling, IsFounded}

-- A record that is read, as an answer.
abbrev pub answer_in : Record → Answer
answer_in r = record { owner = r.owner; kind = r.kind; ttl = r.ttl; body = r.body }

-- A record of a reply: an answer of class IN that is built in or was told.
pub record IsFoundedRecord (zones : Zones) (Heard : Telling → Type 0) (Calm : Type 0) (r : Record) : Type 0 where
  pub section : r.section ≡ answer
  pub class : r.class ≡ class_in
  pub founded : IsFounded zones Heard Calm (answer_in r)

-- Bytes that are a message, each of whose records is so.
pub record IsFoundedMessage (zones : Zones) (Heard : Telling → Type 0) (Calm : Type 0) (packet : List ℕ) : Type 0 where
  pub message : Message
  pub reads : message_of packet ≡ Some message
  pub records : AllOf (λ (r : Record). IsFoundedRecord zones Heard Calm r) message.records

-- Such a message in a stream, behind its length.
pub record IsFoundedStream (zones : Zones) (Heard : Telling → Type 0) (Calm : Type 0) (bytes : List ℕ) : Type 0 where
  pub framing : bytes ≡ framed (first_message bytes)
  pub first : IsFoundedMessage zones Heard Calm (first_message bytes)

-- An action that replies gives a client such a message.
unfoldable pub TellsTruth : Zones → (Telling → Type 0) → Type 0 → Action → Type 0
TellsTruth zones Heard Calm (reply addr port bytes) = IsFoundedMessage zones Heard Calm bytes
TellsTruth zones Heard Calm (conn_reply number bytes) = IsFoundedStream zones Heard Calm bytes
TellsTruth zones Heard Calm (conn_close number) = Unit {0}
TellsTruth zones Heard Calm (udp link port server query) = Unit {0}
TellsTruth zones Heard Calm (tcp link port server) = Unit {0}
TellsTruth zones Heard Calm (link_write link bytes) = Unit {0}
TellsTruth zones Heard Calm (link_close link) = Unit {0}
TellsTruth zones Heard Calm (line text) = Unit {0}
