-- What a table holds of a message.
use Rattle.std.specs.Prelude.{◌≡◌, ℕ, List, [], map, Some, unwrap_or}
use Rattle.dc_model.specs.Name.{Name, root}
use Rattle.dc_model.specs.Message as model
use Rattle.dc_packet.specs.declared.record.Section.{Section}
use Rattle.dc_packet.specs.declared.record.Section.TheVariants.{Answer, Authority, Additional}
use Rattle.dc_packet.specs.declared.record.Rr.{Rr}

-- The section, as the model has it.
abbrev pub named_section : Section → model.Section
named_section Answer = model.answer
named_section Authority = model.authority
named_section Additional = model.additional

-- The section, as the program has it.
abbrev pub section_of : model.Section → Section
section_of model.answer = Answer
section_of model.authority = Authority
section_of model.additional = Additional

-- A record by its places.
abbrev pub row_of : model.Record → Rr
row_of r = record { section = section_of r.section; owner = r.owner_at; kind = r.kind; class = r.class; ttl = r.ttl; at = r.at; len = r.len }

-- The response code of a message, and its records by their places.
pub record Rows : Type 0 where
  pub rcode : ℕ
  pub rows : List Rr

-- The rows of no message.
abbrev pub no_rows : Rows
no_rows = record { rcode = 0; rows = [] }

-- The rows of a message.
abbrev pub rows_of : model.Message → Rows
rows_of m = record { rcode = model.rcode m; rows = map row_of m.records }

-- These rows were read from a packet.
pub record AreRowsOf (p : List ℕ) (t : Rows) : Type 0 where
  pub message : model.Message
  pub reads : model.message_of p ≡ Some message
  pub rows : t ≡ rows_of message

-- The message that a packet is; where it is none, one that says nothing.
unfoldable pub message_in : List ℕ → model.Message
message_in p = unwrap_or (model.message_of p) (record { id = 0; flags = 0; question = record { name = root; kind = 0; class = 0 }; records = [] })

-- The owner of a record.
abbrev pub owner_of : model.Record → Name
owner_of r = r.owner

-- The data of a record.
abbrev pub data_of : model.Record → model.Body
data_of r = r.body
