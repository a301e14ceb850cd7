-- Rows that were read one after another.
use Rattle.std.specs.Prelude.{◌≡◌, ℕ, List, ◌++◌, map, Some}
use Rattle.dc_model.specs.Message as model
use Rattle.dc_packet.specs.Rows.{row_of}
use Rattle.dc_packet.specs.declared.record.Rr.{Rr}

-- These rows are those before, and then those of so many records of a section, which stand from a place up to another.
pub record IsFilled (p : List ℕ) (s : model.Section) (count at : ℕ) (before : List Rr) (after : ℕ) (rows : List Rr) : Type 0 where
  pub read : model.RecordsRead
  pub reads : model.records_at count p s at ≡ Some read
  pub ends : after ≡ read.after
  pub places : rows ≡ before ++ map row_of read.records

-- These rows are all those of a packet's message, which has the packet's flags.
pub record IsWhole (p : List ℕ) (rows : List Rr) : Type 0 where
  pub message : model.Message
  pub reads : model.message_of p ≡ Some message
  pub flags : message.flags ≡ model.u16_at p 2
  pub places : rows ≡ map row_of message.records
