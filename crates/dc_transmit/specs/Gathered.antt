-- Bytes that are gathered of a stream, and the packet in them.
use Rattle.std.specs.Prelude.{ℕ, List, [], ◌++◌, take, drop}
use Rattle.dc_model.specs.Message.{u16_at}

-- Bytes, and where the packet in them begins.
pub record Gathered : Type 0 where
  pub bytes : List ℕ
  pub start : ℕ

-- None.
abbrev pub no_bytes : Gathered
no_bytes = record { bytes = []; start = 0 }

-- More bytes behind those that are there, 65537 at most.
unfoldable pub appended : List ℕ → List ℕ → List ℕ
appended bytes more = take 65537 (bytes ++ more)

-- The packet.
abbrev pub packet_of : Gathered → List ℕ
packet_of g = drop g.start g.bytes

-- The message behind its length.
abbrev pub message_of : List ℕ → List ℕ
message_of bytes = take (u16_at bytes 0) (drop 2 bytes)
