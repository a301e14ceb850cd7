-- What is written behind what stands.
use Rattle.std.specs.Prelude.{ℕ, ◌+◌, List, [], length}
use Rattle.dc_model.specs.Message.{Body, bytes, host, mx, soa}
use Rattle.dc_model.specs.Reply.{Suffix, Written, behind_bytes}

-- Nothing is written, and nothing can be pointed to.
abbrev pub nothing : Written
nothing = record { bytes = []; table = [] }

-- What stands behind the header, and more behind it, at the place where it is written.
abbrev pub with_more : Written → (ℕ → List Suffix → Written) → Written
with_more w more = behind_bytes w.bytes (more (12 + length w.bytes) w.table)

-- How many bytes of data are written as they are.
abbrev pub plain_length : Body → ℕ
plain_length (bytes bs) = length bs
plain_length (host n) = 0
plain_length (mx preference n) = 0
plain_length (soa n m numbers) = length numbers
