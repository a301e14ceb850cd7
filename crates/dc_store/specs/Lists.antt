-- Entries packed in a block: a list of lengths and expiries, and the bytes of keys and bodies in the same order.
use Rattle.std.specs.Prelude.{ℕ, ◌+◌, List, [], ◌∷◌, take, drop}
use Rattle.dc_store.specs.declared.plain.Record.{Record}
use Rattle.dc_model.specs.Cache.{Entry}

-- the entries
abbrev pub entries : List Record → List ℕ → List Entry
entries [] b = []
entries (r ∷ rs) b =
    record { key = take r.key_len b; body = take r.body_len (drop r.key_len b); expiry = r.expiry } ∷ entries rs (drop (r.key_len + r.body_len) b)

-- the bytes of the keys and bodies
abbrev pub payload : List Record → ℕ
payload [] = 0
payload (r ∷ rs) = r.key_len + r.body_len + payload rs

-- the sizes of the entries, added
abbrev pub sizes : List Record → ℕ
sizes [] = 0
sizes (r ∷ rs) = 20 + r.key_len + r.body_len + sizes rs
