-- A look-up in a list of entries.
use Rattle.std.specs.Prelude.{ℕ, List, take, filter, find, bytes_eq, Option}
use Rattle.dc_model.specs.Cache.{Entry, in_bucket}
use Rattle.dc_store.specs.declared.plain.Found.{Found}

-- an entry that is lent
abbrev pub entry_of : Found → Entry
entry_of f = record { key = f.key.now; body = f.body.now; expiry = f.expiry }

-- the first of the first n entries of the key's bucket that has the key
abbrev pub look_up : ℕ → ℕ → List ℕ → List Entry → Option Entry
look_up n size key es = find (λ e. bytes_eq e.key key) (take n (filter (in_bucket size key) es))
