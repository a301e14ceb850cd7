-- The marks of a cache, and the blocks that are laid out by them.
use Rattle.std.specs.Prelude.{ℕ, ◌+◌, ◌-◌, List}
use Rattle.dc_model.specs.Cache.{Cache, hsize, total}
use Rattle.dc_model.specs.Layout.{Layout}

-- behind the newest entry
abbrev pub writer_of : Cache → ℕ
writer_of c = hsize c.size + total c.young

-- behind the old entries
abbrev pub unused_of : Cache → ℕ
unused_of c = hsize c.size + c.end

-- the oldest entry
abbrev pub oldest_of : Cache → ℕ
oldest_of c = unused_of c - total c.old

-- The block is a layout of the cache, with its marks.
abbrev pub IsImage : List ℕ → Cache → Type 0
IsImage b c = Layout b (writer_of c) (oldest_of c) (unused_of c) c
