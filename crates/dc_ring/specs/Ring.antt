-- The cache that an arena store is.
use Rattle.dc_model.specs.Cache.{Cache}
use Rattle.dc_model.specs.Layout.{Layout, image}
use Rattle.dc_ring.specs.declared.ArenaStore.TheInside.{Inside}

-- the cache, read from the block
abbrev pub cache_of : Inside → Cache
cache_of a = image a.chains a.writer a.oldest a.unused a.motion

-- The block and its marks are a layout.
abbrev pub IsRing : Inside → Type 0
IsRing a = Layout a.chains a.writer a.oldest a.unused (cache_of a)
