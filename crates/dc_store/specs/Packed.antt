-- The cache that a plain store is.
use Rattle.std.specs.Prelude.{◌≡◌, ◌+◌, ◌*◌, ◌<◌, ◌≤◌, take, drop, vec_capacity, vec_len}
use Rattle.dc_store.specs.Lists.{entries, sizes}
use Rattle.dc_store.specs.declared.plain.PlainStore.TheInside.{Inside}
use Rattle.dc_model.specs.Cache.{Cache, capacity, hsize}

-- the cache: the first entries are young
abbrev pub cache_of : Inside → Cache
cache_of a = record {
  size = a.size;
  young = take a.young (entries a.records.items a.bytes.items);
  old = drop a.young (entries a.records.items a.bytes.items);
  end = a.end;
  motion = a.motion;
}

-- what holds of the fields
pub record IsPacked (a : Inside) : Type 0 where
  pub least : 100 ≤ a.size
  pub most : a.size ≤ 1000000000
  pub heads : a.heads ≡ hsize a.size
  pub block : vec_len a.bytes ≡ capacity a.size
  pub young_in : a.young ≤ vec_len a.records
  pub young_size : a.young_size ≡ sizes (take a.young a.records.items)
  pub old_size : a.old_size ≡ sizes (drop a.young a.records.items)
  pub fits : a.young_size + a.old_size ≤ a.end
  pub end : a.end ≤ capacity a.size
  pub none_old : a.young ≡ vec_len a.records → a.end ≡ capacity a.size
  pub room : vec_len a.bytes < 20 * (vec_capacity a.records + 1)
