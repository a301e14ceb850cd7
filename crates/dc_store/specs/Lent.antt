-- What is lent by a store, as a value.
use Rattle.dc_model.specs.Cache as cache
use Rattle.dc_store.specs.declared.Hit.{Hit}

-- a hit, as what a look-up in the ideal cache gives
abbrev pub hit_value : Hit → cache.Hit
hit_value h = record { body = h.body.now; ttl = h.ttl }
