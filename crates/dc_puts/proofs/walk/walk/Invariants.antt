use Rattle.std.proofs.Common.{◌≡◌, length}
use Rattle.dc_model.specs.Puts.{all_put, puts_given}
use Rattle.dc_puts.specs.Order.{records_in, given_from}
use Rattle.dc_puts.specs.Told.{told}
use Rattle.dc_puts.specs.Sorted.{AreSorted}
use Rattle.dc_puts.proofs.walk.walk.Given as goal

abbrev pub invariant-loop-rest : goal.invariant-loop-rest
invariant-loop-rest g l = record {
  sorted : AreSorted l.message l.rest;
  cache : all_put (puts_given (given_from l.zones l.control l.server (records_in l.message l.rest))) l.now (g.S.Store.cache l.store) ≡ all_put (puts_given (given_from l.zones l.control l.server (records_in l.message l.index))) l.now (g.S.Store.cache l.fn.store);
  acts : (after : _) → g.O.Effects.acted l.out (told (given_from l.zones l.control l.server (records_in l.message l.rest))) after → g.O.Effects.acted l.fn.out (told (given_from l.zones l.control l.server (records_in l.message l.index))) after;
}

abbrev pub decreases-loop-rest : goal.decreases-loop-rest
decreases-loop-rest g l = length l.rest
