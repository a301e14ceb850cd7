use Rattle.std.proofs.Common.{rules}
use Rattle.dc_puts.proofs.Sorting.{sorted_by_calls}
use Rattle.dc_puts.proofs.index.sort.Goals as goal

pub returns-clause-sorted : goal.returns-clause-sorted
returns-clause-sorted c = sorted_by_calls c.args.message.now _ c.sort_unstable_by.ensures.sorted (λ a r q k. search rules)
