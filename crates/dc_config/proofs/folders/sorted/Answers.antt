use Rattle.dc_config.proofs.Order.{sorted_is}
use Rattle.dc_config.proofs.folders.sorted.Goals as goal

pub returns : goal.returns
returns c = sorted_is c.args.names.items c.sort.new.self.items c.in_ok-sort.ensures.permutation c.in_ok-sort.ensures.sorted
