use Rattle.dc_model.proofs.PutLemmas.{pairs_sorted, pairs_from, pairs_all}
use Rattle.dc_model.proofs.puts.pairs_stand_once.Goals as goal

pub returns-clause-order : goal.returns-clause-order
returns-clause-order c rs = pairs_sorted rs

pub returns-clause-from : goal.returns-clause-from
returns-clause-from c rs = pairs_from rs

pub returns-clause-all : goal.returns-clause-all
returns-clause-all c rs = pairs_all rs
