use Rattle.dc_keep.proofs.LawLemmas.{first_size, last_size}
use Rattle.dc_keep.proofs.laws.runs_keep_the_size.Goals as goal

pub returns-clause-first : goal.returns-clause-first
returns-clause-first c = first_size

pub returns-clause-last : goal.returns-clause-last
returns-clause-last c = last_size
