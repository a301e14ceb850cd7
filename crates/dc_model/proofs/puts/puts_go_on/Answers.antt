use Rattle.dc_model.proofs.PutLemmas.{puts_on, lines_on, puts_given_on}
use Rattle.dc_model.proofs.puts.puts_go_on.Goals as goal

pub returns-clause-put : goal.returns-clause-put
returns-clause-put c ps qs second cache = puts_on ps qs second cache

pub returns-clause-lines : goal.returns-clause-lines
returns-clause-lines c gs hs = lines_on gs hs

pub returns-clause-puts : goal.returns-clause-puts
returns-clause-puts c gs hs = puts_given_on gs hs
