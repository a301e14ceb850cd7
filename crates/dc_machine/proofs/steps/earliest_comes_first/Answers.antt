use Rattle.dc_machine.proofs.Firsts.{earliest_is, earliest_none}
use Rattle.dc_machine.proofs.steps.earliest_comes_first.Goals as goal

pub returns-clause-first : goal.returns-clause-first
returns-clause-first c = earliest_is

pub returns-clause-none : goal.returns-clause-none
returns-clause-none c = earliest_none
