use Rattle.dc_sock_tests.proofs.rehearsal.RehearsalSystem.read.Goals as goal

pub returns-in-Err-clause-called : goal.returns-in-Err-clause-called
returns-in-Err-clause-called c = c.lose.ensures _ _
