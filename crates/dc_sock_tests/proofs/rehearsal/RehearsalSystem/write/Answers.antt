use Rattle.dc_sock_tests.proofs.rehearsal.RehearsalSystem.write.Goals as goal

pub returns-in-Err-clause-called : goal.returns-in-Err-clause-called
returns-in-Err-clause-called c = c.lose.ensures _ _
