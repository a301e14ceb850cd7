use Rattle.dc_sock_tests.proofs.rehearsal.RehearsalSystem.send_to.Goals as goal

pub returns-in-Err : goal.returns-in-Err
returns-in-Err c = c.lose.ensures _ _
