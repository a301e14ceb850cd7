use Rattle.std.proofs.Common.{rules}
use Rattle.dc_recording.proofs.ReadyLemmas.{readies_variable, readies_unread, readies_read}
use Rattle.dc_recording.proofs.ready.ready_of.Goals as goal

pub returns-in-Some-clause-readies : goal.returns-in-Some-clause-readies
returns-in-Some-clause-readies g c =
    readies_variable g.S.Source.took g.S.Source.left _ _ c.args.source.now c.in-Some.variable (g.met.S.Source.took_none _) (search rules)

pub returns-in-Err-clause-readies : goal.returns-in-Err-clause-readies
returns-in-Err-clause-readies g c =
    readies_unread g.S.Source.took g.S.Source.left _ _ _ _ c.in-Err.status (search rules) c.in-Err.ensures.set_up

pub returns-clause-readies : goal.returns-clause-readies
returns-clause-readies g c =
    readies_read g.S.Source.took g.S.Source.left _ _ _ _ c.in-Ok.basis _ (search rules) c.in-Ok.ensures.set_up c.ready_with.ensures.ready
