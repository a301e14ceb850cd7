use Rattle.std.proofs.Common.{refl}
use Rattle.dc_lookup.specs.Words.{shown_by}
use Rattle.dc_stub.proofs.word.tell.Goals as goal

pub returns-in-Taken-clause-told : goal.returns-in-Taken-clause-told
returns-in-Taken-clause-told g c =
    let m = c.in-Ok.ensures.read in
    let put = c.in-Taken.ensures.whole m.message m.reads in
    (shown_by g.T.Shows.tool c.args.name.now c.args.kind c.args.packet.now m.message, put, (m.message, m.reads, refl))
