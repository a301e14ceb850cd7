use Rattle.std.proofs.Common.{refl, []}
use Rattle.dc_model.specs.Message.{message_of}
use Rattle.dc_model.specs.Line.{malformed}
use Rattle.dc_model.specs.Puts.{all_put}
use Rattle.dc_desk.specs.View.{setting_at, at}
use Rattle.dc_machine.specs.Turn.{State, ends, dropped}
use Rattle.dc_heard.specs.Accepted.{accepted_of}
use Rattle.dc_heard.proofs.Taking.{took_leads}
use Rattle.dc_heard.proofs.Hearing.{message_none}
use Rattle.dc_heard.proofs.heard.read.Goals as goal

pub returns-in-Err : goal.returns-in-Err
unfolding all_put
returns-in-Err g c =
    let s : State = at g.S.Store.cache c.args.query.now c.args.desk.now in
    took_leads _ _ _ (ends s.query [] (dropped malformed)) _ _ _ _ _ _ _ _ [] []
    (message_none (message_of c.args.answer.packet.now) (accepted_of c.args.answer) (setting_at c.args.desk.now c.args.moment) s c.in-Err.ensures.read)
    (g.met.O.Effects.acted_none _) refl refl refl refl (record { acts = refl; puts = refl; query = refl; next = refl })
