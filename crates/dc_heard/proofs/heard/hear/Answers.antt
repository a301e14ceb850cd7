use Rattle.std.proofs.Common.{◌≡◌, ◌+◌, refl, sym, ◌∙◌, ap, arith, []}
use Rattle.dc_model.specs.Message.{message_of}
use Rattle.dc_model.specs.Line.{turns}
use Rattle.dc_model.specs.Puts.{all_put}
use Rattle.dc_desk.specs.View.{setting_at, at}
use Rattle.dc_machine.specs.Query.{Query, counted}
use Rattle.dc_machine.specs.Turn.{State, ends, dropped, message_row}
use Rattle.dc_heard.specs.Accepted.{accepted_of}
use Rattle.dc_heard.proofs.Taking.{took_leads, took_as}
use Rattle.dc_heard.proofs.Hearing.{heard_last, heard_on}
use Rattle.dc_heard.proofs.heard.hear.Goals as goal

pub returns-then-turns-ge100 : goal.returns-then-turns-ge100
unfolding all_put
returns-then-turns-ge100 g c =
    let s : State = at g.S.Store.cache c.args.query.now c.args.desk.now in
    let now : c.turns.result ≡ s.query.turns + 1 = c.turns.ensures ∙ ap (λ (q : Query). q.turns) c.count.ensures in
    took_leads _ _ _ (ends (counted s.query) [] (dropped turns)) _ _ _ _ _ _ _ _ [] []
    (heard_last (accepted_of c.args.answer) (setting_at c.args.desk.now c.args.moment) s (omega arith))
    (g.met.O.Effects.acted_none _) refl refl refl refl (record { acts = refl; puts = refl; query = c.count.ensures; next = refl })

pub returns : goal.returns
returns g c =
    let s : State = at g.S.Store.cache c.args.query.now c.args.desk.now in
    let now : c.turns.result ≡ s.query.turns + 1 = c.turns.ensures ∙ ap (λ (q : Query). q.turns) c.count.ensures in
    took_as _ _ _ (message_row (message_of c.args.answer.packet.now) (accepted_of c.args.answer)) _ _ _ _ _ _ _ _ _ _
    (heard_on (accepted_of c.args.answer) (setting_at c.args.desk.now c.args.moment) s (omega arith)
    ∙ ap (λ (q : Query). message_row (message_of c.args.answer.packet.now) (accepted_of c.args.answer) (setting_at c.args.desk.now c.args.moment) (record s { query = q })) (sym c.count.ensures))
    refl refl refl refl c.read.ensures
