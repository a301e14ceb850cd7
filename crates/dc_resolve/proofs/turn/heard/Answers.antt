use Rattle.std.proofs.Common.{◌≡◌, subst}
use Rattle.dc_model.specs.Transmission.{Accepted}
use Rattle.dc_machine.specs.Turn.{row, turn, at_heard}
use Rattle.dc_machine.specs.Good.{IsGood}
use Rattle.dc_frames.specs.View.{query_of}
use Rattle.dc_desk.specs.View.{setting_at, at}
use Rattle.dc_resolve.specs.Turns.{TookTurned}
use Rattle.dc_resolve.proofs.EventLemmas.{turned_at, accepted_is}
use Rattle.dc_resolve.proofs.TurnLemmas.{turned_more, turned_ends, first_good}
use Rattle.dc_resolve.proofs.turn.heard.Goals as goal

pub go-requires-clause-good : goal.go-requires-clause-good
unfolding row
go-requires-clause-good g c =
    let p : Accepted = record { packet = c.packet.result.now; server = c.server.result; place = c.place.result } in
    let k : IsGood (at_heard p) (query_of c.args.query.now) = record { least = c.requires.frame; most = c.hosts_fit.ensures.most; turns = c.requires.turns; short = c.hosts_fit.ensures.short } in
    first_good g.O.Effects.acted g.S.Store.cache (at_heard p) c.moment_of-moment.result _ c.args.query.now c.args.desk.now _ _ _ _ k c.in-Go.ensures

pub returns-in-Go-clause-turn : goal.returns-in-Go-clause-turn
unfolding row
returns-in-Go-clause-turn g c a e =
    let p : Accepted = record { packet = c.packet.result.now; server = c.server.result; place = c.place.result } in
    let same : p ≡ a = accepted_is _ a _ _ _ e c.packet.ensures.packet c.server.ensures c.place.ensures.place in
    let k : IsGood (at_heard p) (query_of c.args.query.now) = record { least = c.requires.frame; most = c.hosts_fit.ensures.most; turns = c.requires.turns; short = c.hosts_fit.ensures.short } in
    turned_at g.O.Effects.acted c.args.desk.now c.moment_of-moment.result _ _ _ _ (at_heard a) _ _ _ _ _ c.moment_of-moment.ensures.time c.moment_of-moment.ensures.draws
    (subst (λ x. TookTurned g.O.Effects.acted c.args.out.now c.go.new.out (turn (setting_at c.args.desk.now c.moment_of-moment.result) (at_heard x) (at g.S.Store.cache c.args.query.now c.args.desk.now))
    (at g.S.Store.cache c.go.new.query c.go.new.desk) c.go.new.desk.reply c.go.new.sender c.go.result) same
    (turned_more g.O.Effects.acted g.met.O.Effects.acted_both g.S.Store.cache (at_heard p) c.moment_of-moment.result _ c.args.query.now c.args.desk.now _ _ _ _ _ _ _ _ _ k c.in-Go.ensures c.go.ensures.turn))

pub returns-in-End-clause-turn : goal.returns-in-End-clause-turn
unfolding row
returns-in-End-clause-turn g c a e =
    let p : Accepted = record { packet = c.packet.result.now; server = c.server.result; place = c.place.result } in
    let same : p ≡ a = accepted_is _ a _ _ _ e c.packet.ensures.packet c.server.ensures c.place.ensures.place in
    turned_at g.O.Effects.acted c.args.desk.now c.moment_of-moment.result _ _ _ _ (at_heard a) _ _ _ _ _ c.moment_of-moment.ensures.time c.moment_of-moment.ensures.draws
    (subst (λ x. TookTurned g.O.Effects.acted c.args.out.now c.hear.new.out (turn (setting_at c.args.desk.now c.moment_of-moment.result) (at_heard x) (at g.S.Store.cache c.args.query.now c.args.desk.now))
    (at g.S.Store.cache c.hear.new.query c.hear.new.desk) c.hear.new.desk.reply c.args.sender.now c.in-End.outcome) same
    (turned_ends g.O.Effects.acted g.S.Store.cache (at_heard p) c.moment_of-moment.result _ c.args.query.now c.args.desk.now _ _ _ c.args.sender.now _ c.in-End.ensures c.requires.idle))
