use Rattle.std.proofs.Common.{◌∙◌, arith, subst}
use Rattle.dc_machine.specs.Query as machine
use Rattle.dc_machine.specs.Turn.{State, row, turn, at_begin}
use Rattle.dc_desk.specs.View.{setting_at, at}
use Rattle.dc_desk.specs.declared.moment.Moment.{Moment}
use Rattle.dc_resolve.specs.Turns.{TookTurned}
use Rattle.dc_resolve.proofs.TurnLemmas.{turned_more, turned_ends, first_good, begins_good}
use Rattle.dc_resolve.proofs.turn.start.Goals as goal

pub go-requires-clause-good : goal.go-requires-clause-good
unfolding row
go-requires-clause-good g c =
    let m : Moment = record { time = c.args.now; draws = c.args.draws } in
    first_good g.O.Effects.acted g.S.Store.cache at_begin m _ c.take.new.self c.args.desk.now _ _ _ _ (begins_good _ _ c.take.ensures) (c.in-Go.ensures m)

pub go-requires-clause-links : goal.go-requires-clause-links
go-requires-clause-links g c =
    let m : Moment = record { time = c.args.now; draws = c.args.draws } in
    omega (arith, (c.in-Go.ensures m).links, c.requires.links)

pub returns-in-Go-clause-turn : goal.returns-in-Go-clause-turn
unfolding row
returns-in-Go-clause-turn g c =
    let m : Moment = record { time = c.args.now; draws = c.args.draws } in
    subst (λ (x : machine.Query). let s : State = record { query = x; cache = g.S.Store.cache c.args.desk.now.store; links = c.args.desk.now.link } in
    TookTurned g.O.Effects.acted c.args.out.now c.go.new.out (turn (setting_at c.args.desk.now m) at_begin s) (at g.S.Store.cache c.go.new.query c.go.new.desk) c.go.new.desk.reply c.go.new.sender c.go.result) c.take.ensures
    (turned_more g.O.Effects.acted g.met.O.Effects.acted_both g.S.Store.cache at_begin m _ c.take.new.self c.args.desk.now _ _ _ _ _ _ _ _ _ (begins_good _ _ c.take.ensures) (c.in-Go.ensures m) c.go.ensures.turn)

pub returns-in-Go-clause-setting : goal.returns-in-Go-clause-setting
returns-in-Go-clause-setting g c =
    let m : Moment = record { time = c.args.now; draws = c.args.draws } in
    c.go.ensures.setting ∙ (c.in-Go.ensures m).setting

pub returns-in-Go-clause-counts : goal.returns-in-Go-clause-counts
returns-in-Go-clause-counts g c =
    let m : Moment = record { time = c.args.now; draws = c.args.draws } in
    c.go.ensures.counts ∙ (c.in-Go.ensures m).counts

pub returns-in-End-clause-turn : goal.returns-in-End-clause-turn
unfolding row
returns-in-End-clause-turn g c =
    let m : Moment = record { time = c.args.now; draws = c.args.draws } in
    subst (λ (x : machine.Query). let s : State = record { query = x; cache = g.S.Store.cache c.args.desk.now.store; links = c.args.desk.now.link } in
    TookTurned g.O.Effects.acted c.args.out.now c.begin.new.out (turn (setting_at c.args.desk.now m) at_begin s) (at g.S.Store.cache c.begin.new.query c.begin.new.desk) c.begin.new.desk.reply c.args.sender.now c.in-End.outcome) c.take.ensures
    (turned_ends g.O.Effects.acted g.S.Store.cache at_begin m _ c.take.new.self c.args.desk.now _ _ _ c.args.sender.now _ (c.in-End.ensures m) c.requires.idle)

pub returns-in-End-clause-setting : goal.returns-in-End-clause-setting
returns-in-End-clause-setting g c =
    let m : Moment = record { time = c.args.now; draws = c.args.draws } in
    (c.in-End.ensures m).setting

pub returns-in-End-clause-counts : goal.returns-in-End-clause-counts
returns-in-End-clause-counts g c =
    let m : Moment = record { time = c.args.now; draws = c.args.draws } in
    (c.in-End.ensures m).counts
