use Rattle.std.proofs.Common.{arith}
use Rattle.dc_machine.specs.Turn.{row, at_failed}
use Rattle.dc_machine.specs.Good.{IsGood}
use Rattle.dc_frames.specs.View.{query_of}
use Rattle.dc_resolve.proofs.EventLemmas.{turned_at}
use Rattle.dc_resolve.proofs.TurnLemmas.{turned_more, turned_ends, first_good}
use Rattle.dc_resolve.proofs.turn.failed.Goals as goal

pub go-requires-clause-good : goal.go-requires-clause-good
unfolding row
go-requires-clause-good g c =
    let k : IsGood at_failed (query_of c.args.query.now) = record { least = c.requires.frame; most = c.hosts_fit.ensures.most; turns = c.requires.turns; short = c.hosts_fit.ensures.short } in
    first_good g.O.Effects.acted g.S.Store.cache at_failed c.moment_of-moment.result _ c.args.query.now c.args.desk.now _ _ _ _ k (c.in-Go.ensures c.moment_of-moment.result)

pub go-requires-clause-links : goal.go-requires-clause-links
go-requires-clause-links g c = omega (arith, (c.in-Go.ensures c.moment_of-moment.result).links, c.requires.links)

pub returns-in-Go-clause-turn : goal.returns-in-Go-clause-turn
unfolding row
returns-in-Go-clause-turn g c =
    let k : IsGood at_failed (query_of c.args.query.now) = record { least = c.requires.frame; most = c.hosts_fit.ensures.most; turns = c.requires.turns; short = c.hosts_fit.ensures.short } in
    turned_at g.O.Effects.acted c.args.desk.now c.moment_of-moment.result _ _ _ _ _ _ _ _ _ _ c.moment_of-moment.ensures.time c.moment_of-moment.ensures.draws
    (turned_more g.O.Effects.acted g.met.O.Effects.acted_both g.S.Store.cache at_failed c.moment_of-moment.result _ c.args.query.now c.args.desk.now _ _ _ _ _ _ _ _ _ k (c.in-Go.ensures c.moment_of-moment.result) c.go.ensures.turn)

pub returns-in-End-clause-turn : goal.returns-in-End-clause-turn
unfolding row
returns-in-End-clause-turn g c =
    turned_at g.O.Effects.acted c.args.desk.now c.moment_of-moment.result _ _ _ _ _ _ _ _ _ _ c.moment_of-moment.ensures.time c.moment_of-moment.ensures.draws
    (turned_ends g.O.Effects.acted g.S.Store.cache at_failed c.moment_of-moment.result _ c.args.query.now c.args.desk.now _ _ _ c.args.sender.now _ (c.in-End.ensures c.moment_of-moment.result) c.requires.idle)

pub returns-in-End-clause-counts : goal.returns-in-End-clause-counts
returns-in-End-clause-counts g c = (c.in-End.ensures c.moment_of-moment.result).counts
