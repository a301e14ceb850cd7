use Rattle.std.proofs.Common.{arith}
use Rattle.dc_model.specs.Transmission.{After, Occasion}
use Rattle.dc_transmit.specs.Attempts.{occasion}
use Rattle.dc_transmit.specs.Standing.{followed}
use Rattle.dc_machine.specs.Turn.{Setting, State}
use Rattle.dc_desk.specs.View.{setting_of, at}
use Rattle.dc_resolve.specs.Turns.{turned_after, with_links}
use Rattle.dc_resolve.proofs.EventLemmas.{turned_behind, waits_on, hears_on, fails_on, gives_up, packet_kept, failed_kept}
use Rattle.dc_resolve.proofs.turn.event.Goals as goal

pub heard-requires-clause-links : goal.heard-requires-clause-links
heard-requires-clause-links g c =
    let o : Occasion = occasion c.args.inbox.now.now c.args.draws.now c.args.desk.now.link in
    omega (arith, c.in-Packet.ensures.links, packet_kept c.args.sender.now.attempt c.args.inbox.now o c.requires.asking c.in-Packet.ensures.answer, c.requires.links)

pub failed-requires-clause-links : goal.failed-requires-clause-links
failed-requires-clause-links g c =
    let o : Occasion = occasion c.args.inbox.now.now c.args.draws.now c.args.desk.now.link in
    omega (arith, c.in-Failed.ensures.links, failed_kept c.args.sender.now.attempt c.args.inbox.now o c.requires.asking c.in-Failed.ensures.answer, c.requires.links)

pub returns-in-Waiting-clause-turn : goal.returns-in-Waiting-clause-turn
unfolding turned_after
returns-in-Waiting-clause-turn g c =
    let o : Occasion = occasion c.args.inbox.now.now c.args.draws.now c.args.desk.now.link in
    let f : After = followed c.args.sender.now.attempt c.args.inbox.now o in
    let h : Setting = setting_of c.args.desk.now.zones c.args.desk.now.forward c.args.desk.now.counts c.args.inbox.now.now c.args.draws.now in
    let s : State = with_links f.links (at g.S.Store.cache c.args.query.now c.args.desk.now) in
    rw (c.in-Waiting.ensures.links) (turned_behind g.O.Effects.acted g.met.O.Effects.acted_both c.args.out.now c.on_event.new.out c.on_event.new.out f.actions _ s _ _ _ c.in-Waiting.ensures.acts
    (waits_on g.O.Effects.acted g.met.O.Effects.acted_none c.on_event.new.out f.progress h s c.args.desk.now.reply c.on_event.new.self c.in-Waiting.ensures.answer c.in-Waiting.ensures.standing))

pub returns-in-Packet-clause-turn : goal.returns-in-Packet-clause-turn
unfolding turned_after
returns-in-Packet-clause-turn g c =
    let o : Occasion = occasion c.args.inbox.now.now c.args.draws.now c.args.desk.now.link in
    let f : After = followed c.args.sender.now.attempt c.args.inbox.now o in
    let h : Setting = setting_of c.args.desk.now.zones c.args.desk.now.forward c.args.desk.now.counts c.args.inbox.now.now c.args.draws.now in
    let s : State = with_links f.links (at g.S.Store.cache c.args.query.now c.args.desk.now) in
    turned_behind g.O.Effects.acted g.met.O.Effects.acted_both c.args.out.now c.on_event.new.out c.heard.new.out f.actions _ _ _ _ _ c.in-Packet.ensures.acts
    (hears_on g.O.Effects.acted c.on_event.new.out c.heard.new.out f.progress h s _ _ c.on_event.new.self _ _ c.in-Packet.ensures.answer c.in-Packet.ensures.standing (rw (← c.in-Packet.ensures.links) c.heard.ensures.turn))

pub returns-in-Failed-clause-turn : goal.returns-in-Failed-clause-turn
unfolding turned_after
returns-in-Failed-clause-turn g c =
    let o : Occasion = occasion c.args.inbox.now.now c.args.draws.now c.args.desk.now.link in
    let f : After = followed c.args.sender.now.attempt c.args.inbox.now o in
    let h : Setting = setting_of c.args.desk.now.zones c.args.desk.now.forward c.args.desk.now.counts c.args.inbox.now.now c.args.draws.now in
    let s : State = with_links f.links (at g.S.Store.cache c.args.query.now c.args.desk.now) in
    turned_behind g.O.Effects.acted g.met.O.Effects.acted_both c.args.out.now c.on_event.new.out c.failed.new.out f.actions _ _ _ _ _ c.in-Failed.ensures.acts
    (fails_on g.O.Effects.acted c.on_event.new.out c.failed.new.out f.progress h s _ _ _ _ c.in-Failed.ensures.answer (rw (← c.in-Failed.ensures.links) c.failed.ensures.turn))

pub returns-in-NoPort-clause-turn : goal.returns-in-NoPort-clause-turn
unfolding turned_after
returns-in-NoPort-clause-turn g c =
    let o : Occasion = occasion c.args.inbox.now.now c.args.draws.now c.args.desk.now.link in
    let f : After = followed c.args.sender.now.attempt c.args.inbox.now o in
    let h : Setting = setting_of c.args.desk.now.zones c.args.desk.now.forward c.args.desk.now.counts c.args.inbox.now.now c.args.draws.now in
    let s : State = with_links f.links (at g.S.Store.cache c.args.query.now c.args.desk.now) in
    rw (c.in-NoPort.ensures.links) (turned_behind g.O.Effects.acted g.met.O.Effects.acted_both c.args.out.now c.on_event.new.out c.on_event.new.out f.actions _ s _ _ _ c.in-NoPort.ensures.acts
    (gives_up g.O.Effects.acted g.met.O.Effects.acted_none c.on_event.new.out f.progress h s c.args.desk.now.reply c.on_event.new.self c.in-NoPort.ensures.answer c.in-NoPort.ensures.standing))
