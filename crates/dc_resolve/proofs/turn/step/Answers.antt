use Rattle.dc_machine.specs.Turn.{row, at_look, at_down, at_servfail, at_nxdomain, at_alias}
use Rattle.dc_resolve.proofs.TurnLemmas.{took_step}
use Rattle.dc_resolve.proofs.turn.step.Goals as goal

pub returns-in-Look : goal.returns-in-Look
unfolding row
returns-in-Look g c = rw (c.in-Look.is) (took_step g.O.Effects.acted g.S.Store.cache at_look c.args.moment _ _ _ _ _ _ c.args.sender.now _ c.look.ensures c.requires.idle)

pub returns-in-Down : goal.returns-in-Down
unfolding row
returns-in-Down g c = rw (c.in-Down.is) (took_step g.O.Effects.acted g.S.Store.cache at_down c.args.moment _ _ _ _ _ _ c.args.sender.now _ (c.down.ensures c.args.moment) c.requires.idle)

pub returns-in-Servfail : goal.returns-in-Servfail
unfolding row
returns-in-Servfail g c = rw (c.in-Servfail.is) (took_step g.O.Effects.acted g.S.Store.cache at_servfail c.args.moment _ _ _ _ _ _ c.args.sender.now _ (c.servfail.ensures c.args.moment) c.requires.idle)

pub returns-in-NxDomain : goal.returns-in-NxDomain
unfolding row
returns-in-NxDomain g c = rw (c.in-NxDomain.is) (took_step g.O.Effects.acted g.S.Store.cache at_nxdomain c.args.moment _ _ _ _ _ _ c.args.sender.now _ (c.nxdomain.ensures c.args.moment) c.requires.idle)

pub returns-in-Alias : goal.returns-in-Alias
unfolding row
returns-in-Alias g c = rw (c.in-Alias.is) (took_step g.O.Effects.acted g.S.Store.cache (at_alias c.in-Alias.target c.in-Alias.ttl) c.args.moment _ _ _ _ _ _ c.args.sender.now _ (c.alias.ensures c.args.moment) c.requires.idle)
