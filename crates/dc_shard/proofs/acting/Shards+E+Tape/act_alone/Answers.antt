use Rattle.std.proofs.Common.{◌≡◌, ◌+◌, ◌≤◌, length, refl, ◌∙◌, ap, sym, false, arith}
use Rattle.dc_shard.proofs.AloneLemmas.{may_here, alone_here}
use Rattle.dc_shard.proofs.acting.Shards+E+Tape.act_alone.Goals as goal

pub step_out-requires : goal.step_out-requires
step_out-requires g c =
    may_here g.E.Engine.machine g.E.Engine.state c.args.self.now.bays.items c.args.core c.index_mut-bay.result.now _ c.requires.within c.index_mut-bay.ensures.value c.requires.steps

pub returns : goal.returns
returns g c =
    let bays = c.args.self.now.bays in
    let whole : bays.len ≡ length bays.items = omega (arith, bays.ok.0) in
    let x = c.index_mut-bay.result.now in (
      record { core = c.step_out.new.engine; inbox = x.inbox; draws = x.draws; given = false; out = x.out },
      (
        refl,
        alone_here g.E.Engine.machine g.E.Engine.state g.W.Effects.acted bays.items c.args.core x _ _ c.len-cores.result c.args.out.now c.step_out.new.out c.requires.within c.index_mut-bay.ensures.value
            (c.len-cores.ensures ∙ whole) (record { moved = c.step_out.ensures.state; free = refl; out = refl; acts = c.step_out.ensures.acted }),
      ),
    )
