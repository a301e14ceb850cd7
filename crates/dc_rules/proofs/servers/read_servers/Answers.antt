use Rattle.std.proofs.Common.{refl, sym, ◌∙◌, arith}
use Rattle.dc_model.specs.Rules.{address_in}
use Rattle.dc_rules.proofs.Filling.{so_far_start, so_far_more, so_far_full, so_far_done, read_is}
use Rattle.dc_rules.proofs.servers.read_servers.Goals as goal

pub loop-line-init : goal.loop-line-init
loop-line-init c = so_far_start address_in c.args.text.now _ _ refl c.new-lines.ensures

pub returns-then-filled-eq16 : goal.returns-then-filled-eq16
returns-then-filled-eq16 c = so_far_full address_in refl c.args.text.now _ _ _ c.loop-line.invariant c.if-filled-eq16.true ∙ read_is c.args.text.now

pub loop-line-preserved-in-Some-address_in : goal.loop-line-preserved-in-Some-address_in
loop-line-preserved-in-Some-address_in c =
    so_far_more address_in c.args.text.now _ _ _ _ c.in-Some.line.now c.in-Some-address_in.found c.loop-line.invariant c.in-Some.ensures (sym c.address_in.ensures ∙ c.in-Some-address_in.is) (omega (arith, c.loop-line.invariant.room))

pub returns : goal.returns
returns c = so_far_done address_in refl c.args.text.now _ _ _ c.loop-line.invariant c.in_default.ensures.0 ∙ read_is c.args.text.now
