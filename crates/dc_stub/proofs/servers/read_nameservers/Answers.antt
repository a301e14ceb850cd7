use Rattle.std.proofs.Common.{refl, sym, ◌∙◌, arith}
use Rattle.dc_lookup.specs.Servers.{nameserver_in}
use Rattle.dc_rules.proofs.Filling.{so_far_start, so_far_more}
use Rattle.dc_stub.proofs.Nameservers.{full, done, none, first_set}
use Rattle.dc_stub.proofs.servers.read_nameservers.Goals as goal

pub loop-line-init : goal.loop-line-init
loop-line-init c = so_far_start nameserver_in c.args.text.now _ _ refl c.new-lines.ensures

pub returns-then-filled-eq16 : goal.returns-then-filled-eq16
returns-then-filled-eq16 c = full c.args.text.now _ _ _ c.loop-line.invariant c.if-filled-eq16.true

pub loop-line-preserved-in-Some-nameserver_in : goal.loop-line-preserved-in-Some-nameserver_in
loop-line-preserved-in-Some-nameserver_in c =
    so_far_more nameserver_in c.args.text.now _ _ _ _ c.in-Some.line.now c.in-Some-nameserver_in.found c.loop-line.invariant c.in-Some.ensures (sym c.nameserver_in.ensures ∙ c.in-Some-nameserver_in.is) (omega (arith, c.loop-line.invariant.room))

pub returns-then-filled-eq0 : goal.returns-then-filled-eq0
returns-then-filled-eq0 c =
    first_set c.args.text.now c.loop-line.places c.loop-line.filled c.loop-line.lines c.loop-line.invariant c.if-filled-eq0.true
    ∙ none c.args.text.now _ _ _ c.loop-line.invariant c.in_default.ensures.0 c.if-filled-eq0.true

pub returns-else-filled-eq0 : goal.returns-else-filled-eq0
returns-else-filled-eq0 c = done c.args.text.now _ _ _ c.loop-line.invariant c.in_default.ensures.0 (grind (arith, c.if-filled-eq0.false))
