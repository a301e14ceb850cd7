use Rattle.std.proofs.Common.{length, ap, subst, sym, arith}
use Rattle.dc_machine.specs.Kept.{Pairwise}
use Rattle.dc_connections.specs.Places.{AreApart}
use Rattle.dc_connections.specs.Entries.{connections_of}
use Rattle.dc_connections.proofs.connections.Connections.new.Goals as goal

pub invariant_of-result : goal.invariant_of-result
unfolding Pairwise
invariant_of-result c =
    let none = c.in_ok-with_capacity.ensures.items in
    record {
      apart = subst (λ es. AreApart (connections_of es)) (sym none) tt;
      all = omega (arith, ap length none, c.in_ok-streams.ensures.len);
      room = omega (arith, c.in_ok-with_capacity.ensures.exact);
      spare_room = c.in_ok-streams.ensures.room;
    }
