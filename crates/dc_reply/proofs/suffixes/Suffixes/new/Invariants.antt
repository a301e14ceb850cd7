use Rattle.std.proofs.Common.{◌≡◌, length}
use Rattle.dc_reply.proofs.suffixes.Suffixes.new.Given as goal

abbrev pub invariant-loop : goal.invariant-loop
invariant-loop l = length l.entries.items ≡ l.counter
