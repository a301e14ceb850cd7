use Rattle.std.specs.Prelude.{IsTrue}
use Rattle.dc_reply.proofs.tests.hundred_suffixes.Given as goal

abbrev pub invariant-loop-i : goal.invariant-loop-i
invariant-loop-i g l = IsTrue l.reply.begun
