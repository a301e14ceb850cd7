use Rattle.std.proofs.Common.{◌≡◌, drop}
use Rattle.dc_model.specs.Reply.{suffix_of}
use Rattle.dc_reply.proofs.suffixes.Suffixes.find.Given as goal

abbrev pub invariant-loop-entry : goal.invariant-loop-entry
invariant-loop-entry l = suffix_of l.name (drop l.entry-index l.entry-items) ≡ suffix_of l.name l.entry-items
