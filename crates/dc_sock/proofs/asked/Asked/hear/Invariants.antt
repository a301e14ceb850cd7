use Rattle.std.proofs.Common.{◌≡◌, take, fold}
use Rattle.dc_sock.specs.Asked.{asked_after}
use Rattle.dc_sock.proofs.asked.Asked.hear.Given as goal

abbrev pub invariant-loop-byte : goal.invariant-loop-byte
invariant-loop-byte l = l.asked ≡ fold asked_after l.initial.asked (take l.byte-index l.bytes)
