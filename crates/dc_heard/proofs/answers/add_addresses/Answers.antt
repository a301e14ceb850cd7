use Rattle.std.proofs.Common.{arith}
use Rattle.dc_frames.specs.View.{query_of}
use Rattle.dc_machine.specs.Query.{name_of}
use Rattle.dc_heard.proofs.Addresses.{adds_none, adds_all}
use Rattle.dc_heard.proofs.answers.add_addresses.Goals as goal

pub loop-i-init : goal.loop-i-init
loop-i-init c = record {
  below = c.requires.below;
  same = adds_none (query_of c.args.query.now) (name_of (query_of c.args.query.now)) c.args.message.now.records;
}

pub returns : goal.returns
returns c = adds_all (query_of c.args.query.now) (query_of c.loop-i.query) c.args.message.now c.loop-i.i (omega arith) c.loop-i.invariant.same
