use Rattle.dc_connections.proofs.EntryLemmas.{kept_found, kept_passed}
use Rattle.dc_connections.proofs.connections.find_number.Goals as goal

pub returns-then-entries-i-clause-found : goal.returns-then-entries-i-clause-found
returns-then-entries-i-clause-found c =
    kept_found c.args.entries.now c.loop-i.i c.args.number c.index-entries-i.result c.loop-i-test.true c.index-entries-i.is c.if-entries-i.true c.loop-i.invariant

pub loop-i-preserved : goal.loop-i-preserved
loop-i-preserved c =
    kept_passed c.args.entries.now c.loop-i.i c.args.number c.index-entries-i.result c.loop-i-test.true c.index-entries-i.is c.if-entries-i.false c.loop-i.invariant
