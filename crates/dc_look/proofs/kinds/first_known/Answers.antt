use Rattle.std.proofs.Common.{arith, ◌∙◌}
use Rattle.dc_frames.specs.View.{query_of}
use Rattle.dc_look.specs.Found.{entry_value}
use Rattle.dc_look.proofs.KindLemmas.{first-some, first-none, first-end}
use Rattle.dc_look.proofs.kinds.first_known.Goals as goal

pub returns-in-Some-clause-known : goal.returns-in-Some-clause-known
returns-in-Some-clause-known g c x links e =
    first-some x (record { query = query_of c.args.query.now; cache = g.S.Store.cache c.args.store.now; links = links }) c.args.kinds.now c.loop-kind.kind-index (entry_value c.in-Some.entry) _
    (omega arith) (c.in-Some.ensures.known x links e) (c.loop-kind.invariant.left x links e)

pub loop-kind-preserved : goal.loop-kind-preserved
loop-kind-preserved g c = record {
  key = c.known_at.ensures.key ∙ c.loop-kind.invariant.key;
  left = λ x links e. first-none x (record { query = query_of c.args.query.now; cache = g.S.Store.cache c.args.store.now; links = links }) c.args.kinds.now c.loop-kind.kind-index _
      (omega arith) (c.in_default.ensures.known x links e) (c.loop-kind.invariant.left x links e);
}

pub returns-clause-known : goal.returns-clause-known
returns-clause-known g c x links e =
    first-end x (record { query = query_of c.args.query.now; cache = g.S.Store.cache c.args.store.now; links = links }) c.args.kinds.now c.loop-kind.kind-index _
    (omega arith) (c.loop-kind.invariant.left x links e)
