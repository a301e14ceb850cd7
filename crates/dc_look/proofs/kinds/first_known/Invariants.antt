use Rattle.std.proofs.Common.{◌≡◌, ℕ, drop}
use Rattle.dc_model.specs.Event.{second}
use Rattle.dc_frames.specs.View.{query_of}
use Rattle.dc_machine.specs.Turn.{Setting, first_known}
use Rattle.dc_look.proofs.kinds.first_known.Given as goal

abbrev pub invariant-loop-kind : goal.invariant-loop-kind
invariant-loop-kind g l = record {
  key : l.key ≡ l.initial.key;
  left : (x : Setting) (links : ℕ) → second x.now ≡ l.now →
      first_known x (record { query = query_of l.query; cache = g.S.Store.cache l.store; links = links }) (drop l.kind-index l.kinds)
      ≡ first_known x (record { query = query_of l.query; cache = g.S.Store.cache l.store; links = links }) l.kinds;
}
