use Rattle.std.proofs.Common.{◌≡◌, ℕ, ◌-◌, ◌+◌, ◌≤◌, ◌<◌, length, drop}
use Rattle.dc_model.specs.Cache.{hsize}
use Rattle.dc_store.specs.Found.{look_up}
use Rattle.dc_store.specs.Lists.{entries, payload}
use Rattle.dc_store.proofs.plain.find_in.Given as goal

abbrev pub invariant-loop-record : goal.invariant-loop-record
invariant-loop-record l = record {
  seen : l.seen < 101;
  block : l.at + payload (drop l.record-index l.records) ≤ length l.bytes;
  same : (size : ℕ) → l.heads ≡ hsize size → look_up (101 - l.seen) size l.key (entries (drop l.record-index l.records) (drop l.at l.bytes)) ≡ look_up 101 size l.key (entries l.records l.bytes);
}
