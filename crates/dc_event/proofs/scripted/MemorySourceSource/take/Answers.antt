use Rattle.std.proofs.Common.{◌≡◌, ℕ, ◌+◌, List, take, drop, refl, sym}
use Rattle.std.proofs.Math.Seq.{take-add}
use Rattle.std.proofs.lemmas.List.{drop-drop, take-append-drop}
use Rattle.dc_event.specs.Bytes.{Moved}
use Rattle.dc_event.proofs.scripted.MemorySourceSource.take.Goals as goal

-- bytes that were copied from a place on were taken there
moved : (bytes buffer : List ℕ) (at n : ℕ) → take n buffer ≡ take n (drop at bytes)
    → Moved record { taken = take at bytes; left = drop at bytes } (take n buffer) record { taken = take (at + n) bytes; left = drop (at + n) bytes }
moved bytes buffer at n e = record { behind = rw (take-add at n bytes, e) refl; ahead = rw (e, ← drop-drop n at bytes) (sym (take-append-drop n (drop at bytes))) }

pub returns-clause-took : goal.returns-clause-took
returns-clause-took c = rw (← c.self.view_is) (record {
  moved = moved c.self.inside.bytes.items c.give-count.new.into c.self.inside.at c.give-count.result (rw c.deref-2.ensures.value at c.give-count.ensures.bytes);
  same_piece = refl;
  same_fails = refl;
})
