use Rattle.std.proofs.Common.{◌≡◌, ◌++◌, drop, map}
use Rattle.std.specs.List.{flat_map}
use Rattle.dc_record.specs.HeadLines.{allow_line}
use Rattle.dc_record.proofs.head.push_allows.Given as goal

abbrev pub invariant-loop-place : goal.invariant-loop-place
invariant-loop-place l = l.text.items ++ flat_map allow_line (map (λ p. p.items) (drop l.place-index l.place-items)) ≡ l.fn.text.items ++ flat_map allow_line l.permit
