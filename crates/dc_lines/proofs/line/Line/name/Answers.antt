use Rattle.std.proofs.Common.{◌≡◌, ◌≢◌, [], ◌∙◌, sym, refl, true}
use Rattle.dc_lines.proofs.NameLemmas.{name_root, name_labels}
use Rattle.dc_lines.proofs.line.Line.name.Goals as goal

pub returns-then-is_root-clause-bytes : goal.returns-then-is_root-clause-bytes
returns-then-is_root-clause-bytes c =
    name_root _ _ _ _ (sym c.suffix-rest.ensures.value ∙ c.is_root.ensures.0 c.if-is_root.true) c.put_byte.ensures.bytes c.put_byte-then-is_root.ensures.bytes

pub returns-clause-bytes : goal.returns-clause-bytes
returns-clause-bytes c =
    let some : c.args.name.now ≢ [] = λ h. let t : c.is_root.result ≡ true = c.is_root.ensures.1 (c.suffix-rest.ensures.value ∙ h) in cc in
    let none : c.loop-above.rest ≡ [] = c.parent.ensures.root.0 (rw c.in_default.is refl) in
    name_labels _ _ _ _ _ some none c.put_byte.ensures.bytes (c.loop-above.invariant.0 ∙ rw c.suffix-rest.ensures.value refl)
