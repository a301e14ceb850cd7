-- Bytes that are taken behind those that are held.
use Rattle.std.proofs.Common.{◌≡◌, ℕ, ◌+◌, ◌-◌, ◌≤◌, List, ◌++◌, length, take, drop, refl, ap, ◌∙◌, arith}
use Rattle.std.specs.List.{copy_within}
use Rattle.std.proofs.Math.Seq.{take-add}
use Rattle.std.proofs.lemmas.Grind.{common_steps}
use Rattle.dc_event.specs.declared.answers.Taken.{Taken}
use Rattle.dc_event.specs.declared.answers.Taken.TheVariants as taken
use Rattle.dc_event.specs.Answers.{taken_by}
use Rattle.dc_script.specs.Lines.{count_of}

taken_is : (t : Taken) (bytes : List ℕ) → take (count_of t) bytes ≡ taken_by t bytes
taken_is (taken.Bytes n) bytes = refl
taken_is taken.Failed bytes = refl

pub length-taken : (t : Taken) (bytes : List ℕ) → count_of t ≤ length bytes → length (taken_by t bytes) ≡ count_of t
length-taken (taken.Bytes n) bytes h = grind (arith, common_steps)
length-taken taken.Failed bytes h = refl

whole_buffer : (new old : List ℕ) (len : ℕ) → length new ≡ length old → len ≡ length old → take len (new ++ drop (length new) old) ≡ new
whole_buffer new old len h k = grind (arith, common_steps)

pub filled : (new old : List ℕ) (len held : ℕ) (t : Taken) → length new ≡ length old → len ≡ length old → take held new ≡ take held old
    → take (held + count_of t - 0) (take len (new ++ drop (length new) old)) ≡ take held old ++ taken_by t (drop held new)
filled new old len held t h k front =
    let all : held + count_of t - 0 ≡ held + count_of t = omega arith in
    ap (take (held + count_of t - 0)) (whole_buffer new old len h k) ∙ ap (λ n. take n new) all ∙ take-add held (count_of t) new
    ∙ ap (λ l. l ++ take (count_of t) (drop held new)) front ∙ ap (λ l. take held old ++ l) (taken_is t (drop held new))

pub copied : (bytes : List ℕ) (start end : ℕ) → start ≤ end → end ≤ length bytes → take (end - start) (copy_within bytes start end 0) ≡ take (end - start) (drop start bytes)
copied bytes start end h k = grind (arith, common_steps)
