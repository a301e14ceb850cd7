-- Texts that are written one after another.
use Rattle.std.proofs.Common.{◌≡◌, ℕ, ◌+◌, ◌-◌, ◌^◌, min, Bool, true, false, List, [], ◌++◌, length, ap, sym, refl, ◌∙◌, subst, append_assoc, length-append, arith}
use Rattle.std.proofs.lemmas.List.{append-nil}
use Rattle.dc_event.specs.Answers.{count_put}
use Rattle.dc_event.specs.Causes.{counted}
use Rattle.dc_event.specs.Told.{GainedFront}
use Rattle.dc_event.specs.declared.answers.Put.{Put}
use Rattle.dc_event.specs.declared.answers.Put.TheVariants.{Taken, Failed}
use Rattle.dc_writer.specs.Written.{Written, unwritten, Passes, Wrote, Flushes, PutWhole}

module _ {K : Type 0} (gained : K → List ℕ → K → Type 0) (faults : K → ℕ)
    (both : (a b c : K) (xs ys : List ℕ) → gained a xs b → gained b ys c → gained a (xs ++ ys) c) where
  -- A front of what came before is a front of the whole.
  front_more : (k l : K) (xs ys : List ℕ) → GainedFront gained k xs l → GainedFront gained k (xs ++ ys) l
  front_more k l xs ys p = (p.0, (p.1.0 ++ ys, ap (λ (t : List ℕ). t ++ ys) p.1.1 ∙ append_assoc p.0 p.1.0 ys), p.2)

  pub passes_both : (a b c : Bool) (k l m : K) (held xs mid ys left : List ℕ) → Passes gained faults a b k held xs l mid → Passes gained faults b c l mid ys m left
      → Passes gained faults a c k held (xs ++ ys) m left
  passes_both false false false k l m held xs mid ys left p q = (
    p.0 ++ q.0,
    both k l m p.0 q.0 p.1 q.1,
    append_assoc p.0 q.0 left ∙ ap (λ (t : List ℕ). p.0 ++ t) q.2 ∙ sym (append_assoc p.0 mid ys) ∙ ap (λ (t : List ℕ). t ++ ys) p.2 ∙ append_assoc held xs ys,
    q.3 ∙ p.3,
  )
  passes_both false false true k l m held xs mid ys left p q =
      let all : held ++ (xs ++ ys) ≡ p.0 ++ (mid ++ ys) =
      sym (append_assoc held xs ys) ∙ ap (λ (t : List ℕ). t ++ ys) (sym p.2) ∙ append_assoc p.0 mid ys in (
        (
          p.0 ++ q.0.0,
          (q.0.1.0, all ∙ ap (λ (t : List ℕ). p.0 ++ t) q.0.1.1 ∙ sym (append_assoc p.0 q.0.0 q.0.1.0)),
          both k l m p.0 q.0.0 p.1 q.0.2,
        ),
        q.1 ∙ ap counted p.3,
      )
  passes_both false true true k l m held xs mid ys left p q =
      let more : GainedFront gained k (held ++ (xs ++ ys)) l = subst (λ (t : List ℕ). GainedFront gained k t l) (append_assoc held xs ys) (front_more k l (held ++ xs) ys p.0) in
      (subst (λ (x : K). GainedFront gained k (held ++ (xs ++ ys)) x) (sym q) more, ap faults q ∙ p.1)
  passes_both false true false k l m held xs mid ys left p q = absurd q
  passes_both true false c k l m held xs mid ys left p q = absurd p
  passes_both true true false k l m held xs mid ys left p q = absurd q
  passes_both true true true k l m held xs mid ys left p q = q ∙ p

  -- What was held is put, and then a text follows.
  pub held_then : (a b : Bool) (k l m : K) (held ys left : List ℕ) → a ≡ false → Passes gained faults false a k [] held l [] → Passes gained faults false b l [] ys m left
      → Passes gained faults false b k held ys m left
  held_then false b k l m held ys left e p q = shifted b k m held ys left (passes_both false false b k l m [] held [] ys left p q)
    where
      shifted : (b : Bool) (k m : K) (held ys left : List ℕ) → Passes gained faults false b k [] (held ++ ys) m left → Passes gained faults false b k held ys m left
      shifted false k m held ys left h = h
      shifted true k m held ys left h = h
  held_then true b k l m held ys left e p q = cc

  pub held_early : (a : Bool) (k l : K) (held ys left : List ℕ) → a ≡ true → Passes gained faults false a k [] held l [] → Passes gained faults false a k held ys l left
  held_early false k l held ys left e p = cc
  held_early true k l held ys left e p = (front_more k l held ys p.0, p.1)

  -- A text, and then another.
  pub wrote_both : {s t u : Written} {k l m : K} {xs ys : List ℕ} → Wrote gained faults s k xs t l → Wrote gained faults t l ys u m → Wrote gained faults s k (xs ++ ys) u m
  wrote_both {s} {t} {u} {k} {l} {m} {xs} {ys} p q =
      let n = length-append xs ys in
      record {
        passed = passes_both s.failed t.failed u.failed k l m s.held xs t.held ys u.held p.passed q.passed;
        count = omega (arith, p.count, q.count, n);
      }

  pub flush_whole : (failed : Bool) (result : Put) (count : ℕ) (k l m : K) (held text : List ℕ) → min count (2 ^ 64 - 1) ≡ min (0 + length text) (2 ^ 64 - 1) → Passes gained faults false failed k [] text l held
      → Flushes gained faults failed result count l held m
      → PutWhole gained result k text m × (faults m ≡ count_put result (faults k))
  flush_whole false (Taken n) count k l m held text c p q =
      ((subst (λ (t : List ℕ). gained k t m) p.2 (both k l m p.0 held p.1 q.0), omega (arith, c, q.1)), q.2 ∙ p.3)
  flush_whole false Failed count k l m held text c p q =
      let begins : text ≡ (p.0 ++ q.0.0) ++ q.0.1.0 = sym p.2 ∙ ap (λ (t : List ℕ). p.0 ++ t) q.0.1.1 ∙ sym (append_assoc p.0 q.0.0 q.0.1.0) in
      ((p.0 ++ q.0.0, (q.0.1.0, begins), both k l m p.0 q.0.0 p.1 q.0.2), q.1 ∙ ap counted p.3)
  flush_whole true (Taken n) count k l m held text c p q = absurd q
  flush_whole true Failed count k l m held text c p q =
      (subst (λ (x : K). GainedFront gained k text x) (sym q) p.0, ap faults q ∙ p.1)

  -- The same text, said otherwise.
  pub wrote_as : {s t : Written} {k l : K} {xs ys : List ℕ} → xs ≡ ys → Wrote gained faults s k xs t l → Wrote gained faults s k ys t l
  wrote_as {s} {t} {k} {l} e p = subst (λ (zs : List ℕ). Wrote gained faults s k zs t l) e p

  -- Nothing was written.
  pub wrote_none : (none : (a : K) → gained a [] a) (s : Written) (k : K) → Wrote gained faults s k [] s k
  wrote_none none s k =
      let same : s.count ≡ s.count + 0 = omega arith in
      record { passed = passes_none s.failed k s.held none; count = ap (λ (n : ℕ). min n (2 ^ 64 - 1)) same }
    where
      passes_none : (b : Bool) (k : K) (held : List ℕ) (none : (a : K) → gained a [] a) → Passes gained faults b b k held [] k held
      passes_none false k held none = ([], none k, sym (append-nil held), refl)
      passes_none true k held none = refl

  -- A whole text was written, and all was put.
  pub whole : {w : Written} {k l m : K} {text : List ℕ} (s : Written) (result : Put) → s ≡ unwritten → Wrote gained faults s k text w l → Flushes gained faults w.failed result w.count l w.held m
      → PutWhole gained result k text m × (faults m ≡ count_put result (faults k))
  whole {w} {k} {l} {m} {text} s result fresh p q =
      let h : Wrote gained faults unwritten k text w l = subst (λ (x : Written). Wrote gained faults x k text w l) fresh p in
      flush_whole w.failed result w.count k l m w.held text h.count h.passed q
