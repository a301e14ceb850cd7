-- Lines that are done are written one after another.
use Rattle.std.proofs.Common.{◌≡◌, ◌≢◌, ℕ, suc, ◌+◌, ◌<◌, ◌≤◌, List, [], ◌∷◌, ◌++◌, length, drop, refl, ap, sym, ◌∙◌, subst, arith, append_assoc, Option, Some, None}
use Rattle.std.specs.Prelude.{option_map}
use Rattle.std.proofs.lemmas.List.{append-nil}
use Rattle.dc_event.specs.Told.{BeginsWith, GainedFront}
use Rattle.dc_lookup.specs.Text.{line_end}
use Rattle.dc_lookup.specs.Filter.{Slot, Progressed, fresh, asked, done, Flushed, flushed_by, flushed}
use Rattle.dc_filter.specs.Sifter.{Sifter, text_at, front_text}

abbrev pub with_queue : Sifter → List Slot → Sifter
with_queue s q = record s { queue = q }

-- So far this text was written, and the rest of the queue stands.
pub record SoFlushed {K : Type 0} (gained : K → List ℕ → K → Type 0) (faults : K → ℕ) (s : Sifter) (old : K) (t : Sifter) (now : K) : Type 0 where
  pub text : List ℕ
  pub told : gained old text now
  pub queue : (flushed s.queue).queue ≡ (flushed t.queue).queue
  pub whole : (flushed s.queue).text ≡ text ++ (flushed t.queue).text
  pub same : t ≡ with_queue s t.queue
  pub well : faults now ≡ faults old

pub nothing_flushed : {K : Type 0} (gained : K → List ℕ → K → Type 0) (faults : K → ℕ) (s : Sifter) (old : K) → gained old [] old → SoFlushed gained faults s old s old
nothing_flushed gained faults s old none = record { text = []; told = none; queue = refl; whole = refl; same = refl; well = refl }

-- The front is done.
record DoneFront (q : List Slot) (text : List ℕ) : Type 0 where
  pub queue : (flushed q).queue ≡ (flushed (drop 1 q)).queue
  pub whole : (flushed q).text ≡ text ++ (flushed (drop 1 q)).text
  pub less : length (drop 1 q) < length q

done_by : (at : Progressed) (s : Slot) (ss : List Slot) (text : List ℕ) → at ≡ s.at → option_map (λ x. x ++ line_end) (text_at at) ≡ Some text → DoneFront (s ∷ ss) text
unfolding flushed
done_by (fresh n) s ss text h e = absurd (none_some text e)
  where
    none_some : (x : List ℕ) → None ≡ Some x → ⊥
    none_some x h = cc
done_by (asked a) s ss text h e = absurd (none_some text e)
  where
    none_some : (x : List ℕ) → None ≡ Some x → ⊥
    none_some x h = cc
done_by (done t) s ss text h e =
    let is : t ++ line_end ≡ text = cc (e) in
    record {
      queue = ap (λ (x : Progressed). (flushed_by x s ss (flushed ss)).queue) (sym h);
      whole = ap (λ (x : Progressed). (flushed_by x s ss (flushed ss)).text) (sym h) ∙ sym (append_assoc t line_end (flushed ss).text) ∙ ap (λ (x : List ℕ). x ++ (flushed ss).text) is;
      less = omega arith;
    }

done_front : (q : List Slot) (text : List ℕ) → option_map (λ x. x ++ line_end) (front_text q) ≡ Some text → DoneFront q text
done_front [] text h = absurd (none_some text h)
  where
    none_some : (x : List ℕ) → None ≡ Some x → ⊥
    none_some x h = cc
done_front (s ∷ ss) text h = done_by s.at s ss text refl h

pub one_flushed : {K : Type 0} (gained : K → List ℕ → K → Type 0) (faults : K → ℕ) (both : (a b c : K) (xs ys : List ℕ) → gained a xs b → gained b ys c → gained a (xs ++ ys) c)
    (s : Sifter) (old : K) (t : Sifter) (now next : K) (text : List ℕ) (u : Sifter) → SoFlushed gained faults s old t now → option_map (λ x. x ++ line_end) (front_text t.queue) ≡ Some text
    → gained now text next → faults next ≡ faults now → u ≡ with_queue t (drop 1 t.queue) → SoFlushed gained faults s old u next
one_flushed gained faults both s old t now next text u f front told well is =
    let d = done_front t.queue text front in
    subst (λ (x : Sifter). SoFlushed gained faults s old x next) (sym is) (record {
      text = f.text ++ text;
      told = both old now next f.text text f.told told;
      queue = f.queue ∙ d.queue;
      whole = f.whole ∙ ap (λ (x : List ℕ). f.text ++ x) d.whole ∙ sym (append_assoc f.text text (flushed (drop 1 t.queue)).text);
      same = ap (λ (x : Sifter). with_queue x (drop 1 t.queue)) f.same;
      well = well ∙ f.well;
    })

pub one_less : (t u : Sifter) (text : List ℕ) → option_map (λ x. x ++ line_end) (front_text t.queue) ≡ Some text → u ≡ with_queue t (drop 1 t.queue) → length u.queue < length t.queue
one_less t u text front is = let d = done_front t.queue text front in omega (arith, d.less, ap (λ (x : Sifter). length x.queue) is)

pub front_is : (t : Sifter) (text : List ℕ) → option_map (λ x. x ++ line_end) (front_text t.queue) ≡ Some text → front_text t.queue ≢ None
front_is t text h n = none_some text (sym (ap (λ x. option_map (λ (y : List ℕ). y ++ line_end) x) n) ∙ h)
  where
    none_some : (x : List ℕ) → None ≡ Some x → ⊥
    none_some x h = cc

-- Nothing at the front is done.
not_by : (at : Progressed) (s : Slot) (ss : List Slot) → at ≡ s.at → option_map (λ x. x ++ line_end) (text_at at) ≡ None → flushed (s ∷ ss) ≡ record { queue = s ∷ ss; text = [] }
unfolding flushed
not_by (fresh n) s ss h e = ap (λ (x : Progressed). flushed_by x s ss (flushed ss)) (sym h)
not_by (asked a) s ss h e = ap (λ (x : Progressed). flushed_by x s ss (flushed ss)) (sym h)
not_by (done t) s ss h e = absurd (some_none (t ++ line_end) e)
  where
    some_none : (x : List ℕ) → Some x ≡ None → ⊥
    some_none x h = cc

not_done : (q : List Slot) → option_map (λ x. x ++ line_end) (front_text q) ≡ None → flushed q ≡ record { queue = q; text = [] }
unfolding flushed
not_done [] h = refl
not_done (s ∷ ss) h = not_by s.at s ss refl h

-- All that is done was written.
pub all_flushed : {K : Type 0} (gained : K → List ℕ → K → Type 0) (faults : K → ℕ) (s : Sifter) (old : K) (t : Sifter) (now : K) → SoFlushed gained faults s old t now
    → option_map (λ x. x ++ line_end) (front_text t.queue) ≡ None → gained old (flushed s.queue).text now × (t ≡ with_queue s (flushed s.queue).queue)
all_flushed gained faults s old t now f front =
    let rest = not_done t.queue front in (
      subst (λ (x : List ℕ). gained old x now) (sym (f.whole ∙ ap (λ (x : Flushed). f.text ++ x.text) rest ∙ append-nil f.text)) f.told,
      f.same ∙ ap (λ (q : List Slot). with_queue s q) (sym (f.queue ∙ ap (λ (x : Flushed). x.queue) rest)),
    )

-- A front of the next text was written.
pub part_flushed : {K : Type 0} (gained : K → List ℕ → K → Type 0) (faults : K → ℕ) (both : (a b c : K) (xs ys : List ℕ) → gained a xs b → gained b ys c → gained a (xs ++ ys) c)
    (s : Sifter) (old : K) (t : Sifter) (now next : K) (text : List ℕ) → SoFlushed gained faults s old t now → option_map (λ x. x ++ line_end) (front_text t.queue) ≡ Some text
    → GainedFront gained now text next → GainedFront gained old (flushed s.queue).text next
part_flushed gained faults both s old t now next text f front g =
    let d = done_front t.queue text front in
    let rest : List ℕ = g.1.0 ++ (flushed (drop 1 t.queue)).text in (
      f.text ++ g.0,
      (
        rest,
        f.whole ∙ ap (λ (x : List ℕ). f.text ++ x) (d.whole ∙ ap (λ (x : List ℕ). x ++ (flushed (drop 1 t.queue)).text) g.1.1 ∙ append_assoc g.0 g.1.0 (flushed (drop 1 t.queue)).text)
            ∙ sym (append_assoc f.text g.0 rest),
      ),
      both old now next f.text g.0 f.told g.2,
    )
