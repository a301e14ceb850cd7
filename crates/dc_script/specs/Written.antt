-- What a sink gained of a text, where nothing more is written after a write that failed.
use Rattle.std.specs.Prelude.{◌≡◌, ℕ, Bool, true, false, List, [], ◌∷◌, ◌++◌}
use Rattle.std.proofs.Common.{sym, ◌∙◌, ap, append_assoc}
use Rattle.std.proofs.lemmas.List.{append-nil}
use Rattle.std.proofs.lemmas.List.Concat.{flat_map-append}
use Rattle.dc_model.specs.Event.{Action}
use Rattle.dc_event.specs.Told.{GainedFront}
use Rattle.dc_script.specs.Text.{action_text, text_of}

-- Before and after say whether a write has failed. The sink gained the whole text, or a front of it where a write failed between the
-- two, or nothing where one had failed before.
abbrev pub Written : {K : Type 0} → (K → List ℕ → K → Type 0) → (before after : Bool) → K → List ℕ → K → Type 0
Written gained false false old text new = gained old text new
Written gained false true old text new = GainedFront gained old text new
Written gained true true old text new = gained old [] new
Written gained true false old text new = ⊥

pub text_of-append : (xs ys : List Action) → text_of (xs ++ ys) ≡ text_of xs ++ text_of ys
unfolding text_of
text_of-append xs ys = simp flat_map-append

pub text_of-one : (x : Action) → text_of (x ∷ []) ≡ action_text x
unfolding text_of
text_of-one x = append-nil (action_text x)

-- Where no write has failed, the whole text was gained.
pub written_whole : {K : Type 0} (gained : K → List ℕ → K → Type 0) (before after : Bool) (old new : K) (text : List ℕ) → Written gained before after old text new
    → before ≡ false → after ≡ false → gained old text new
written_whole gained false false old new text w e f = w
written_whole gained false true old new text w e f = cc
written_whole gained true after old new text w e f = cc

module _ {K : Type 0} (gained : K → List ℕ → K → Type 0) (none : (a : K) → gained a [] a)
    (both : (a b c : K) (xs ys : List ℕ) → gained a xs b → gained b ys c → gained a (xs ++ ys) c) where
  pub Written-none : (failed : Bool) (a : K) → Written gained failed failed a [] a
  Written-none true a = none a
  Written-none false a = none a

  pub Written-both : (f g h : Bool) (a b c : K) (xs ys : List ℕ) → Written gained f g a xs b → Written gained g h b ys c → Written gained f h a (xs ++ ys) c
  Written-both false false false a b c xs ys p q = both a b c xs ys p q
  Written-both false false true a b c xs ys p q =
      (xs ++ q.0, (q.1.0, ap (λ l. xs ++ l) q.1.1 ∙ sym (append_assoc xs q.0 q.1.0)), both a b c xs q.0 p q.2)
  Written-both false true true a b c xs ys p q =
      (p.0, (p.1.0 ++ ys, ap (λ l. l ++ ys) p.1.1 ∙ append_assoc p.0 p.1.0 ys), rw append-nil at (both a b c p.0 [] p.2 q))
  Written-both true true true a b c xs ys p q = both a b c [] [] p q
  Written-both false true false a b c xs ys p q = absurd q
  Written-both true false false a b c xs ys p q = absurd p
  Written-both true false true a b c xs ys p q = absurd p
  Written-both true true false a b c xs ys p q = absurd q

  -- Actions that were written, and then others.
  pub Done-both : (f g h : Bool) (a b c : K) (xs ys : List Action) → Written gained f g a (text_of xs) b → Written gained g h b (text_of ys) c
      → Written gained f h a (text_of (xs ++ ys)) c
  Done-both f g h a b c xs ys p q = rw text_of-append (Written-both f g h a b c (text_of xs) (text_of ys) p q)
