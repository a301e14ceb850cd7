-- Bytes that are taken from a front, and bytes that are put behind others.
use Rattle.std.specs.Prelude.{◌≡◌, ℕ, List, [], ◌++◌, IsSome, refl}
use Rattle.std.proofs.Common.{sym, ◌∙◌, ap, append_assoc}
use Rattle.std.proofs.lemmas.List.{append-nil, append_cancel_left}
use Rattle.std.specs.declared.option.Option.{Option}
use Rattle.std.specs.declared.option.Option.TheVariants.{None, Some}
use Rattle.dc_event.specs.Told.{Grows}

-- Bytes in memory: what was taken, and what is left.
pub record Tape : Type 0 where
  pub taken : List ℕ
  pub left : List ℕ

-- These bytes were taken between the two.
pub record Moved (old : Tape) (bytes : List ℕ) (new : Tape) : Type 0 where
  pub behind : new.taken ≡ old.taken ++ bytes
  pub ahead : old.left ≡ bytes ++ new.left

pub Moved-none : (a : Tape) → Moved a [] a
Moved-none a = record { behind = sym (append-nil a.taken); ahead = refl }

pub Moved-both : (a b c : Tape) (xs ys : List ℕ) → Moved a xs b → Moved b ys c → Moved a (xs ++ ys) c
Moved-both a b c xs ys p q = record {
  behind = q.behind ∙ ap (λ l. l ++ ys) p.behind ∙ append_assoc a.taken xs ys;
  ahead = p.ahead ∙ ap (λ l. xs ++ l) q.ahead ∙ sym (append_assoc xs ys c.left);
}

pub Grows-none : {A : Type 0} (a : Option (List A)) → Grows a [] a
Grows-none None = tt
Grows-none (Some x) = sym (append-nil x)

pub Grows-both : {A : Type 0} (a b c : Option (List A)) (xs ys : List A) → Grows a xs b → Grows b ys c → Grows a (xs ++ ys) c
Grows-both a b None xs ys p q = tt
Grows-both a None (Some z) xs ys p q = absurd q
Grows-both None (Some y) (Some z) xs ys p q = absurd p
Grows-both (Some x) (Some y) (Some z) xs ys p q = q ∙ ap (λ l. l ++ ys) p ∙ append_assoc x xs ys

-- What is told fixes what it grew by.
pub Grows-tells : {A : Type 0} (old new : Option (List A)) (xs ys : List A) → IsSome new → Grows old xs new → Grows old ys new → xs ≡ ys
Grows-tells old None xs ys h p q = cc
Grows-tells None (Some new) xs ys h p q = absurd p
Grows-tells (Some old) (Some new) xs ys h p q = append_cancel_left old xs ys (sym p ∙ q)
