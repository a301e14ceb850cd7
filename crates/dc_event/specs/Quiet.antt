-- A sink with room for so many bytes, which never fails.
use Rattle.std.specs.Prelude.{◌≡◌, ℕ, ◌≤◌, List, [], ◌++◌, length, refl}
use Rattle.std.proofs.Common.{◌∙◌, append_assoc, length-append, arith}
use Rattle.std.proofs.lemmas.List.{append-nil}
use Rattle.std.specs.declared.option.Option.{Option}
use Rattle.std.specs.declared.option.Option.TheVariants.{Some}
use Rattle.dc_event.specs.Told.{Grows}
use Rattle.dc_event.specs.Bytes.{Grows-none, Grows-both}

-- The room, and the bytes held, unless the room was passed.
pub record Quiet : Type 0 where
  pub room : ℕ
  pub bytes : Option (List ℕ)

-- What is held grew by these bytes where it is told, and it is told where they fit.
pub record Filled (old : Quiet) (more : List ℕ) (new : Quiet) : Type 0 where
  pub same_room : new.room ≡ old.room
  pub grows : Grows old.bytes more new.bytes
  pub fits : (held : List ℕ) → old.bytes ≡ Some held → length (held ++ more) ≤ old.room → new.bytes ≡ Some (held ++ more)

pub Filled-none : (a : Quiet) → Filled a [] a
Filled-none a = record { same_room = refl; grows = Grows-none a.bytes; fits = λ held e h. rw append-nil e }

pub Filled-both : (a b c : Quiet) (xs ys : List ℕ) → Filled a xs b → Filled b ys c → Filled a (xs ++ ys) c
Filled-both a b c xs ys p q = record {
  same_room = q.same_room ∙ p.same_room;
  grows = Grows-both a.bytes b.bytes c.bytes xs ys p.grows q.grows;
  fits = λ held e h.
      let whole : (held ++ xs) ++ ys ≡ held ++ (xs ++ ys) = append_assoc held xs ys in
      let all : length ((held ++ xs) ++ ys) ≤ b.room = rw (whole, p.same_room) h in
      let front : length (held ++ xs) ≤ a.room = omega (arith, length-append (held ++ xs) ys, all, p.same_room) in
      rw (← whole) (q.fits (held ++ xs) (p.fits held e front) all);
}
