-- A source and a sink in memory whose calls of given numbers fail. Calls are counted from 1.
use Rattle.std.specs.Prelude.{◌≡◌, ℕ, ◌-◌, min, Bool, ◌||◌, ◌==◌, if◌then◌else◌, List, [], ◌++◌, length, refl}
use Rattle.std.specs.List.{list_any}
use Rattle.std.proofs.Common.{sym, ◌∙◌, ap, append_assoc}
use Rattle.std.proofs.lemmas.List.{append-nil}
use Rattle.dc_event.specs.declared.answers.Taken.{Taken}
use Rattle.dc_event.specs.declared.answers.Taken.TheVariants as taken
use Rattle.dc_event.specs.declared.answers.Put.{Put}
use Rattle.dc_event.specs.declared.answers.Put.TheVariants as put
use Rattle.dc_event.specs.Causes.{counted}
use Rattle.dc_event.specs.Bytes.{Tape, Moved, Moved-none, Moved-both}

-- A source: what was taken and what is left, how many bytes a call gives at most, which calls fail, how many calls were made, and how
-- many failed.
pub record Reel : Type 0 where
  pub taken : List ℕ
  pub left : List ℕ
  pub piece : ℕ
  pub fails : List ℕ
  pub calls : ℕ
  pub faults : ℕ

-- A sink: its room, what it holds, which calls fail, how many calls were made, and how many failed.
pub record Shelf : Type 0 where
  pub room : ℕ
  pub bytes : List ℕ
  pub fails : List ℕ
  pub calls : ℕ
  pub faults : ℕ

-- Whether the call of this number is to fail.
abbrev pub is_among : List ℕ → ℕ → Bool
is_among fails call = list_any (λ n. n == call) fails

-- The bytes of a source alone.
abbrev pub tape_of : Reel → Tape
tape_of r = record { taken = r.taken; left = r.left }

-- What the next call of `take` answers, for a buffer of so many bytes.
abbrev pub take_gives : Reel → ℕ → Taken
take_gives r room = if is_among r.fails (counted r.calls) then taken.Failed else taken.Bytes (min (min room r.piece) (length r.left))

-- What the next call of `put` answers, for so many bytes: it fails where it is to, and where no room is left.
abbrev pub put_gives : Shelf → ℕ → Put
put_gives s count =
    if (s.room - length s.bytes == 0) || is_among s.fails (counted s.calls) then put.Failed else put.Taken (min count (s.room - length s.bytes))

-- These bytes were taken between the two.
pub record Wound (old : Reel) (bytes : List ℕ) (new : Reel) : Type 0 where
  pub moved : Moved (tape_of old) bytes (tape_of new)
  pub same_piece : new.piece ≡ old.piece
  pub same_fails : new.fails ≡ old.fails

-- These bytes were put behind those held.
pub record Added (old : Shelf) (bytes : List ℕ) (new : Shelf) : Type 0 where
  pub behind : new.bytes ≡ old.bytes ++ bytes
  pub same_room : new.room ≡ old.room
  pub same_fails : new.fails ≡ old.fails

pub Wound-none : (a : Reel) → Wound a [] a
Wound-none a = record { moved = Moved-none (tape_of a); same_piece = refl; same_fails = refl }

pub Wound-both : (a b c : Reel) (xs ys : List ℕ) → Wound a xs b → Wound b ys c → Wound a (xs ++ ys) c
Wound-both a b c xs ys p q = record {
  moved = Moved-both (tape_of a) (tape_of b) (tape_of c) xs ys p.moved q.moved;
  same_piece = q.same_piece ∙ p.same_piece;
  same_fails = q.same_fails ∙ p.same_fails;
}

pub Added-none : (a : Shelf) → Added a [] a
Added-none a = record { behind = sym (append-nil a.bytes); same_room = refl; same_fails = refl }

pub Added-both : (a b c : Shelf) (xs ys : List ℕ) → Added a xs b → Added b ys c → Added a (xs ++ ys) c
Added-both a b c xs ys p q = record {
  behind = q.behind ∙ ap (λ l. l ++ ys) p.behind ∙ append_assoc a.bytes xs ys;
  same_room = q.same_room ∙ p.same_room;
  same_fails = q.same_fails ∙ p.same_fails;
}
