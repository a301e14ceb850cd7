-- Frames whose server names are few.
use Rattle.std.proofs.Common.{ℕ, zero, suc, ◌+◌, ◌<◌, ◌≤◌, List, [], ◌∷◌, length, take, get_or, arith, add-one}
use Rattle.dc_machine.specs.Query as machine
use Rattle.dc_machine.specs.Good.{AreShort}
use Rattle.dc_frames.specs.declared.frame.Frame.{Frame}
use Rattle.dc_frames.specs.View.{frame_of, onto}

-- Each of these frames has at most sixteen server names to do.
unfoldable pub AllShort : List Frame → Type 0
AllShort [] = Unit {0}
AllShort (f ∷ fs) = (length f.hosts.items ≤ 16) × AllShort fs

pub short-nil : AllShort []
unfolding AllShort
short-nil = tt

pub short_none : (xs : List Frame) → AllShort (take 0 xs)
short_none xs = short-nil

short_next : (xs : List Frame) (i : ℕ) (d : Frame) → i < length xs → AllShort (take i xs) → length (get_or xs i d).hosts.items ≤ 16 → AllShort (take (suc i) xs)
unfolding AllShort
short_next [] i d h s k = absurd (omega arith)
short_next (x ∷ xs) zero d h s k = (k, tt)
short_next (x ∷ xs) (suc i) d h s k = (s.0, short_next xs i d (omega arith) s.1 k)

pub short_more : (xs : List Frame) (i : ℕ) (d : Frame) → i < length xs → AllShort (take i xs) → length (get_or xs i d).hosts.items ≤ 16 → AllShort (take (i + 1) xs)
short_more xs i d h s k = rw add-one (short_next xs i d h s k)

onto_short : (xs : List Frame) (below : List machine.Frame) → AllShort xs → AreShort below → AreShort (onto xs below)
unfolding AllShort AreShort onto
onto_short [] below s k = k
onto_short (x ∷ xs) below s k = onto_short xs (frame_of x ∷ below) s.1 (s.0, k)

none_short : AreShort []
unfolding AreShort
none_short = tt

pub all_short : (xs : List Frame) (n : ℕ) → AllShort (take n xs) → AreShort (onto (take n xs) [])
all_short xs n s = onto_short (take n xs) [] s none_short

pub ruleset shorts = (short-nil, short_none, short_more, all_short)
