-- Reading and writing lines, step by step.
use Rattle.std.proofs.Common.{◌≡◌, ℕ, zero, suc, ◌+◌, ◌<◌, ◌≤◌, ◌^◌, ◌⊎◌, inl, inr, Bool, true, false, true≢false, cond, ltb, List, [], ◌∷◌, ◌++◌, length, refl, ap, sym, ◌∙◌, subst, arith, append_assoc, length-append, Option}
use Rattle.std.specs.List.{AllByRecursion}
use Rattle.std.proofs.lemmas.List.{append-nil}
use Rattle.std.proofs.lemmas.Bool.Decides.{nat_tests}
use Rattle.std.specs.Io.KnownBytes.{IsAtEnd}
use Rattle.dc_model.specs.Rules.{lines_of}
use Rattle.dc_event.specs.Told.{BeginsWith}
use Rattle.dc_lookup.specs.Text.{line_end}
use Rattle.dc_lookup.specs.Filter.{Slot, Progressed, fresh, asked, done, read, Filter, Flushed, flushed_by, flushed, Filled, behind_text, filled, filled_behind, with_filled, settled}
use Rattle.dc_lookup.specs.Laws.{IsWaiting, FrontWaits, IsSettled}
use Rattle.dc_filter.specs.Sifter.{Sifter, filter_with}
use Rattle.dc_sieve.specs.Input.{Held, MayCome, IsShort, IsTooLong, NextIsLong, ReadsLine}
use Rattle.dc_sieve.specs.Going.{filter_at, Goes, IsWithin, IsQuiet, IsLater, WritesFront, ReadsLong}

-- Writing what is done

pub record IsFlushed (q r : List Slot) : Type 0 where
  pub front : FrontWaits r
  pub fewer : length r ≤ length q

flushes_by : (at : Progressed) (s : Slot) (ss : List Slot) → IsFlushed ss (flushed ss).queue → at ≡ s.at → IsFlushed (s ∷ ss) (flushed_by at s ss (flushed ss)).queue
flushes_by (fresh n) s ss k h = record { front = subst (λ (x : Progressed). IsWaiting x) h tt; fewer = omega arith }
flushes_by (asked a) s ss k h = record { front = subst (λ (x : Progressed). IsWaiting x) h tt; fewer = omega arith }
flushes_by (done text) s ss k h = record { front = k.front; fewer = omega (arith, k.fewer) }

pub flushes : (q : List Slot) → IsFlushed q (flushed q).queue
unfolding flushed
flushes [] = record { front = tt; fewer = omega arith }
flushes (s ∷ ss) = flushes_by s.at s ss (flushes ss) refl

waits_by : (at : Progressed) (s : Slot) (ss : List Slot) (g : Flushed) → IsWaiting at → flushed_by at s ss g ≡ record { queue = s ∷ ss; text = [] }
waits_by (fresh n) s ss g h = refl
waits_by (asked a) s ss g h = refl
waits_by (done text) s ss g h = absurd h

pub flushed_waits : (q : List Slot) → FrontWaits q → flushed q ≡ record { queue = q; text = [] }
unfolding flushed
flushed_waits [] h = refl
flushed_waits (s ∷ ss) h = waits_by s.at s ss (flushed ss) h

-- The engine with another queue.
abbrev pub with_queue : Sifter → List Slot → Sifter
with_queue s q = record s { queue = q }

flush_settles : (s : Sifter) (w : List ℕ) (u : List (List ℕ)) → settled (filter_with s w u) ≡ settled (filter_with (with_queue s (flushed s.queue).queue) (w ++ (flushed s.queue).text) u)
unfolding settled
flush_settles s w u =
    let f : Flushed = flushed s.queue in
    let t : Sifter = with_queue s f.queue in
    let l : Filled = filled s.room (ltb (length f.queue) s.room) f.queue u in
    ap (λ (x : List ℕ). record (filter_with t x u) { queue = l.queue; unread = l.unread }) (sym (append_assoc w f.text l.text))
    ∙ sym (ap (λ (g : Flushed). with_filled (filled_behind s.room g u) (filter_with t (w ++ f.text) u)) (flushed_waits f.queue (flushes s.queue).front))

pub flush_goes : (s : Sifter) (h : Held) → Goes s h h.rest (with_queue s (flushed s.queue).queue) h (flushed s.queue).text []
flush_goes s h = record {
  read = λ tail c. refl;
  settles = λ w tail c. flush_settles s w (lines_of (h.rest ++ tail));
  count = omega arith;
  short = tt;
  same = refl;
}

pub nothing_goes : (s : Sifter) (h : Held) → Goes s h h.rest s h [] []
nothing_goes s h = record {
  read = λ tail c. refl;
  settles = λ w tail c. ap (λ (x : List ℕ). settled (filter_at s x h.rest tail)) (sym (append-nil w));
  count = omega arith;
  short = tt;
  same = refl;
}

-- Reading a line

filled_true : (room : ℕ) (q : List Slot) (l : List ℕ) (u : List (List ℕ)) → length q < room
    → filled room (ltb (length q) room) q (l ∷ u) ≡ filled_behind room (flushed (q ++ (read l ∷ []))) u
unfolding filled
filled_true room q l u h =
    let yes : ltb (length q) room ≡ true = grind (arith, nat_tests) in
    ap (λ (b : Bool). filled room b q (l ∷ u)) yes

read_settles : (s : Sifter) (w l : List ℕ) (u : List (List ℕ)) → FrontWaits s.queue → length s.queue < s.room
    → settled (filter_with s w (l ∷ u)) ≡ settled (filter_with (with_queue s (s.queue ++ (read l ∷ []))) (w ++ []) u)
unfolding settled
read_settles s w l u front room =
    let t : Sifter = with_queue s (s.queue ++ (read l ∷ [])) in
    ap (λ (g : Flushed). with_filled (filled_behind s.room g (l ∷ u)) (filter_with s w (l ∷ u))) (flushed_waits s.queue front)
    ∙ ap (λ (x : Filled). with_filled (behind_text [] x) (filter_with s w (l ∷ u))) (filled_true s.room s.queue l u room)
    ∙ ap (λ (x : List ℕ). with_filled (filled_behind s.room (flushed t.queue) u) (filter_with t x u)) (sym (append-nil w))

pub read_goes : (s : Sifter) (h : Held) (bytes : List ℕ) (j : Held) (left : Option (List ℕ)) → FrontWaits s.queue → length s.queue < s.room → ReadsLine h bytes j left
    → Goes s h bytes (with_queue s (s.queue ++ (read j.line ∷ []))) j [] (j.line ∷ [])
read_goes s h bytes j left front room r = record {
  read = λ tail c. r.lines tail c;
  settles = λ w tail c. ap (λ (u : List (List ℕ)). settled (filter_with s w u)) (r.lines tail c) ∙ read_settles s w j.line (lines_of (j.rest ++ tail)) front room;
  count = r.count;
  short = (r.short, tt);
  same = refl;
}

-- One after the other

pub may_by : (b c : Bool) (m tail : List ℕ) → (b ≡ true → (m ≡ []) × (c ≡ true)) → MayCome c tail → MayCome b (m ++ tail)
may_by true c m tail h k =
    let so = h refl in
    let none : tail ≡ [] = subst (λ (x : Bool). MayCome x tail) so.1 k in
    ap (λ (x : List ℕ). x ++ tail) so.0 ∙ none
may_by false c m tail h k = tt

all_behind : {A : Type 0} (P : A → Type 0) (xs ys : List A) → AllByRecursion P xs → AllByRecursion P ys → AllByRecursion P (xs ++ ys)
all_behind P [] ys h k = k
all_behind P (x ∷ xs) ys h k = (h.0, all_behind P xs ys h.1 k)

pub goes_both : (s : Sifter) (h : Held) (b : List ℕ) (t : Sifter) (j : Held) (x1 : List ℕ) (p1 : List (List ℕ)) (m : List ℕ) (u : Sifter) (k : Held) (x2 : List ℕ) (p2 : List (List ℕ))
    → IsLater j m k → Goes s h b t j x1 p1 → Goes t j (j.rest ++ m) u k x2 p2 → Goes s h (b ++ m) u k (x1 ++ x2) (p1 ++ p2)
goes_both s h b t j x1 p1 m u k x2 p2 later f g = record {
  read = λ tail c.
      ap (λ (x : List ℕ). lines_of x) (append_assoc b m tail)
      ∙ f.read (m ++ tail) (may_by j.ended k.ended m tail later c)
      ∙ ap (λ (x : List ℕ). p1 ++ lines_of x) (sym (append_assoc j.rest m tail))
      ∙ ap (λ (x : List (List ℕ)). p1 ++ x) (g.read tail c)
      ∙ sym (append_assoc p1 p2 (lines_of (k.rest ++ tail)));
  settles = λ w tail c.
      ap (λ (x : List ℕ). settled (filter_with s w (lines_of x))) (append_assoc b m tail)
      ∙ f.settles w (m ++ tail) (may_by j.ended k.ended m tail later c)
      ∙ ap (λ (x : List ℕ). settled (filter_with t (w ++ x1) (lines_of x))) (sym (append_assoc j.rest m tail))
      ∙ g.settles (w ++ x1) tail c
      ∙ ap (λ (x : List ℕ). settled (filter_at u x k.rest tail)) (append_assoc w x1 x2);
  count = omega (arith, f.count, g.count, length-append p1 p2);
  short = all_behind IsShort p1 p2 f.short g.short;
  same = g.same ∙ ap (λ (x : Sifter). with_queue x u.queue) f.same;
}

nothing_more : (b : List ℕ) (s : Sifter) (h : Held) (t : Sifter) (j : Held) (x : List ℕ) (p : List (List ℕ)) → Goes s h (b ++ []) t j x p → Goes s h b t j x p
nothing_more b s h t j x p g = subst (λ (y : List ℕ). Goes s h y t j x p) (append-nil b) g

-- The same, where nothing was taken in between.
pub goes_then : (s : Sifter) (h : Held) (b : List ℕ) (t : Sifter) (j : Held) (x1 : List ℕ) (p1 : List (List ℕ)) (u : Sifter) (k : Held) (x2 : List ℕ) (p2 : List (List ℕ))
    → (j.ended ≡ true → k.ended ≡ true) → Goes s h b t j x1 p1 → Goes t j j.rest u k x2 p2 → Goes s h b u k (x1 ++ x2) (p1 ++ p2)
goes_then s h b t j x1 p1 u k x2 p2 later f g =
    nothing_more b s h u k (x1 ++ x2) (p1 ++ p2)
    (goes_both s h b t j x1 p1 [] u k x2 p2 (λ e. (refl, later e)) f (subst (λ (y : List ℕ). Goes t j y u k x2 p2) (sym (append-nil j.rest)) g))

-- Nothing further can be done

pub quiet_full : (s : Sifter) (h : Held) → FrontWaits s.queue → IsWithin s → s.room ≤ length s.queue → IsQuiet s h
quiet_full s h front most full w tail c = record { front = front; most = most; end = inr full }

no_lines : (ended : Bool) (rest tail : List ℕ) → ended ≡ true → rest ≡ [] → MayCome ended tail → lines_of (rest ++ tail) ≡ []
no_lines ended rest tail e none c =
    let over : tail ≡ [] = subst (λ (x : Bool). MayCome x tail) e c in
    ap (λ (x : List ℕ). lines_of (x ++ tail)) none ∙ ap (λ (x : List ℕ). lines_of x) over

pub quiet_end : (s : Sifter) (h : Held) → FrontWaits s.queue → IsWithin s → h.ended ≡ true → h.rest ≡ [] → IsQuiet s h
quiet_end s h front most e none w tail c = record { front = front; most = most; end = inl (no_lines h.ended h.rest tail e none c) }

-- All was read before.
pub end_goes : (s : Sifter) (h : Held) (bytes : List ℕ) (j : Held) → bytes ≡ [] → j.rest ≡ [] → j.count ≡ h.count → Goes s h bytes s j [] []
end_goes s h bytes j none empty same = record {
  read = λ tail c. ap (λ (x : List ℕ). lines_of (x ++ tail)) (none ∙ sym empty);
  settles = λ w tail c. ap (λ (x : List ℕ). settled (filter_at s w x tail)) (none ∙ sym empty) ∙ ap (λ (x : List ℕ). settled (filter_at s x j.rest tail)) (sym (append-nil w));
  count = omega (arith, same);
  short = tt;
  same = refl;
}

-- Fronts

settled_begins : (f : Filter) → BeginsWith f.written (settled f).written
unfolding settled
settled_begins f = (_, refl)

pub front_read : (s : Sifter) (h : Held) (b : List ℕ) (t : Sifter) (j : Held) (x : List ℕ) (p : List (List ℕ)) (m : List ℕ) (ended : Bool) → Goes s h b t j x p → j.ended ≡ false → WritesFront s (b ++ m) x ended
front_read s h b t j x p m ended g going w tail c =
    let may : MayCome j.ended (m ++ tail) = subst (λ (e : Bool). MayCome e (m ++ tail)) (sym going) tt in
    subst (λ (f : Filter). BeginsWith (w ++ x) f.written) (sym (g.settles w (m ++ tail) may) ∙ ap (λ (y : List ℕ). settled (filter_with s w (lines_of y))) (sym (append_assoc b m tail)))
    (settled_begins (filter_at t (w ++ x) j.rest (m ++ tail)))

begins_behind : (a y whole rest : List ℕ) → BeginsWith y whole → BeginsWith (a ++ y) (a ++ (whole ++ rest))
begins_behind a y whole rest h =
    (h.0 ++ rest, ap (λ (x : List ℕ). a ++ (x ++ rest)) h.1 ∙ ap (λ (x : List ℕ). a ++ x) (append_assoc y h.0 rest) ∙ sym (append_assoc a y (h.0 ++ rest)))

flush_begins : (s : Sifter) (w y : List ℕ) (u : List (List ℕ)) → BeginsWith y (flushed s.queue).text → BeginsWith (w ++ y) (settled (filter_with s w u)).written
unfolding settled
flush_begins s w y u h =
    let f : Flushed = flushed s.queue in begins_behind w y f.text (filled s.room (ltb (length f.queue) s.room) f.queue u).text h

pub front_written : (s : Sifter) (h : Held) (b : List ℕ) (t : Sifter) (j : Held) (x : List ℕ) (p : List (List ℕ)) (y : List ℕ) → Goes s h b t j x p → BeginsWith y (flushed t.queue).text → WritesFront s b (x ++ y) j.ended
front_written s h b t j x p y g begins w tail c =
    subst (λ (f : Filter). BeginsWith (w ++ (x ++ y)) f.written) (sym (g.settles w tail c))
    (subst (λ (l : List ℕ). BeginsWith l (settled (filter_at t (w ++ x) j.rest tail)).written) (append_assoc w x y) (flush_begins t (w ++ x) y (lines_of (j.rest ++ tail)) begins))

-- A line that is too long

fewer : (room : ℕ) (b : Bool) (q : List Slot) (u : List (List ℕ)) → length (filled room b q u).unread ≤ length u
unfolding filled
fewer room b q [] = omega arith
fewer room false q (l ∷ u) = omega arith
fewer room true q (l ∷ u) =
    let f : Flushed = flushed (q ++ (read l ∷ [])) in
    let k = fewer room (ltb (length f.queue) room) f.queue u in
    omega (arith, k)

reaches : (s : Sifter) (w l : List ℕ) (u : List (List ℕ)) → FrontWaits s.queue → length s.queue < s.room → length (settled (filter_with s w (l ∷ u))).unread ≤ length u
unfolding settled
reaches s w l u front room =
    let f : Flushed = flushed (s.queue ++ (read l ∷ [])) in
    let k = fewer s.room (ltb (length f.queue) s.room) f.queue u in
    subst (λ (x : Filled). length x.unread ≤ length u)
    (sym (ap (λ (g : Flushed). filled_behind s.room g (l ∷ u)) (flushed_waits s.queue front) ∙ ap (λ (x : Filled). behind_text [] x) (filled_true s.room s.queue l u room))) k

pub long_read : (s : Sifter) (h : Held) (b : List ℕ) (t : Sifter) (j : Held) (x : List ℕ) (p : List (List ℕ)) (m : List ℕ) (k : ℕ) → Goes s h b t j x p → j.ended ≡ false → FrontWaits t.queue → length t.queue < t.room
    → j.count ≤ 2 ^ 60 → k ≡ j.count + 1 → ((tail : List ℕ) → NextIsLong j.count ((j.rest ++ m) ++ tail)) → (tail : List ℕ) → ReadsLong s h.count (b ++ m) k tail
long_read s h b t j x p m k g going front room most number long tail =
    let may : MayCome j.ended (m ++ tail) = subst (λ (e : Bool). MayCome e (m ++ tail)) (sym going) tt in
    let n = long tail in
    let next : lines_of (j.rest ++ (m ++ tail)) ≡ n.line ∷ n.behind = ap (λ (y : List ℕ). lines_of y) (sym (append_assoc j.rest m tail)) ∙ n.lines in
    record {
      past = p;
      line = n.line;
      behind = n.behind;
      lines = ap (λ (y : List ℕ). lines_of y) (append_assoc b m tail) ∙ g.read (m ++ tail) may ∙ ap (λ (y : List (List ℕ)). p ++ y) next;
      short = g.short;
      few = subst (λ (c : ℕ). c ≤ 2 ^ 60) g.count most;
      number = omega (arith, number, g.count);
      long = subst (λ (c : ℕ). IsTooLong c n.line) g.count n.long;
      reached = λ w.
          subst (λ (f : Filter). length f.unread ≤ length n.behind)
          (sym (ap (λ (y : List ℕ). settled (filter_with s w (lines_of y))) (append_assoc b m tail) ∙ g.settles w (m ++ tail) may ∙ ap (λ (u : List (List ℕ)). settled (filter_with t (w ++ x) u)) next))
          (reaches t (w ++ x) n.line n.behind front room);
    }
