-- What is read of an input.
use Rattle.std.proofs.Common.{◌≡◌, ◌≢◌, ℕ, zero, suc, ◌+◌, ◌<◌, ◌≤◌, ◌⊎◌, inl, inr, true, false, true≢false, List, [], ◌∷◌, ◌++◌, length, take, refl, ap, sym, ◌∙◌, subst, arith, append_assoc, length-append}
use Rattle.std.specs.List.{slice_index}
use Rattle.std.proofs.lemmas.List.{append-nil, take_all, get_or_append_left}
use Rattle.std.specs.Io.KnownBytes.{IsAtEnd}
use Rattle.std.specs.declared.option.Option.{Option}
use Rattle.dc_model.specs.Rules.{lines_of}
use Rattle.dc_script.specs.Lines.{IsOneLine}
use Rattle.dc_sieve.specs.Input.{Held, MayCome, IsShort, IsTooLong, NextIsLong, Counts, Reads}
use Rattle.dc_sieve.specs.declared.input.Read.{Read}
use Rattle.dc_sieve.specs.declared.input.Read.TheVariants.{Line, End, Long, Failed}
use Rattle.dc_sieve.proofs.LineLemmas.{head_off, tail_off, lines_off, lines_last, lines_long}

-- A line that was found is too long.
pub found_long : (before : ℕ) (l r bytes tail : List ℕ) → bytes ≡ l ++ (10 ∷ r) → IsOneLine l → IsTooLong before l → NextIsLong before (bytes ++ tail)
found_long before l r bytes tail is h long = record {
  line = l;
  behind = lines_of (r ++ tail);
  lines = ap (λ x. lines_of (x ++ tail)) is ∙ lines_off l r tail h;
  long = long;
}

long_by : (before n : ℕ) (l x : List ℕ) → n ≡ length l → n ≤ length x → IsTooLong before l → IsTooLong before x
long_by before n l x is k (inl h) = inl (omega (arith, is, k, h))
long_by before n l x is k (inr h) = inr h

one_line_front : (bytes : List ℕ) → IsOneLine bytes → IsOneLine (take (length bytes) bytes)
one_line_front bytes h = subst (λ x. IsOneLine x) (sym (take_all (length bytes) bytes (omega arith))) h

-- A last line is too long.
pub last_long : (before : ℕ) (l tail : List ℕ) → 0 < length l → IsOneLine l → IsTooLong before l → NextIsLong before (l ++ tail)
last_long before l tail p h long =
    let k = lines_long (length l) l tail p (omega arith) (one_line_front l h) in
    record { line = k.line; behind = k.behind; lines = k.lines; long = long_by before (length l) l k.line refl k.long long }

-- So many bytes without a line feed.
pub far_long : (before n : ℕ) (bytes tail : List ℕ) → 4096 < n → n ≤ length bytes → IsOneLine (take n bytes) → NextIsLong before (bytes ++ tail)
far_long before n bytes tail p l h =
    let k = lines_long n bytes tail (omega (arith, p)) l h in
    record { line = k.line; behind = k.behind; lines = k.lines; long = inl (omega (arith, p, k.long)) }

-- A line that is ended by one line feed more.
pub record Ended (l line rest : List ℕ) : Type 0 where
  pub line_is : line ≡ l
  pub rest_is : rest ≡ []

same_end : (l line rest : List ℕ) → IsOneLine l → IsOneLine line → l ++ (10 ∷ []) ≡ line ++ (10 ∷ rest) → Ended l line rest
same_end [] [] rest h k e = record { line_is = refl; rest_is = cc }
same_end [] (c ∷ cs) rest h k e = absurd (head_off c cs k (cc (e)))
same_end (c ∷ cs) [] rest h k e = absurd (head_off c cs h (cc (e)))
same_end (c ∷ cs) (d ∷ ds) rest h k e =
    let more = same_end cs ds rest (tail_off c cs h) (tail_off d ds k) (cc (e)) in
    let same : c ≡ d = cc (e) in
    record { line_is = cc (more.line_is, same); rest_is = more.rest_is }

holds_feed : (l r rest : List ℕ) → IsOneLine (l ++ (10 ∷ r)) → ⊥
holds_feed [] r rest h = h 0 (omega arith) refl
holds_feed (c ∷ cs) r rest h = holds_feed cs r rest (tail_off c (cs ++ (10 ∷ r)) h)

-- The line feed was taken.
pub ended_by : (l more left line rest : List ℕ) → IsOneLine l → IsOneLine line → (10 ∷ []) ≡ more ++ left → l ++ more ≡ line ++ (10 ∷ rest) → Ended l line rest
ended_by l [] left line rest h k fed is = absurd (holds_feed line rest rest (subst (λ x. IsOneLine x) (sym (append-nil l) ∙ is) h))
ended_by l (c ∷ []) left line rest h k fed is =
    let ten : c ≡ 10 = cc (fed) in
    same_end l line rest h k (ap (λ x. l ++ (x ∷ [])) (sym ten) ∙ is)
ended_by l (c ∷ d ∷ more) left line rest h k fed is = absurd (omega (arith, ap (λ (x : List ℕ). length x) fed))

-- It is never left.
pub not_ended : (l more left : List ℕ) → (10 ∷ []) ≡ more ++ left → left ≡ [] → IsOneLine (l ++ more) → ⊥
not_ended l more left fed none h =
    let is : more ≡ 10 ∷ [] = sym (fed ∙ ap (λ x. more ++ x) none ∙ append-nil more) in
    holds_feed l [] [] (subst (λ x. IsOneLine (l ++ x)) is h)

-- A line of more than 131200 bytes, but for a line feed behind it.
pub far_last : (before : ℕ) (l more left tail : List ℕ) → (10 ∷ []) ≡ more ++ left → IsOneLine l → 131200 < length (l ++ more) → NextIsLong before (l ++ tail)
far_last before l more left tail fed h far =
    let fed_length : 1 ≡ length more + length left = ap (λ (x : List ℕ). length x) fed ∙ length-append more left in
    let whole = length-append l more in
    far_long before (length l) l tail (omega (arith, far, whole, fed_length)) (omega arith) (one_line_front l h)

-- A last line was found.
pub last_reads : (r : Read) (old mid new : Held) (left : Option (List ℕ)) → Counts r mid new → mid.count ≡ old.count → mid.line ≡ old.rest → mid.rest ≡ [] → mid.ended ≡ true → new.ended ≡ mid.ended → old.ended ≡ false
    → IsOneLine old.rest → 0 < length old.rest → IsAtEnd left → Reads r old old.rest new left
last_reads Line old mid new left k count line rest ended same going one some end =
    let new_line : new.line ≡ old.rest = ap (λ (x : Held). x.line) k.2 ∙ line in
    let new_rest : new.rest ≡ [] = ap (λ (x : Held). x.rest) k.2 ∙ rest in
    record {
      lines = λ tail c.
          let none : tail ≡ [] = subst (λ b. MayCome b tail) (same ∙ ended) c in
          ap (λ (x : List ℕ). lines_of (old.rest ++ x)) none ∙ lines_last old.rest some one
          ∙ ap (λ (x : List ℕ). x ∷ lines_of ([] ++ [])) (sym new_line) ∙ ap (λ (x : List ℕ). new.line ∷ lines_of (x ++ [])) (sym new_rest) ∙ ap (λ (x : List ℕ). new.line ∷ lines_of (new.rest ++ x)) (sym none);
      short = subst (λ (x : List ℕ). IsShort x) (sym (ap (λ (x : Held). x.line) k.2)) k.0;
      few = omega (arith, k.1, count);
      count = ap (λ (x : Held). x.count) k.2 ∙ ap (λ n. n + 1) count;
      end = λ e. (new_rest, end);
      going = going;
    }
last_reads (Long n) old mid new left k count line rest ended same going one some end = (
  going,
  k.0 ∙ ap (λ m. m + 1) count,
  (λ tail. last_long old.count old.rest tail some one (subst (λ (x : List ℕ). IsTooLong old.count x) line (subst (λ m. IsTooLong m mid.line) count k.1))),
  (λ e. end),
)
last_reads End old mid new left k count line rest ended same going one some end = absurd k
last_reads Failed old mid new left k count line rest ended same going one some end = absurd k

-- A line was found.
pub found_reads : (r : Read) (old mid new : Held) (bytes : List ℕ) (left : Option (List ℕ)) → Counts r mid new → mid.count ≡ old.count → new.ended ≡ old.ended → old.ended ≡ false
    → bytes ≡ mid.line ++ (10 ∷ mid.rest) → IsOneLine mid.line → Reads r old bytes new left
found_reads Line old mid new bytes left k count same going is one =
    let new_line : new.line ≡ mid.line = ap (λ (x : Held). x.line) k.2 in
    let new_rest : new.rest ≡ mid.rest = ap (λ (x : Held). x.rest) k.2 in
    record {
      lines = λ tail c.
          ap (λ (x : List ℕ). lines_of (x ++ tail)) is ∙ lines_off mid.line mid.rest tail one
          ∙ ap (λ (x : List ℕ). x ∷ lines_of (mid.rest ++ tail)) (sym new_line) ∙ ap (λ (x : List ℕ). new.line ∷ lines_of (x ++ tail)) (sym new_rest);
      short = subst (λ (x : List ℕ). IsShort x) (sym new_line) k.0;
      few = omega (arith, k.1, count);
      count = ap (λ (x : Held). x.count) k.2 ∙ ap (λ n. n + 1) count;
      end = λ e. absurd (true≢false (sym e ∙ same ∙ going));
      going = going;
    }
found_reads (Long n) old mid new bytes left k count same going is one = (
  going,
  k.0 ∙ ap (λ m. m + 1) count,
  (λ tail. found_long old.count mid.line mid.rest bytes tail is one (subst (λ m. IsTooLong m mid.line) count k.1)),
  (λ e. absurd (true≢false (sym e ∙ same ∙ going))),
)
found_reads End old mid new bytes left k count same going is one = absurd k
found_reads Failed old mid new bytes left k count same going is one = absurd k

-- The last line stood there before.
pub reads_from : (r : Read) (old mid new : Held) (bytes : List ℕ) (left : Option (List ℕ)) → mid.count ≡ old.count → mid.ended ≡ old.ended → mid.rest ≡ bytes → Reads r mid mid.rest new left → Reads r old bytes new left
reads_from Line old mid new bytes left count ended is h = record {
  lines = λ tail c. ap (λ (x : List ℕ). lines_of (x ++ tail)) (sym is) ∙ h.lines tail c;
  short = h.short;
  few = omega (arith, h.few, count);
  count = h.count ∙ ap (λ n. n + 1) count;
  end = h.end;
  going = sym ended ∙ h.going;
}
reads_from End old mid new bytes left count ended is h = record { none = sym is ∙ h.none; rest = h.rest; count = h.count ∙ count; ended = h.ended; end = h.end }
reads_from (Long k) old mid new bytes left count ended is h = (
  sym ended ∙ h.0,
  h.1 ∙ ap (λ n. n + 1) count,
  (λ tail. subst (λ n. NextIsLong n (bytes ++ tail)) count (subst (λ (x : List ℕ). NextIsLong mid.count (x ++ tail)) is (h.2 tail))),
  h.3,
)
reads_from Failed old mid new bytes left count ended is h = (sym ended ∙ h.0, h.1 ∙ is, h.2)
