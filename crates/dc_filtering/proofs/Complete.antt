-- Why filtering isn't done.
use Rattle.std.proofs.Common.{◌≡◌, ◌≢◌, ℕ, ◌+◌, ◌<◌, ◌≤◌, ◌^◌, ◌⊎◌, inl, inr, Bool, true, false, true≢false, List, [], ◌∷◌, ◌++◌, length, refl, sym, ◌∙◌, ap, subst, arith, length-append}
use Rattle.std.specs.List.{AllByRecursion}
use Rattle.dc_lookup.specs.Filter.{Filter, is_at_end}
use Rattle.dc_sieve.specs.Input.{IsShort, IsTooLong}
use Rattle.dc_sieve.specs.Sifted.{Closes, IsLong}
use Rattle.dc_stub.specs.declared.status.ToolStatus.{ToolStatus}
use Rattle.dc_stub.specs.declared.status.ToolStatus.TheVariants.{Done, Usage, NoAnswer, NoPort, Malformed, Ended, Spent, FilesFault, WriteFault, WorldFault, BadScript, NoMemory, ReadFault, LongLine}

going_on : (b : Bool) (P : Type 0) → b ≡ false → b ≡ true → P
going_on b P h e = absurd (true≢false (sym e ∙ h))

-- The line behind others is short.
short_at : (past : List (List ℕ)) (line : List ℕ) (behind : List (List ℕ)) → AllByRecursion IsShort (past ++ (line ∷ behind)) → IsShort line
short_at [] line behind h = h.0
short_at (l ∷ past) line behind h = short_at past line behind h.1

-- Where all lines are short and few, none is too long.
none_long : (lines : List (List ℕ)) (f : Filter) (k : ℕ) → IsLong lines f k → AllByRecursion IsShort lines → length lines ≤ 2 ^ 60 → ⊥
none_long lines f k h short few =
    let all = length-append h.past (h.line ∷ h.behind) in
    let many : length lines ≡ length (h.past ++ (h.line ∷ h.behind)) = ap (λ (x : List (List ℕ)). length x) h.parts in
    let is : IsShort h.line = short_at h.past h.line h.behind (subst (λ (x : List (List ℕ)). AllByRecursion IsShort x) h.parts short) in
    by h.long is (omega (arith, all, many, few))
  where
    by : IsTooLong (length h.past) h.line → IsShort h.line → length h.past + 1 ≤ 2 ^ 60 → ⊥
    by (inl long) is room = absurd (omega (arith, long, is))
    by (inr last) is room = absurd (omega (arith, last, room))

pub filtered_done : (status : ToolStatus) (lines : List (List ℕ)) (f : Filter) (text : List ℕ) (count limit : ℕ) (used_up : Type 0) (broken : ℕ → Type 0) (at_end : Type 0)
    → Closes status lines f text count limit used_up broken at_end → is_at_end f ≡ true → AllByRecursion IsShort lines → length lines ≤ 2 ^ 60 → status ≢ ReadFault → status ≢ WriteFault → status ≡ Done
filtered_done Done lines f text count limit used_up broken at_end k e short few r w = refl
filtered_done Usage lines f text count limit used_up broken at_end k e short few r w = absurd k
filtered_done NoAnswer lines f text count limit used_up broken at_end k e short few r w = absurd k
filtered_done NoPort lines f text count limit used_up broken at_end k e short few r w = absurd k
filtered_done Malformed lines f text count limit used_up broken at_end k e short few r w = absurd k
filtered_done Ended lines f text count limit used_up broken at_end k e short few r w = going_on (is_at_end f) _ k.0 e
filtered_done Spent lines f text count limit used_up broken at_end k e short few r w = going_on (is_at_end f) _ k.0 e
filtered_done FilesFault lines f text count limit used_up broken at_end k e short few r w = absurd k
filtered_done WriteFault lines f text count limit used_up broken at_end k e short few r w = absurd (w refl)
filtered_done WorldFault lines f text count limit used_up broken at_end k e short few r w = going_on (is_at_end f) _ k.0 e
filtered_done (BadScript n) lines f text count limit used_up broken at_end k e short few r w = going_on (is_at_end f) _ k.0 e
filtered_done NoMemory lines f text count limit used_up broken at_end k e short few r w = absurd k
filtered_done ReadFault lines f text count limit used_up broken at_end k e short few r w = absurd (r refl)
filtered_done (LongLine n) lines f text count limit used_up broken at_end k e short few r w = absurd (none_long lines f n k.1 short few)
