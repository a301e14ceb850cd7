-- Filling a buffer from a source, piece by piece.
use Rattle.std.proofs.Common.{◌≡◌, ℕ, ◌+◌, ◌-◌, ◌≤◌, List, ◌++◌, length, take, drop, ap, sym, ◌∙◌, arith, subst, le_refl, drop_at, length-take-le, length-take, length-drop, length-append}
use Rattle.std.proofs.lemmas.Slice.{take-put_mid_below}
use borrow.Rule.Slice.PartMut.{put_mid, post_of}
use lib.Seq.{take-add, take-append-le}

-- The bytes that were taken stand at the front of the buffer.
pub record TakenSoFar {S : Type 0} (took : S → List ℕ → S → Type 0) (before now : S) (room : ℕ) (buffer : List ℕ) (count : ℕ) : Type 0 where
  pub same : length buffer ≡ room
  pub within : count ≤ room
  pub taken : took before (take count buffer) now

-- Bytes and then others.
abbrev pub Joins : {S : Type 0} → (S → List ℕ → S → Type 0) → Type 0
Joins {S} took = (a b c : S) (xs ys : List ℕ) → took a xs b → took b ys c → took a (xs ++ ys) c

-- The bytes that are written behind those at the front.
front_grows : (count more k : ℕ) (buffer part : List ℕ) → count ≤ length buffer → more ≤ length part
    → take (count + more) (put_mid count k buffer part) ≡ take count buffer ++ take more part
front_grows count more k buffer part within fits =
    let placed = put_mid count k buffer part in
    let behind = post_of count k buffer in
    let front : take count placed ≡ take count buffer = take-put_mid_below count k buffer part count (le_refl count) within in
    let rest : drop count placed ≡ part ++ behind = drop_at (take count buffer) (part ++ behind) count (length-take-le count buffer within) in
    take-add count more placed ∙ ap (λ l. l ++ take more (drop count placed)) front
    ∙ ap (λ l. take count buffer ++ take more l) rest ∙ ap (λ l. take count buffer ++ l) (take-append-le more part behind fits)

same_length : (count k : ℕ) (buffer part : List ℕ) → count ≤ length buffer → length part ≡ length (take k (drop count buffer)) → length (put_mid count k buffer part) ≡ length buffer
same_length count k buffer part within fits =
    omega (
      arith,
      fits,
      length-append (take count buffer) (part ++ post_of count k buffer),
      length-append part (post_of count k buffer),
      length-take-le count buffer within,
      length-take k (drop count buffer),
      length-drop k (drop count buffer),
      length-drop count buffer,
    )

pub further : {S : Type 0} (took : S → List ℕ → S → Type 0) → Joins took → (before mid new : S) (room : ℕ) (buffer part : List ℕ) (count more : ℕ)
    → TakenSoFar took before mid room buffer count → length part ≡ length (take (length buffer - count) (drop count buffer)) → more ≤ length part → took mid (take more part) new
    → TakenSoFar took before new room (put_mid count (length buffer - count) buffer part) (count + more)
further took both before mid new room buffer part count more s fits most t =
    let same : length buffer ≡ room = s.same in
    let within : count ≤ room = s.within in
    let within' : count ≤ length buffer = omega (arith, same, within) in
    let joined = both before mid new (take count buffer) (take more part) s.taken t in
    record {
      same = same_length count (length buffer - count) buffer part within' fits ∙ same;
      within = omega (arith, same, within, fits, most, length-take (length buffer - count) (drop count buffer), length-drop count buffer);
      taken = subst (λ l. took before l new) (sym (front_grows count more (length buffer - count) buffer part within' most)) joined;
    }

-- Nothing more was taken.
pub no_further : {S : Type 0} (took : S → List ℕ → S → Type 0) → Joins took → (before mid new : S) (room : ℕ) (buffer part : List ℕ) (count more : ℕ)
    → TakenSoFar took before mid room buffer count → length part ≡ length (take (length buffer - count) (drop count buffer)) → more ≡ 0 → took mid (take more part) new
    → TakenSoFar took before new room (put_mid count (length buffer - count) buffer part) count
no_further took both before mid new room buffer part count more s fits none t =
    let e : count + more ≡ count = omega (arith, none) in
    subst (λ n. TakenSoFar took before new room (put_mid count (length buffer - count) buffer part) n) e
    (further took both before mid new room buffer part count more s fits (omega (arith, none)) t)
