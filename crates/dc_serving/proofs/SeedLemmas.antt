-- Taking a seed off the front of a source, piece by piece.
use Rattle.std.proofs.Common.{◌≡◌, ℕ, ◌+◌, ◌-◌, ◌<◌, ◌≤◌, List, ◌++◌, length, take, drop, ap, sym, ◌∙◌, arith, subst, le_refl, drop_at, take_all, length-take-le, length-take, length-drop, length-append}
use Rattle.std.proofs.lemmas.Slice.{take-put_mid_below}
use borrow.Rule.Slice.PartMut.{put_mid, post_of}
use lib.Seq.{take-add, take-append-le}

-- The bytes that were taken stand at the front of the place for the seed.
pub record SeedSoFar {S : Type 0} (took : S → List ℕ → S → Type 0) (before now : S) (seed : List ℕ) (count : ℕ) : Type 0 where
  pub room : length seed ≡ 32
  pub within : count ≤ 32
  pub taken : took before (take count seed) now

-- Bytes and then others.
abbrev pub Joins : {S : Type 0} → (S → List ℕ → S → Type 0) → Type 0
Joins {S} took = (a b c : S) (xs ys : List ℕ) → took a xs b → took b ys c → took a (xs ++ ys) c

-- The bytes that are written behind those at the front.
front_grows : (count more k : ℕ) (seed part : List ℕ) → count ≤ length seed → more ≤ length part
    → take (count + more) (put_mid count k seed part) ≡ take count seed ++ take more part
front_grows count more k seed part within fits =
    let placed = put_mid count k seed part in
    let behind = post_of count k seed in
    let front : take count placed ≡ take count seed = take-put_mid_below count k seed part count (le_refl count) within in
    let rest : drop count placed ≡ part ++ behind = drop_at (take count seed) (part ++ behind) count (length-take-le count seed within) in
    take-add count more placed ∙ ap (λ l. l ++ take more (drop count placed)) front
    ∙ ap (λ l. take count seed ++ take more l) rest ∙ ap (λ l. take count seed ++ l) (take-append-le more part behind fits)

same_length : (count k : ℕ) (seed part : List ℕ) → count ≤ length seed → length part ≡ length (take k (drop count seed)) → length (put_mid count k seed part) ≡ length seed
same_length count k seed part within fits =
    omega (
      arith,
      fits,
      length-append (take count seed) (part ++ post_of count k seed),
      length-append part (post_of count k seed),
      length-take-le count seed within,
      length-take k (drop count seed),
      length-drop k (drop count seed),
      length-drop count seed,
    )

pub further : {S : Type 0} (took : S → List ℕ → S → Type 0) → Joins took → (before mid new : S) (seed part : List ℕ) (count more : ℕ)
    → SeedSoFar took before mid seed count → length part ≡ length (take (32 - count) (drop count seed)) → more ≤ length part → took mid (take more part) new
    → SeedSoFar took before new (put_mid count (32 - count) seed part) (count + more)
further took both before mid new seed part count more s fits most t =
    let room : length seed ≡ 32 = s.room in
    let within : count ≤ 32 = s.within in
    let within' : count ≤ length seed = omega (arith, room, within) in
    let joined = both before mid new (take count seed) (take more part) s.taken t in
    record {
      room = same_length count (32 - count) seed part within' fits ∙ room;
      within = omega (arith, room, within, fits, most, length-take (32 - count) (drop count seed), length-drop count seed);
      taken = subst (λ l. took before l new) (sym (front_grows count more (32 - count) seed part within' most)) joined;
    }

-- Where nothing more was taken, the bytes are fewer than a seed has.
pub cut_short : {S : Type 0} (took : S → List ℕ → S → Type 0) → Joins took → (before mid new : S) (seed none : List ℕ) (count : ℕ)
    → SeedSoFar took before mid seed count → took mid none new → length none ≡ 0 → count < 32 → (bytes : List ℕ) × took before bytes new × (length bytes < 32)
cut_short took both before mid new seed none count s t e few =
    let room : length seed ≡ 32 = s.room in
    let front : length (take count seed) ≡ count = length-take-le count seed (omega (arith, room, few)) in
    (take count seed ++ none, both before mid new (take count seed) none s.taken t, omega (arith, front, e, few, length-append (take count seed) none))

-- Where all were taken, they are the seed.
pub whole : {S : Type 0} (took : S → List ℕ → S → Type 0) (before now : S) (seed : List ℕ) (count : ℕ) → SeedSoFar took before now seed count → 32 ≤ count
    → (bytes : List ℕ) × took before bytes now × ((bytes ≡ seed) × (length bytes ≡ 32))
whole took before now seed count s all =
    let room : length seed ≡ 32 = s.room in
    let same : take count seed ≡ seed = take_all count seed (omega (arith, room, all)) in
    (take count seed, s.taken, (same, ap length same ∙ room))
