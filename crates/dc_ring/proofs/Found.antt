-- A look-up in the block finds what one in the cache finds.
use Rattle.std.proofs.Common.{◌≡◌, ℕ, ◌+◌, zero, suc, Bool, true, false, if◌then◌else◌, ◌==◌, List, [], ◌∷◌, ◌++◌, length, take, refl, sym, ◌∙◌, ap, subst, Option, Some, None, option_and_then}
use Rattle.std.specs.Prelude.{bytes_eq, find, filter}
use Rattle.dc_model.specs.Block.{part}
use Rattle.dc_model.specs.Chain.{place_of, key_at}
use Rattle.dc_model.specs.Cache.{Entry, Cache, hsize, bucket, in_bucket, found, hit_of}
use Rattle.dc_model.specs.Layout.{Place, EntryAt, IsHead, chain, Stands, Held, Holds}
use Rattle.dc_model.specs.Layout.{end_to_end, Layout}
use Rattle.dc_ring.specs.Ring.{cache_of, IsRing}
use Rattle.dc_ring.specs.declared.ArenaStore.TheInside.{Inside}
use Rattle.dc_ring.proofs.Seal.{opened}
use Rattle.dc_model.proofs.SizeLemmas.{bucket_head}

abbrev pub entries_of : List Place → List Entry
entries_of [] = []
entries_of (p ∷ ps) = p.entry ∷ entries_of ps

placed_entries : (base : ℕ) (es : List Entry) → entries_of (end_to_end base es) ≡ es
placed_entries base [] = refl
placed_entries base (e ∷ es) = ap (λ (l : List Entry). e ∷ l) (placed_entries base es)

both_entries : (ps qs : List Place) → entries_of (ps ++ qs) ≡ entries_of ps ++ entries_of qs
both_entries [] qs = refl
both_entries (p ∷ ps) qs = ap (λ (l : List Entry). p.entry ∷ l) (both_entries ps qs)

pub all_entries : (x y : ℕ) (es fs : List Entry) → entries_of (end_to_end x es ++ end_to_end y fs) ≡ es ++ fs
all_entries x y es fs = both_entries (end_to_end x es) (end_to_end y fs) ∙ (λ i. placed_entries x es i ++ placed_entries y fs i)

-- a place and the entry that stands there, or none of either
abbrev pub Meets : List ℕ → ℕ → Option ℕ → Option Entry → Type 0
Meets b size None None = Unit {0}
Meets b size None (Some e) = ⊥
Meets b size (Some p) None = ⊥
Meets b size (Some p) (Some e) = Stands b size (record { at = p; entry = e })

key_is : (b : List ℕ) (p : Place) → EntryAt b p.at p.entry → key_at b p.at ≡ p.entry.key
key_is b p e = ap (part b (p.at + 20)) e.key_len ∙ e.key

meets_test : (b : List ℕ) (size : ℕ) (t : Bool) (p : Place) (x : Option ℕ) (y : Option Entry) → Stands b size p → Meets b size x y → Meets b size (if t then Some p.at else x) (if t then Some p.entry else y)
meets_test b size true p x y s m = s
meets_test b size false p x y s m = m

meets_taken : (b : List ℕ) (size n : ℕ) (key : List ℕ) (p : Place) (ls : List ℕ) (es : List Entry) → Stands b size p
    → ((m : ℕ) → Meets b size (place_of m b key ls) (find (λ e. bytes_eq e.key key) (take m es)))
    → Meets b size (place_of n b key (p.at ∷ ls)) (find (λ e. bytes_eq e.key key) (take n (p.entry ∷ es)))
meets_taken b size zero key p ls es s r = tt
meets_taken b size (suc n) key p ls es s r =
    let P : List ℕ → Type 0 = λ k. Meets b size (if bytes_eq k key then Some p.at else place_of n b key ls) (if bytes_eq p.entry.key key then Some p.entry else find (λ e. bytes_eq e.key key) (take n es)) in
    subst P (sym (key_is b p s.bytes)) (meets_test b size (bytes_eq p.entry.key key) p _ _ s (r n))

meets_chosen : (b : List ℕ) (size n : ℕ) (key : List ℕ) (t : Bool) (p : Place) (ls : List ℕ) (es : List Entry) → Stands b size p
    → ((m : ℕ) → Meets b size (place_of m b key ls) (find (λ e. bytes_eq e.key key) (take m es)))
    → Meets b size (place_of n b key (if t then p.at ∷ ls else ls)) (find (λ e. bytes_eq e.key key) (take n (if t then p.entry ∷ es else es)))
meets_chosen b size n key true p ls es s r = meets_taken b size n key p ls es s r
meets_chosen b size n key false p ls es s r = r n

none_meet : (b : List ℕ) (size n : ℕ) (key : List ℕ) → Meets b size (place_of n b key []) (find (λ e. bytes_eq e.key key) (take n []))
none_meet b size zero key = tt
none_meet b size (suc n) key = tt

pub meets : (b : List ℕ) (size n : ℕ) (key : List ℕ) (ps : List Place) → Held b size ps
    → Meets b size (place_of n b key (chain size (bucket size key) ps)) (find (λ e. bytes_eq e.key key) (take n (filter (λ e. (bucket size e.key == bucket size key)) (entries_of ps))))
meets b size n key [] d = none_meet b size n key
meets b size n key (p ∷ ps) d = meets_chosen b size n key (bucket size p.entry.key == bucket size key) p _ _ d.0 (λ m. meets b size m key ps d.1.1)

-- what the place says of the look-up
pub found_meets : (b : List ℕ) (w o u : ℕ) (c : Cache) (key : List ℕ) → Layout b w o u c
    → Meets b c.size (place_of 101 b key (chain c.size (bucket c.size key) (end_to_end (hsize c.size) c.young ++ end_to_end o c.old))) (found key c)
found_meets b w o u c key h =
    let P : List Entry → Type 0 = λ l. Meets b c.size (place_of 101 b key (chain c.size (bucket c.size key) (end_to_end (hsize c.size) c.young ++ end_to_end o c.old))) (find (λ e. bytes_eq e.key key) (take 101 (filter (in_bucket c.size key) l))) in
    subst P (all_entries (hsize c.size) o c.young c.old) (meets b c.size 101 key (end_to_end (hsize c.size) c.young ++ end_to_end o c.old) h.holds.held)

pub nothing : (b : List ℕ) (size now : ℕ) (x : Option Entry) → Meets b size None x → None ≡ option_and_then (hit_of now) x
nothing b size now None m = refl
nothing b size now (Some e) m = absurd m

pub something : (b : List ℕ) (size p : ℕ) (x : Option Entry) → Meets b size (Some p) x → (e : Entry) × (x ≡ Some e) × Stands b size (record { at = p; entry = e })
something b size p None m = absurd m
something b size p (Some e) m = (e, refl, m)

module _ (a : Inside) (s : Cache) (key : List ℕ) (head : ℕ) (v : cache_of a ≡ s) (r : IsRing a) (q : head ≡ bucket (length a.chains) key) where
  abbrev pub its_places : List Place
  its_places = end_to_end (hsize s.size) s.young ++ end_to_end a.oldest s.old

  pub its_head : IsHead (length a.chains) head
  its_head = let P : ℕ → Type 0 = λ h. IsHead (length a.chains) h in subst P (sym q) (bucket_head (length a.chains) key)

  pub its_holds : Holds a.chains (length a.chains) its_places
  its_holds = let l = opened a s v r in let P : ℕ → Type 0 = λ n. Holds a.chains n its_places in subst P (sym l.holds.block) l.holds

  pub found_at : (x : Option ℕ) → x ≡ place_of 101 a.chains key (chain (length a.chains) head its_places) → Meets a.chains (length a.chains) x (found key s)
  found_at x e =
      let l = opened a s v r in
      let home_is : head ≡ bucket s.size key = q ∙ ap (λ n. bucket n key) l.holds.block in
      let f : x ≡ place_of 101 a.chains key (chain s.size (bucket s.size key) its_places) = e ∙ (λ i. place_of 101 a.chains key (chain (l.holds.block i) (home_is i) its_places)) in
      let P : ℕ → Type 0 = λ n. Meets a.chains n x (found key s) in
      let Q : Option ℕ → Type 0 = λ y. Meets a.chains s.size y (found key s) in
      subst P (sym l.holds.block) (subst Q (sym f) (found_meets a.chains a.writer a.oldest a.unused s key l))

  -- the entry that was found, at its place
  pub found_entry : (at : ℕ) → Some at ≡ place_of 101 a.chains key (chain (length a.chains) head its_places) → (e : Entry) × (found key s ≡ Some e) × Stands a.chains (length a.chains) (record { at = at; entry = e })
  found_entry at e = something a.chains (length a.chains) at (found key s) (found_at (Some at) e)
