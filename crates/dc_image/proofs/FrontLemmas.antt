-- The newest entry of each bucket, while a block is gone over.
use Rattle.std.proofs.Common.{◌≡◌, ℕ, ◌+◌, ◌*◌, ◌-◌, ◌/◌, ◌%◌, ◌<◌, ◌≤◌, ◌^◌, suc, Bool, true, false, nat_eq, if◌then◌else◌, ◌==◌, List, [], ◌∷◌, ◌++◌, length, get_or, replicate, refl, sym, ◌∙◌, ap, subst, arith, ⊎_elim, append_assoc}
use Rattle.std.proofs.Math.ListN.{set}
use Rattle.std.specs.Prelude.{bit_xor}
use Rattle.std.specs.Int.Bits.{xor_self, xor_zero_l, xor_zero_r, xor_assoc}
use Rattle.std.proofs.lemmas.Bool.{cases_eq, eq-eqb}
use Rattle.std.proofs.lemmas.Grind.{common_steps}
use Rattle.std.proofs.lemmas.List.{get_or-replicate, get_or-set_same, get_or-set_other, length-take, length-drop, append-nil}
use Rattle.std.proofs.Math.ListN.{length-set}
use Rattle.std.proofs.Math.Nat.{pow-succ'}
use Rattle.std.proofs.lemmas.List.{length-replicate}
use Rattle.dc_model.specs.Block.{get4, part}
use Rattle.dc_model.specs.Cache.{Entry, Cache, hsize, bucket, total, entry_size}
use Rattle.dc_model.specs.Chain.{first}
use Rattle.dc_model.specs.Layout.{Place, EntryAt, IsShort, IsHead, chain, end_to_end, entry_read, next_place}
use Rattle.dc_model.proofs.SizeLemmas.{hsize_power, bucket_head}
use Rattle.dc_model.proofs.ImageLemmas.{entry_is}
use Rattle.dc_image.specs.Image.{Marked}
use Rattle.dc_image.specs.Gathered.{HasLayout, Lies, AreLinked, InOrder, BehindNewest, IsNewest, GoesOn}
use Rattle.dc_image.specs.Fronts.{IsFront, no_front, Fits, AreBehind, AreNewest, AreNoted, place_read}
use Rattle.dc_image.specs.declared.fronts.Front.{Front}
use Rattle.dc_image.specs.declared.fronts.Fronts.{Fronts}
use Rattle.dc_image.proofs.GatherLemmas.{found_layout, layout_found, links_more, links_less, links_whole, whole_links, lies_next, lies_up, none_listed}

-- Numbers

xor_back : (a b : ℕ) → bit_xor (bit_xor a b) b ≡ a
xor_back a b = xor_assoc a b b ∙ ap (bit_xor a) (xor_self b) ∙ xor_zero_r a

pub index_fits : (n heads head : ℕ) → 4 * n ≡ heads → head % 4 ≡ 0 → head + 4 ≤ heads → head / 4 < n
index_fits n heads head c w h = omega (arith, c, w, h)

other_index : (h k : ℕ) → h % 4 ≡ 0 → k % 4 ≡ 0 → (h ≡ k → ⊥) → (h / 4 ≡ k / 4 → ⊥)
other_index h k p q n e = n (omega (arith, p, q, e))

-- One bucket

pub newest_is : (b : List ℕ) (ps : List ℕ) (f : Front) → IsFront b ps f → f.newest ≡ first ps
newest_is b [] f h = h
newest_is b (p ∷ ps) f h = h.0

pub fits_newest : (b : List ℕ) (q : ℕ) (ps : List ℕ) (f : Front) → IsFront b ps f → Fits f q → IsNewest b q ps
unfolding IsNewest
fits_newest b q [] f h k = tt
fits_newest b q (p ∷ ps) f h k =
    let n : f.newest ≡ p = h.0 in
    let l : 0 < p = h.1 in
    let e : bit_xor (get4 b p) (first ps) ≡ q = sym h.2 ∙ k (omega arith) in
    sym (xor_back (get4 b p) (first ps)) ∙ ap (λ x. bit_xor x (first ps)) e

pub newest_fits : (b : List ℕ) (q : ℕ) (ps : List ℕ) (f : Front) → IsFront b ps f → IsNewest b q ps → Fits f q
unfolding IsNewest
newest_fits b q [] f h n = λ l. absurd (omega (arith, h, l))
newest_fits b q (p ∷ ps) f h n = λ l. h.2 ∙ ap (λ x. bit_xor x (first ps)) n ∙ xor_back q (first ps)

-- Chains

pub chain_hit : (size head : ℕ) (p : Place) (ps : List Place) → bucket size p.entry.key ≡ head → chain size head (p ∷ ps) ≡ p.at ∷ chain size head ps
chain_hit size head p ps e = ap (λ t. if t then p.at ∷ chain size head ps else chain size head ps) (eq-eqb (bucket size p.entry.key) head e)

not_same : (a b : ℕ) → (a ≡ b → ⊥) → nat_eq a b ≡ false
not_same a b n = grind (arith, common_steps)

pub chain_miss : (size head : ℕ) (p : Place) (ps : List Place) → (bucket size p.entry.key ≡ head → ⊥) → chain size head (p ∷ ps) ≡ chain size head ps
chain_miss size head p ps n = ap (λ t. if t then p.at ∷ chain size head ps else chain size head ps) (not_same (bucket size p.entry.key) head n)

behind_less : (b : List ℕ) (t : Bool) (p : ℕ) (l : List ℕ) → BehindNewest b (if t then p ∷ l else l) → BehindNewest b l
behind_less b true p l h = (links_less b p l h).1
behind_less b false p l h = h

-- what is right of more places is right of the older ones
pub behind_rest : (b : List ℕ) (qs ps : List Place) → AreBehind b (qs ++ ps) → AreBehind b ps
behind_rest b [] ps h = h
behind_rest b (q ∷ qs) ps h = behind_rest b qs ps (λ head i. behind_less b (bucket (length b) q.entry.key == head) q.at (chain (length b) head (qs ++ ps)) (h head i))

-- the heads are a whole number of words
heads_whole : (size : ℕ) → hsize size % 4 ≡ 0
heads_whole size =
    let p = hsize_power size in
    let t : p.0 + 2 ≡ suc (suc p.0) = omega arith in
    let v : 2 ^ (p.0 + 2) ≡ 2 * (2 * 2 ^ p.0) = ap (λ m. 2 ^ m) t ∙ pow-succ' 2 (suc p.0) ∙ ap (λ m. 2 * m) (pow-succ' 2 p.0) in
    let k : hsize size ≡ 2 * (2 * 2 ^ p.0) = p.1 ∙ v in
    omega (arith, k)

four_of : (h : ℕ) → h % 4 ≡ 0 → 4 * (h / 4) ≡ h
four_of h e = omega (arith, e)

-- No entry was gone over.
pub none_noted : (b : List ℕ) (heads : ℕ) (fs : Fronts) → heads ≡ hsize (length b) → fs.heads ≡ heads → fs.fronts.items ≡ replicate (heads / 4) no_front → AreNoted b [] fs
unfolding BehindNewest
none_noted b heads fs e h r =
    let whole : heads % 4 ≡ 0 = ap (λ n. n % 4) e ∙ heads_whole (length b) in
    let n : 4 * (heads / 4) ≡ heads = four_of heads whole in
    let count : 4 * length fs.fronts.items ≡ heads = ap (λ l. 4 * length l) r ∙ ap (λ k. 4 * k) (length-replicate (heads / 4) no_front) ∙ n in
    record {
      heads = h ∙ e;
      count = count ∙ e;
      fronts = λ head i.
          let within : head + 4 ≤ heads = subst (λ k. head + 4 ≤ k) (sym e) i.within in
          let f : get_or fs.fronts.items (head / 4) no_front ≡ no_front = ap (λ l. get_or l (head / 4) no_front) r
          ∙ get_or-replicate (heads / 4) (head / 4) no_front no_front (index_fits (heads / 4) heads head n i.whole within) in
          ap (λ x. x.newest) f;
      behind = λ head i. tt;
    }

-- One entry more was gone over, and it may stand in front of the newest of its bucket.
module _ (b : List ℕ) (at : ℕ) (ps : List Place) (fs gs : Fronts) where
  abbrev pub own : ℕ
  own = bucket (length b) (place_read b at).entry.key

  abbrev pub old_front : Front
  old_front = get_or fs.fronts.items (own / 4) no_front

  abbrev pub new_front : Front
  new_front = record { newest = at; awaited = bit_xor (get4 b at) old_front.newest }

  own_is : IsHead (length b) own
  own_is = bucket_head (length b) (place_read b at).entry.key

  pub own_fits : AreNoted b ps fs → own / 4 < length fs.fronts.items
  own_fits n = let h = own_is in index_fits (length fs.fronts.items) (hsize (length b)) own n.count h.whole h.within

  pub old_is : AreNoted b ps fs → IsFront b (chain (length b) own ps) old_front
  old_is n = n.fronts own own_is

  -- its link is as the newest of the bucket wants it, exactly where it fits
  pub misfit : AreNoted b ps fs → (Fits old_front at → ⊥) → AreBehind b (place_read b at ∷ ps) → ⊥
  misfit n unfit h =
      let l : BehindNewest b (at ∷ chain (length b) own ps) = subst (λ l. BehindNewest b l) (chain_hit (length b) own (place_read b at) ps refl) (h own own_is) in
      unfit (newest_fits b at (chain (length b) own ps) old_front (old_is n) (links_less b at (chain (length b) own ps) l).0)

  module _ (n : AreNoted b ps fs) (real : 0 < at) (fit : Fits old_front at) (heads : gs.heads ≡ fs.heads) (items : gs.fronts.items ≡ set fs.fronts.items (own / 4) new_front) where
    own_case : (head : ℕ) → own ≡ head → IsFront b (chain (length b) head (place_read b at ∷ ps)) (get_or gs.fronts.items (head / 4) no_front)
        × BehindNewest b (chain (length b) head (place_read b at ∷ ps))
    own_case head e =
        let P : ℕ → Type 0 = λ k. IsFront b (chain (length b) k (place_read b at ∷ ps)) (get_or gs.fronts.items (k / 4) no_front) × BehindNewest b (chain (length b) k (place_read b at ∷ ps)) in
        let hit = chain_hit (length b) own (place_read b at) ps refl in
        let there : get_or gs.fronts.items (own / 4) no_front ≡ new_front = ap (λ l. get_or l (own / 4) no_front) items ∙ get_or-set_same fs.fronts.items (own / 4) new_front no_front (own_fits n) in
        let old = old_is n in
        let front : IsFront b (at ∷ chain (length b) own ps) new_front = (refl, real, ap (λ x. bit_xor (get4 b at) x) (newest_is b (chain (length b) own ps) old_front old)) in
        let behind : BehindNewest b (at ∷ chain (length b) own ps) =
        links_more b at (chain (length b) own ps) (fits_newest b at (chain (length b) own ps) old_front old fit) (n.behind own own_is) in
        subst P e (
          subst (λ f. IsFront b (chain (length b) own (place_read b at ∷ ps)) f) (sym there) (subst (λ l. IsFront b l new_front) (sym hit) front),
          subst (λ l. BehindNewest b l) (sym hit) behind,
        )

    other_case : (head : ℕ) → IsHead (length b) head → (own ≡ head → ⊥) → IsFront b (chain (length b) head (place_read b at ∷ ps)) (get_or gs.fronts.items (head / 4) no_front)
        × BehindNewest b (chain (length b) head (place_read b at ∷ ps))
    other_case head i differ =
        let miss = chain_miss (length b) head (place_read b at) ps differ in
        let h = own_is in
        let apart : head / 4 ≡ own / 4 → ⊥ = λ e. other_index own head h.whole i.whole differ (sym e) in
        let there : get_or gs.fronts.items (head / 4) no_front ≡ get_or fs.fronts.items (head / 4) no_front =
        ap (λ l. get_or l (head / 4) no_front) items ∙ get_or-set_other fs.fronts.items (own / 4) (head / 4) new_front no_front apart in (
          subst (λ f. IsFront b (chain (length b) head (place_read b at ∷ ps)) f) (sym there) (subst (λ l. IsFront b l (get_or fs.fronts.items (head / 4) no_front)) (sym miss) (n.fronts head i)),
          subst (λ l. BehindNewest b l) (sym miss) (n.behind head i),
        )

    each_case : (head : ℕ) → IsHead (length b) head → IsFront b (chain (length b) head (place_read b at ∷ ps)) (get_or gs.fronts.items (head / 4) no_front)
        × BehindNewest b (chain (length b) head (place_read b at ∷ ps))
    each_case head i = ⊎_elim (own_case head) (other_case head i) (cases_eq own head)

    pub more_noted : AreNoted b (place_read b at ∷ ps) gs
    more_noted = record {
      heads = heads ∙ n.heads;
      count = ap (λ l. 4 * length l) items ∙ ap (λ k. 4 * k) (length-set fs.fronts.items (own / 4) new_front) ∙ n.count;
      fronts = λ head i. (each_case head i).0;
      behind = λ head i. (each_case head i).1;
    }

-- Entries end to end

short_part : (b : List ℕ) (p n : ℕ) → p + n ≤ length b → length (part b p n) ≡ n
short_part b p n h = simp (length-take, length-drop) (omega (arith, h))

-- the entry that is read where one can stand
pub entry_here : (b : List ℕ) (at up : ℕ) → up ≤ length b → GoesOn b at up → EntryAt b at (entry_read b at) × IsShort (entry_read b at) × (at + entry_size (entry_read b at) ≡ next_place b at)
entry_here b at up h g =
    let k : length (part b (at + 20) (get4 b (at + 4))) ≡ get4 b (at + 4) = short_part b (at + 20) (get4 b (at + 4)) (omega (arith, g.within, h)) in
    let m : length (part b (at + 20 + get4 b (at + 4)) (get4 b (at + 8))) ≡ get4 b (at + 8) =
    short_part b (at + 20 + get4 b (at + 4)) (get4 b (at + 8)) (omega (arith, g.within, h)) in (
      record {
        key_len = sym k;
        body_len = sym m;
        expiry = refl;
        key = ap (λ n. part b (at + 20) n) k;
        body = (λ i. part b (at + 20 + k i) (m i));
      },
      record { key = omega (arith, k, g.key); body = omega (arith, m, g.body) },
      omega (arith, k, m),
    )

pub lies_more : (b : List ℕ) (base at up : ℕ) (es : List Entry) → up ≤ length b → Lies b base at es → GoesOn b at up → Lies b base (next_place b at) (entry_read b at ∷ es)
lies_more b base at up es h l g =
    let e : at ≡ base + total es = lies_up b base at es l in
    let r = entry_here b at up h g in (
      (let s = r.2 in omega (arith, s, e)),
      subst (λ k. EntryAt b k (entry_read b at)) e r.0,
      r.1,
      subst (λ k. Lies b base k es) e l,
    )

-- the places of entries end to end
pub places_more : (b : List ℕ) (base at : ℕ) (es : List Entry) (ps : List Place) → at ≡ base + total es → end_to_end base (entry_read b at ∷ es) ++ ps ≡ place_read b at ∷ (end_to_end base es ++ ps)
places_more b base at es ps e = ap (λ k. record { at = k; entry = entry_read b at } ∷ (end_to_end base es ++ ps)) (sym e)

joined : (front : List Entry) (e d : Entry) (ds : List Entry) → e ≡ d → (front ++ (e ∷ [])) ++ ds ≡ front ++ (d ∷ ds)
joined front e d ds h = append_assoc front (e ∷ []) ds ∙ ap (λ x. front ++ (x ∷ ds)) h

-- What lies there begins, at its old end, with what was gone over.
pub lies_extends : (b : List ℕ) (base at up : ℕ) (done es : List Entry) → Lies b base at done → Lies b base up es → at ≤ up → (front : List Entry) × (es ≡ front ++ done)
lies_extends b base at up [] es l k h = (es, sym (append-nil es))
lies_extends b base at up (d ∷ ds) es l k h =
    let below : base + total ds < up = omega (arith, l.0, h) in
    let r = lies_extends b base (base + total ds) up ds es l.3 k (omega (arith, below)) in
    let split : Lies b base up (r.0 ++ ds) = subst (λ x. Lies b base up x) r.1 k in
    let n = lies_next b base up r.0 ds split below in
    let same : entry_read b (base + total ds) ≡ d = entry_is b (base + total ds) d l.1 in
    let longer : es ≡ (n.0 ++ (entry_read b (base + total ds) ∷ [])) ++ ds = r.1 ∙ ap (λ x. x ++ ds) n.1 in
    (n.0, longer ∙ joined n.0 (entry_read b (base + total ds)) d ds same)

total_both : (xs ys : List Entry) → total (xs ++ ys) ≡ total xs + total ys
total_both [] ys = omega arith
total_both (x ∷ xs) ys = let h = total_both xs ys in omega (arith, h)

-- Between two places lies one list alone.
pub lies_one : (b : List ℕ) (base up : ℕ) (ds es : List Entry) → Lies b base up ds → Lies b base up es → es ≡ ds
lies_one b base up ds es l k =
    let r = lies_extends b base up up ds es l k (omega arith) in
    let d : up ≡ base + total ds = lies_up b base up ds l in
    let e : up ≡ base + total es = lies_up b base up es k in
    let t : total es ≡ total r.0 + total ds = ap total r.1 ∙ total_both r.0 ds in
    let z : total r.0 ≡ 0 = omega (arith, d, e, t) in
    r.1 ∙ ap (λ x. x ++ ds) (none_listed r.0 z)

-- the places of newer entries stand in front
places_front : (base : ℕ) (front es : List Entry) (ps : List Place) → (qs : List Place) × (end_to_end base (front ++ es) ++ ps ≡ qs ++ (end_to_end base es ++ ps))
places_front base [] es ps = ([], refl)
places_front base (f ∷ front) es ps =
    let r = places_front base front es ps in
    let q : Place = record { at = base + total (front ++ es); entry = f } in
    (q ∷ r.0, ap (λ x. q ∷ x) r.1)

-- Where no entry can be gone over, there is no layout.
pub pass_stops : (b : List ℕ) (base at up : ℕ) (done : List Entry) (ps : List Place) → at < up → Lies b base at done
    → (GoesOn b at up → AreBehind b (place_read b at ∷ (end_to_end base done ++ ps)) → ⊥) → (es : List Entry) → Lies b base up es → AreBehind b (end_to_end base es ++ ps) → ⊥
pass_stops b base at up done ps below l stop es k h =
    let e : at ≡ base + total done = lies_up b base at done l in
    let r = lies_extends b base at up done es l k (omega (arith, below)) in
    let n = lies_next b base up r.0 done (subst (λ x. Lies b base up x) r.1 k) (omega (arith, e, below)) in
    let longer : es ≡ (n.0 ++ (entry_read b (base + total done) ∷ [])) ++ done = r.1 ∙ ap (λ x. x ++ done) n.1 in
    let there : entry_read b (base + total done) ≡ entry_read b at = ap (entry_read b) (sym e) in
    let whole : es ≡ n.0 ++ (entry_read b at ∷ done) = longer ∙ joined n.0 (entry_read b (base + total done)) (entry_read b at) done there in
    let f = places_front base n.0 (entry_read b at ∷ done) ps in
    let all : AreBehind b (f.0 ++ (end_to_end base (entry_read b at ∷ done) ++ ps)) = subst (λ x. AreBehind b x) (ap (λ x. end_to_end base x ++ ps) whole ∙ f.1) h in
    let rest : AreBehind b (place_read b at ∷ (end_to_end base done ++ ps)) =
    subst (λ x. AreBehind b x) (places_more b base at done ps e) (behind_rest b f.0 (end_to_end base (entry_read b at ∷ done) ++ ps) all) in
    stop (subst (λ k. GoesOn b k up) (sym e) n.2) rest

-- The heads

-- a head and its newest entry link to each other
pub head_right : (b : List ℕ) (head : ℕ) (qs : List ℕ) (f : Front) → IsFront b qs f → get4 b head ≡ f.newest → Fits f head → (get4 b head ≡ first qs) × IsNewest b head qs
head_right b head qs f i n k = (n ∙ newest_is b qs f i, fits_newest b head qs f i k)

pub right_newest : (b : List ℕ) (head : ℕ) (qs : List ℕ) (f : Front) → IsFront b qs f → get4 b head ≡ first qs → get4 b head ≡ f.newest
right_newest b head qs f i n = n ∙ sym (newest_is b qs f i)

four_times : (k : ℕ) → (4 * k % 4 ≡ 0) × (4 * k / 4 ≡ k)
four_times k = (omega arith, omega arith)

pub is_head : (size n k : ℕ) → 4 * n ≡ hsize size → k < n → IsHead size (4 * k)
is_head size n k c h = record { whole = (four_times k).0; within = omega (arith, c, h) }

-- the front of the k-th bucket
pub front_at : (b : List ℕ) (ps : List Place) (fs : Fronts) (k : ℕ) → AreNoted b ps fs → k < length fs.fronts.items → IsFront b (chain (length b) (4 * k) ps) (get_or fs.fronts.items k no_front)
front_at b ps fs k n h =
    subst (λ i. IsFront b (chain (length b) (4 * k) ps) (get_or fs.fronts.items i no_front)) (four_times k).1 (n.fronts (4 * k) (is_head (length b) (length fs.fronts.items) k n.count h))

-- Each bucket is right where that of each index is.
pub all_headed : (b : List ℕ) (ps : List Place) (fs : Fronts) → AreNoted b ps fs
    → ((k : ℕ) → k < length fs.fronts.items → (get4 b (4 * k) ≡ (get_or fs.fronts.items k no_front).newest) × Fits (get_or fs.fronts.items k no_front) (4 * k)) → AreNewest b ps
all_headed b ps fs n each = λ head i.
    let k : ℕ = head / 4 in
    let e : 4 * k ≡ head = four_of head i.whole in
    let w = index_fits (length fs.fronts.items) (hsize (length b)) head n.count i.whole i.within in
    let r = each k w in
    let P : ℕ → Type 0 = λ h. (get4 b h ≡ first (chain (length b) h ps)) × IsNewest b h (chain (length b) h ps) in
    subst P e (head_right b (4 * k) (chain (length b) (4 * k) ps) (get_or fs.fronts.items k no_front) (front_at b ps fs k n w) r.0 r.1)

-- Layouts

linked_behind : (b : List ℕ) (ps : List Place) → AreLinked b ps → AreBehind b ps
linked_behind b ps l = λ head i. (whole_links b head (chain (length b) head ps) (l head i)).2

linked_newest : (b : List ℕ) (ps : List Place) → AreLinked b ps → AreNewest b ps
linked_newest b ps l = λ head i.
    let w = whole_links b head (chain (length b) head ps) (l head i) in
    (w.0 ∙ xor_zero_l (first (chain (length b) head ps)), w.1)

are_linked : (b : List ℕ) (ps : List Place) → AreBehind b ps → AreNewest b ps → AreLinked b ps
are_linked b ps h n = λ head i.
    let w = n head i in
    links_whole b head (chain (length b) head ps) (w.0 ∙ sym (xor_zero_l (first (chain (length b) head ps)))) w.1 (h head i)

module _ (b : List ℕ) (m : Marked) where
  abbrev base : ℕ
  base = hsize (length b)

  -- All that was gone over, and no entry before that.
  abbrev pub all_places : (young old : List Entry) → List Place
  all_places young old = end_to_end base young ++ (end_to_end m.oldest old ++ [])

  with_end : (young old : List Entry) → all_places young old ≡ end_to_end base young ++ end_to_end m.oldest old
  with_end young old = ap (λ x. end_to_end base young ++ x) (append-nil (end_to_end m.oldest old))

  pub is_laid : (young old : List Entry) → InOrder (length b) m → Lies b base m.writer young → Lies b m.oldest m.unused old → AreBehind b (all_places young old) → AreNewest b (all_places young old)
      → HasLayout b m
  is_laid young old o y l h n =
      let k : AreLinked b (end_to_end base young ++ end_to_end m.oldest old) = subst (λ x. AreLinked b x) (with_end young old) (are_linked b (all_places young old) h n) in
      let c : Cache = record { size = length b; young = young; old = old; end = m.unused - base; motion = 0 } in
      (c, layout_found b m young old 0 (record { order = o; young_lies = y; old_lies = l; linked = k }))

  pub laid_order : HasLayout b m → InOrder (length b) m
  laid_order h = (found_layout b m h.0 h.1).order

  pub old_stops : ((es : List Entry) → Lies b m.oldest m.unused es → AreBehind b (end_to_end m.oldest es ++ []) → ⊥) → HasLayout b m → ⊥
  old_stops stop h =
      let c = h.0 in
      let g = found_layout b m c h.1 in
      let all : AreBehind b (all_places c.young c.old) = subst (λ x. AreBehind b x) (sym (with_end c.young c.old)) (linked_behind b _ g.linked) in
      stop c.old g.old_lies (behind_rest b (end_to_end base c.young) (end_to_end m.oldest c.old ++ []) all)

  pub young_stops : (old : List Entry) → Lies b m.oldest m.unused old → (heads : ℕ) → heads ≡ base
      → ((es : List Entry) → Lies b heads m.writer es → AreBehind b (end_to_end heads es ++ (end_to_end m.oldest old ++ [])) → ⊥) → HasLayout b m → ⊥
  young_stops old l heads e stop h =
      let c = h.0 in
      let g = found_layout b m c h.1 in
      let all : AreBehind b (all_places c.young c.old) = subst (λ x. AreBehind b x) (sym (with_end c.young c.old)) (linked_behind b _ g.linked) in
      let same : AreBehind b (all_places c.young old) = subst (λ x. AreBehind b (all_places c.young x)) (lies_one b m.oldest m.unused old c.old l g.old_lies) all in
      let P : ℕ → Type 0 = λ k. (es : List Entry) → Lies b k m.writer es → AreBehind b (end_to_end k es ++ (end_to_end m.oldest old ++ [])) → ⊥ in
      subst P e stop c.young g.young_lies same

  pub laid_newest : (young old : List Entry) → Lies b base m.writer young → Lies b m.oldest m.unused old → HasLayout b m → AreNewest b (all_places young old)
  laid_newest young old y l h =
      let c = h.0 in
      let g = found_layout b m c h.1 in
      let all : AreNewest b (all_places c.young c.old) = subst (λ x. AreNewest b x) (sym (with_end c.young c.old)) (linked_newest b _ g.linked) in
      subst (λ x. AreNewest b (all_places young x)) (lies_one b m.oldest m.unused old c.old l g.old_lies)
      (subst (λ x. AreNewest b (all_places x c.old)) (lies_one b base m.writer young c.young y g.young_lies) all)
