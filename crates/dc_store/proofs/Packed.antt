use Rattle.std.proofs.Common.{◌≡◌, ◌==◌, if◌then◌else◌, nat_le, ℕ, ◌+◌, ◌-◌, ◌*◌, ◌<◌, ◌≤◌, Bool, true, false, min, add-one, ◌^◌, List, [], ◌∷◌, ◌++◌, length, take, drop, vec_capacity, vec_len, refl, sym, ◌∙◌, ap, arith, ⊎_elim, Some, None, option_and_then, ◌↔◌}
use Rattle.std.proofs.lemmas.List.{length-drop, length-take, drop-take, take-take, take_all, length-append, take-append-le, take-append-drop}
use Rattle.std.proofs.lemmas.Bool.{eq-eqb, ne_eqb, leb-true}
use Rattle.std.proofs.lemmas.Bool.Decides.{eqb_tells}
use Rattle.std.proofs.Math.Seq.{take-append_seam, drop-append_seam, drop-append-add}
use Rattle.dc_model.specs.Cache.{Entry, Cache, total, evicted, rotated, added, has_room, capacity, hsize, get, found, hit_of}
use Rattle.dc_store.specs.Lists.{entries, payload, sizes}
use Rattle.dc_store.specs.Packed.{cache_of, IsPacked}
use Rattle.dc_store.specs.declared.plain.Record.{Record}
use Rattle.dc_store.specs.declared.plain.PlainStore.TheInside.{Inside}
use Rattle.dc_store.specs.Found.{look_up}
use Rattle.dc_store.proofs.Lists.{entries-unused, length-entries, take-entries, total-take, total-drop, sizes-payload, sizes-drop_last, sizes-parts}

-- what is used lies in the block
pub used : (a : Inside) → IsPacked a → payload a.records.items ≤ length a.bytes.items
used a h =
    let x = sizes-payload a.records.items in
    let y = sizes-parts a.young a.records.items in
    let f = h.fits in let e = h.end in let b = h.block in let p = h.young_size in let q = h.old_size in
    omega arith

less_of : (x y : ℕ) → x ≡ y → 0 < y → 0 < x
less_of x y e h = omega (arith, e, h)

pub all_young : (a : Inside) → IsPacked a → length (cache_of a).old ≡ 0 → a.young ≡ length a.records.items
all_young a h e =
    let l = length-drop a.young (entries a.records.items a.bytes.items) in
    let n = length-entries a.records.items a.bytes.items in
    let y = h.young_in in
    omega arith

pub some_old : (a : Inside) → IsPacked a → 0 < length (cache_of a).old → a.young < length a.records.items
some_old a h e =
    let l = length-drop a.young (entries a.records.items a.bytes.items) in
    let n = length-entries a.records.items a.bytes.items in
    omega arith

pub some_young : (a : Inside) → IsPacked a → 0 < length (cache_of a).young → 0 < a.young
some_young a h e =
    let l = length-take a.young (entries a.records.items a.bytes.items) in
    omega arith

pub rotated_view : (a : Inside) (s : Cache) → cache_of a ≡ s → IsPacked a → length s.old ≡ 0
    → cache_of (record { size = a.size; heads = a.heads; records = a.records; bytes = a.bytes; young = 0; young_size = 0; old_size = a.young_size; end = a.young_size; motion = a.motion }) ≡ rotated s
rotated_view a s e h o =
    let y = all_young a h (ap (λ (c : Cache). length c.old) e ∙ o) in
    let es : List Entry = entries a.records.items a.bytes.items in
    let n = length-entries a.records.items a.bytes.items in
    let old : es ≡ take a.young es = sym (take_all a.young es (omega arith)) in
    let end : a.young_size ≡ total (take a.young es) = h.young_size ∙ sym (total-take a.young a.records.items a.bytes.items (used a h)) in
    (λ i. let c : Cache = record { size = a.size; young = []; old = old i; end = end i; motion = a.motion } in c) ∙ ap rotated e

pub rotated_packed : (a : Inside) (s : Cache) → cache_of a ≡ s → IsPacked a → length s.old ≡ 0 → 0 < length s.young
    → IsPacked (record { size = a.size; heads = a.heads; records = a.records; bytes = a.bytes; young = 0; young_size = 0; old_size = a.young_size; end = a.young_size; motion = a.motion })
rotated_packed a s e h o k =
    let y = all_young a h (ap (λ (c : Cache). length c.old) e ∙ o) in
    let z = some_young a h (less_of _ _ (ap (λ (c : Cache). length c.young) e) k) in
    let f = h.fits in let g = h.end in
    let t : take a.young a.records.items ≡ a.records.items = take_all a.young a.records.items (omega arith) in
    record {
      least = h.least;
      most = h.most;
      heads = h.heads;
      block = h.block;
      young_in = omega arith;
      young_size = refl;
      old_size = h.young_size ∙ ap sizes t;
      fits = omega arith;
      end = omega arith;
      none_old = λ q. absurd (omega arith);
      room = h.room;
    }

same_test : (x y z w : ℕ) → (x ≡ y → z ≡ w) → (z ≡ w → x ≡ y) → (x == y) ≡ (z == w)
same_test x y z w f g = ⊎_elim
    (λ p. p.0 ∙ sym (eq-eqb z w (f p.1)))
    (λ p. p.0 ∙ sym (ne_eqb z w (λ e. p.1 (g e))))
    (eqb_tells x y)

-- n is a without its last record
pub record Pops (a n : Inside) (r : Record) : Type 0 where
  pub size : n.size ≡ a.size
  pub heads : n.heads ≡ a.heads
  pub bytes : n.bytes.items ≡ a.bytes.items
  pub records : a.records.items ≡ n.records.items ++ r ∷ []
  pub capacity : vec_capacity n.records ≡ vec_capacity a.records
  pub young : n.young ≡ a.young
  pub young_size : n.young_size ≡ a.young_size
  pub old_size : n.old_size ≡ a.old_size - (20 + r.key_len + r.body_len)
  pub motion : n.motion ≡ a.motion

pub fewer : (a n : Inside) (r : Record) → Pops a n r → length a.records.items ≡ length n.records.items + 1
fewer a n r p = let l = length-append n.records.items (r ∷ []) in ap length p.records ∙ omega arith

pub last_fits : (a : Inside) (s : Cache) (ms : List Record) (r : Record) → cache_of a ≡ s → IsPacked a → 0 < length s.old → a.records.items ≡ ms ++ r ∷ [] → 20 + r.key_len + r.body_len ≤ a.old_size
last_fits a s ms r e h o p =
    let y = some_old a h (less_of _ _ (ap (λ (c : Cache). length c.old) e) o) in
    let l = length-append ms (r ∷ []) in
    let m = ap length p in
    let d = sizes-drop_last a.young a.records.items ms r p (omega arith) in
    let q = h.old_size in
    omega arith

-- which end a cache has
pub end_cases : (b : Bool) (x y : ℕ) → y ≤ x → (y ≤ (if b then x else y)) × ((if b then x else y) ≤ x)
end_cases true x y h = (h, omega arith)
end_cases false x y h = (omega arith, h)

pub evicted_packed : (a n : Inside) (s : Cache) (r : Record) → cache_of a ≡ s → IsPacked a → 0 < length s.old → Pops a n r
    → n.end ≡ (if n.young == length n.records.items then capacity a.size else a.end) → IsPacked n
evicted_packed a n s r e h o p q =
    let y = some_old a h (less_of _ _ (ap (λ (c : Cache). length c.old) e) o) in
    let f = fewer a n r p in
    let g = h.fits in let g' = h.end in let u = h.young_in in
    let p1 = p.young in let p2 = p.young_size in let p3 = p.old_size in let p4 = p.size in
    let bl : length n.bytes.items ≡ length a.bytes.items = ap length p.bytes in
    let b = h.block in
    let fits = last_fits a s n.records.items r e h o p.records in
    let t : take n.young n.records.items ≡ take a.young a.records.items =
    (λ i. take (p.young i) n.records.items) ∙ sym (take-append-le a.young n.records.items (r ∷ []) (omega arith)) ∙ ap (take a.young) (sym p.records) in
    let d = sizes-drop_last a.young a.records.items n.records.items r p.records (omega arith) in
    let old = h.old_size in
    let end = end_cases (n.young == length n.records.items) (capacity a.size) a.end h.end in
    let e0 = end.0 in
    let e1 = end.1 in
    record {
      least = rw p.size h.least;
      most = rw p.size h.most;
      heads = p.heads ∙ h.heads ∙ ap hsize (sym p.size);
      block = omega (arith, ap capacity (sym p.size));
      young_in = omega arith;
      young_size = p.young_size ∙ h.young_size ∙ ap sizes (sym t);
      old_size = let v : sizes (drop n.young n.records.items) ≡ sizes (drop a.young n.records.items) = ap (λ k. sizes (drop k n.records.items)) p.young in omega arith;
      fits = omega arith;
      end = omega (arith, ap capacity p.size);
      none_old = λ z. q ∙ ap (λ b. if b then capacity a.size else a.end) (eq-eqb n.young (length n.records.items) (omega arith)) ∙ ap capacity (sym p.size);
      room = let r0 = h.room in let c0 = p.capacity in omega arith;
    }

pub evicted_view : (a n : Inside) (s : Cache) (r : Record) → cache_of a ≡ s → IsPacked a → 0 < length s.old → Pops a n r
    → n.end ≡ (if n.young == length n.records.items then capacity a.size else a.end) → cache_of n ≡ evicted s
evicted_view a n s r e h o p q =
    let y = some_old a h (less_of _ _ (ap (λ (c : Cache). length c.old) e) o) in
    let es : List Entry = entries a.records.items a.bytes.items in
    let ne = length-entries a.records.items a.bytes.items in
    let k : ℕ = length n.records.items in
    let f = fewer a n r p in
    let p1 = p.young in
    let d = length-drop a.young es in
    let ms : entries n.records.items n.bytes.items ≡ take k es =
    ap (λ b. entries n.records.items b) p.bytes
    ∙ ap (λ l. entries l a.bytes.items) (sym (take-append_seam n.records.items (r ∷ [])) ∙ ap (take k) (sym p.records))
    ∙ sym (take-entries k a.records.items a.bytes.items) in
    let young : take n.young (entries n.records.items n.bytes.items) ≡ take a.young es =
    (λ i. take (p.young i) (ms i)) ∙ take-take a.young k es (omega arith) in
    let m : k ≡ a.young + (k - a.young) = omega arith in
    let m' : k - a.young ≡ length (drop a.young es) - 1 = omega arith in
    let old : drop n.young (entries n.records.items n.bytes.items) ≡ take (length (drop a.young es) - 1) (drop a.young es) =
    (λ i. drop (p.young i) (ms i)) ∙ ap (λ j. drop a.young (take j es)) m ∙ drop-take a.young (k - a.young) es ∙ ap (λ j. take j (drop a.young es)) m' in
    let end : n.end ≡ (if length (drop a.young es) == 1 then capacity a.size else a.end) = q ∙ ap (λ b. if b then capacity a.size else a.end) (same_test n.young k (length (drop a.young es)) 1 (λ z. omega arith) (λ z. omega arith)) in
    (λ i. let c : Cache = record { size = p.size i; young = young i; old = old i; end = end i; motion = p.motion i } in c) ∙ ap evicted e

pub end_stays : (x k cap e : ℕ) → (x ≡ k → ⊥) → e ≡ (if x == k then cap else e)
end_stays x k cap e h = sym (ap (λ b. if b then cap else e) (ne_eqb x k h))

pub end_grows : (x k cap e v : ℕ) → x ≡ k → v ≡ cap → v ≡ (if x == k then cap else e)
end_grows x k cap e v h w = w ∙ sym (ap (λ b. if b then cap else e) (eq-eqb x k h))

pub room_is : (a : Inside) (s : Cache) (n : ℕ) → cache_of a ≡ s → IsPacked a → has_room s n ≡ true → a.young_size + a.old_size + n ≤ a.end
room_is a s n e h r =
    let l = leb-true _ _ (ap (λ (c : Cache). has_room c n) e ∙ r) in
    let u = used a h in
    let x = total-take a.young a.records.items a.bytes.items u in
    let y = total-drop a.young a.records.items a.bytes.items u in
    let p = h.young_size in let q = h.old_size in let f = h.fits in
    omega arith

-- n is a with an entry in front
pub record Adds (a n : Inside) (key body : List ℕ) (expiry : ℕ) : Type 0 where
  pub size : n.size ≡ a.size
  pub heads : n.heads ≡ a.heads
  pub bytes : n.bytes.items ≡ key ++ (body ++ (take (payload a.records.items) a.bytes.items ++ drop (length key + length body + payload a.records.items) a.bytes.items))
  pub records : n.records.items ≡ record { key_len = length key; body_len = length body; expiry = expiry } ∷ a.records.items
  pub block : vec_len n.bytes ≡ vec_len a.bytes
  pub capacity : vec_capacity a.records ≤ vec_capacity n.records
  pub young : n.young ≡ a.young + 1
  pub young_size : n.young_size ≡ a.young_size + (20 + length key + length body)
  pub old_size : n.old_size ≡ a.old_size
  pub end : n.end ≡ a.end
  pub motion : n.motion ≡ min (a.motion + (20 + length key + length body)) (2 ^ 64 - 1)

pub added_view : (a n : Inside) (s : Cache) (key body : List ℕ) (expiry : ℕ) → cache_of a ≡ s → IsPacked a → Adds a n key body expiry
    → cache_of n ≡ added (record { key = key; body = body; expiry = expiry }) s
added_view a n s key body expiry e h p =
    let k : ℕ = payload a.records.items in
    let rest : List ℕ = take k a.bytes.items ++ drop (length key + length body + k) a.bytes.items in
    let u = used a h in
    let x : Entry = record { key = key; body = body; expiry = expiry } in
    let es : List Entry = entries a.records.items a.bytes.items in
    let e1 : take (length key) (key ++ (body ++ rest)) ≡ key = take-append_seam key (body ++ rest) in
    let e2 : take (length body) (drop (length key) (key ++ (body ++ rest))) ≡ body = ap (take (length body)) (drop-append_seam key (body ++ rest)) ∙ take-append_seam body rest in
    let e3 : drop (length key + length body) (key ++ (body ++ rest)) ≡ rest = drop-append-add key (body ++ rest) (length body) ∙ drop-append_seam body rest in
    let e4 : entries a.records.items rest ≡ es = entries-unused a.records.items k a.bytes.items _ (omega arith) u in
    let all : entries n.records.items n.bytes.items ≡ x ∷ es =
    (λ i. entries (p.records i) (p.bytes i)) ∙ (λ i. record { key = e1 i; body = e2 i; expiry = expiry } ∷ (ap (entries a.records.items) e3 ∙ e4) i) in
    let young : take n.young (entries n.records.items n.bytes.items) ≡ x ∷ take a.young es =
    (λ i. take (p.young i) (all i)) ∙ ap (λ j. take j (x ∷ es)) (add-one a.young) in
    let old : drop n.young (entries n.records.items n.bytes.items) ≡ drop a.young es =
    (λ i. drop (p.young i) (all i)) ∙ ap (λ j. drop j (x ∷ es)) (add-one a.young) in
    (λ i. let c : Cache = record { size = p.size i; young = young i; old = old i; end = p.end i; motion = p.motion i } in c) ∙ ap (added x) e

pub added_packed : (a n : Inside) (s : Cache) (key body : List ℕ) (expiry : ℕ) → cache_of a ≡ s → IsPacked a → Adds a n key body expiry → has_room s (20 + length key + length body) ≡ true → IsPacked n
added_packed a n s key body expiry e h p q =
    let r : Record = record { key_len = length key; body_len = length body; expiry = expiry } in
    let room = room_is a s (20 + length key + length body) e h q in
    let sz = p.size in let bl = p.block in let b = h.block in let y = p.young in let ys = p.young_size in let os = p.old_size in let en = p.end in
    let yi = h.young_in in let f = h.fits in let g = h.end in let rm = h.room in let cp = p.capacity in
    let len : length n.records.items ≡ length a.records.items + 1 = ap length p.records ∙ omega arith in
    let cap = ap capacity p.size in
    let t : take n.young n.records.items ≡ r ∷ take a.young a.records.items =
    (λ i. take (p.young i) (p.records i)) ∙ ap (λ j. take j (r ∷ a.records.items)) (add-one a.young) in
    let d : drop n.young n.records.items ≡ drop a.young a.records.items =
    (λ i. drop (p.young i) (p.records i)) ∙ ap (λ j. drop j (r ∷ a.records.items)) (add-one a.young) in
    record {
      least = rw p.size h.least;
      most = rw p.size h.most;
      heads = p.heads ∙ h.heads ∙ ap hsize (sym p.size);
      block = omega arith;
      young_in = omega arith;
      young_size = let v = h.young_size in let w = ap sizes t in omega arith;
      old_size = p.old_size ∙ h.old_size ∙ ap sizes (sym d);
      fits = omega arith;
      end = omega arith;
      none_old = λ z. p.end ∙ h.none_old (omega arith) ∙ sym cap;
      room = omega arith;
    }

pub with_all : (n : ℕ) (ws xs : List ℕ) → length ws ≡ n → take n (ws ++ xs) ≡ ws
with_all n ws xs h = ap (λ k. take k (ws ++ xs)) (sym h) ∙ take-append_seam ws xs

pub used_is : (a : Inside) (n : ℕ) → IsPacked a → n ≡ vec_len a.records → a.young_size + a.old_size - 20 * n ≡ payload a.records.items
used_is a n h e =
    let x = sizes-payload a.records.items in
    let y = sizes-parts a.young a.records.items in
    let p = h.young_size in let q = h.old_size in
    omega arith

pub has_room_view : (a : Inside) (s : Cache) (n : ℕ) → cache_of a ≡ s → IsPacked a → nat_le (a.young_size + n) (a.end - a.old_size) ≡ has_room s n
has_room_view a s n e h =
    let u = used a h in
    let x = h.young_size ∙ sym (total-take a.young a.records.items a.bytes.items u) in
    let y = h.old_size ∙ sym (total-drop a.young a.records.items a.bytes.items u) in
    (λ i. nat_le (x i + n) (a.end - y i)) ∙ ap (λ (c : Cache). has_room c n) e

pub no_old_view : (a : Inside) (s : Cache) (k : ℕ) → cache_of a ≡ s → IsPacked a → k ≡ vec_len a.records → (a.young ≡ k) ↔ (length s.old ≡ 0)
no_old_view a s k e h l =
    let es : List Entry = entries a.records.items a.bytes.items in
    let d = length-drop a.young es in
    let n = length-entries a.records.items a.bytes.items in
    let y = h.young_in in
    let o = ap (λ (c : Cache). length c.old) e in
    (λ p. omega arith, λ q. omega arith)

pub no_young_view : (a : Inside) (s : Cache) → cache_of a ≡ s → IsPacked a → (a.young ≡ 0) ↔ (length s.young ≡ 0)
no_young_view a s e h =
    let es : List Entry = entries a.records.items a.bytes.items in
    let d = length-take a.young es in
    let n = length-entries a.records.items a.bytes.items in
    let y = h.young_in in
    let o = ap (λ (c : Cache). length c.young) e in
    (λ p. omega arith, λ q. omega arith)

-- the look-up in the packed entries is that in the cache
found_is : (a : Inside) (s : Cache) (key : List ℕ) → cache_of a ≡ s → look_up 101 a.size key (entries a.records.items a.bytes.items) ≡ found key s
found_is a s key e =
    ap (λ es. look_up 101 a.size key es) (sym (take-append-drop a.young (entries a.records.items a.bytes.items))) ∙ ap (λ c. found key c) e

pub get_none : (a : Inside) (s : Cache) (key : List ℕ) (now : ℕ) → cache_of a ≡ s → None ≡ look_up 101 a.size key (entries a.records.items a.bytes.items) → None ≡ get key now s
get_none a s key now e h = ap (λ o. option_and_then (hit_of now) o) (h ∙ found_is a s key e)

pub get_some : (a : Inside) (s : Cache) (key : List ℕ) (now : ℕ) (x : Entry) → cache_of a ≡ s → Some x ≡ look_up 101 a.size key (entries a.records.items a.bytes.items) → hit_of now x ≡ get key now s
get_some a s key now x e h = ap (λ o. option_and_then (hit_of now) o) (h ∙ found_is a s key e)
