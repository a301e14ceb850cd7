-- Texts by their pieces.
use Rattle.std.proofs.Common.{◌≡◌, ◌≢◌, ℕ, ◌+◌, ◌<◌, ◌≤◌, zero, suc, ◌==◌, ◌&&◌, Bool, true, false, List, [], ◌∷◌, ◌++◌, length, map, flat_map, take, drop, refl, sym, ap, ◌∙◌, arith, append_assoc, slice_index_or}
use Rattle.std.specs.Prelude.{decimal, codes, if◌then◌else◌}
use Rattle.std.proofs.lemmas.List.{append-nil, drop_all}
use Rattle.std.proofs.lemmas.Bool.Decides.{nat_tests}
use Rattle.dc_model.specs.Message.{bytes, kind_a, class_in}
use Rattle.dc_model.specs.Address.{address_text}
use Rattle.dc_lookup.specs.Text.{address_datum, rcode_text, data_byte, data_text, strings}

datum_by : (b : Bool) (t : List ℕ) → b ≡ true → t ≡ (if b then t else [])
datum_by true t h = refl
datum_by false t h = cc

pub datum_four : (bs : List ℕ) → length bs ≡ 4 → address_text bs ++ 32 ∷ [] ≡ address_datum (bytes bs)
datum_four bs h = datum_by (length bs == 4) (address_text bs ++ 32 ∷ []) (grind (arith, nat_tests))

rcode_by : (a b : Bool) (t u v : List ℕ) → a ≡ false → b ≡ false → v ≡ (if a then t else (if b then u else v))
rcode_by true b t u v h k = cc
rcode_by false true t u v h k = cc
rcode_by false false t u v h k = refl

pub rcode_other : (code : ℕ) → code ≢ 0 → code ≢ 3 → codes "rcode " ++ decimal code ≡ rcode_text code
rcode_other code h k = rcode_by (code == 0) (code == 3) (codes "noerror") (codes "nxdomain") (codes "rcode " ++ decimal code) (grind (arith, nat_tests)) (grind (arith, nat_tests))

-- Bytes one after another
more_at : (f : ℕ → List ℕ) (bs : List ℕ) (i : ℕ) → i < length bs → flat_map f (take i bs) ++ f (slice_index_or bs i 0) ≡ flat_map f (take (suc i) bs)
more_at f [] i h = absurd (omega (arith, h))
more_at f (b ∷ bs) zero h = sym (append-nil (f b))
more_at f (b ∷ bs) (suc i) h = append_assoc (f b) (flat_map f (take i bs)) (f (slice_index_or bs i 0)) ∙ ap (λ (t : List ℕ). f b ++ t) (more_at f bs i (omega (arith, h)))

pub bytes_more : (f : ℕ → List ℕ) (bs : List ℕ) (i : ℕ) → i < length bs → flat_map f (take i bs) ++ f (slice_index_or bs i 0) ≡ flat_map f (take (i + 1) bs)
bytes_more f bs i h = let next : suc i ≡ i + 1 = omega arith in more_at f bs i h ∙ ap (λ (n : ℕ). flat_map f (take n bs)) next

data_by : (b : Bool) (t u : List ℕ) → b ≡ true → t ≡ (if b then t else u)
data_by true t u h = refl
data_by false t u h = cc

data_not : (b : Bool) (t u : List ℕ) → b ≡ false → u ≡ (if b then t else u)
data_not true t u h = cc
data_not false t u h = refl

pub quad_is : (kind class : ℕ) (bs : List ℕ) → (class == class_in && (kind == kind_a && length bs == 4)) ≡ true → codes "A " ++ address_text bs ≡ data_text kind class (bytes bs)
quad_is kind class bs h = data_by (class == class_in && (kind == kind_a && length bs == 4)) (codes "A " ++ address_text bs) (decimal kind ++ (32 ∷ flat_map data_byte bs)) h

pub opaque_is : (kind class : ℕ) (bs : List ℕ) → (class == class_in && (kind == kind_a && length bs == 4)) ≡ false → decimal kind ++ (32 ∷ flat_map data_byte bs) ≡ data_text kind class (bytes bs)
opaque_is kind class bs h = data_not (class == class_in && (kind == kind_a && length bs == 4)) (codes "A " ++ address_text bs) (decimal kind ++ (32 ∷ flat_map data_byte bs)) h

-- Strings, a byte at a time: a length byte, and a byte of the string
drop_at : (bs : List ℕ) (i : ℕ) → i < length bs → drop i bs ≡ slice_index_or bs i 0 ∷ drop (suc i) bs
drop_at [] i h = absurd (omega (arith, h))
drop_at (b ∷ bs) zero h = refl
drop_at (b ∷ bs) (suc i) h = drop_at bs i (omega (arith, h))

drop_one : (bs : List ℕ) (i : ℕ) → i < length bs → drop i bs ≡ slice_index_or bs i 0 ∷ drop (i + 1) bs
drop_one bs i h = let next : suc i ≡ i + 1 = omega arith in drop_at bs i h ∙ ap (λ (n : ℕ). slice_index_or bs i 0 ∷ drop n bs) next

-- Where a length byte comes, and where a byte of a string does.
pub next_length : (f : ℕ → ℕ) (left byte : ℕ) → left ≡ 0 → (rest : List ℕ) → map f (strings left (byte ∷ rest)) ≡ [] ++ map f (strings byte rest)
next_length f left byte z rest = ap (λ (n : ℕ). map f (strings n (byte ∷ rest))) z

pub next_byte : (f : ℕ → ℕ) (left less byte : ℕ) → left ≡ suc less → (rest : List ℕ) → map f (strings left (byte ∷ rest)) ≡ (f byte ∷ []) ++ map f (strings less rest)
next_byte f left less byte z rest = ap (λ (n : ℕ). map f (strings n (byte ∷ rest))) z

-- One more byte of the data was written.
pub next_more : (f : ℕ → ℕ) (all done text bs : List ℕ) (i left next : ℕ) → i < length bs → all ≡ done ++ map f (strings left (drop i bs))
    → ((rest : List ℕ) → map f (strings left (slice_index_or bs i 0 ∷ rest)) ≡ text ++ map f (strings next rest))
    → all ≡ (done ++ text) ++ map f (strings next (drop (i + 1) bs))
next_more f all done text bs i left next h e step =
    e ∙ ap (λ (t : List ℕ). done ++ map f (strings left t)) (drop_one bs i h) ∙ ap (λ (t : List ℕ). done ++ t) (step (drop (i + 1) bs))
    ∙ sym (append_assoc done text (map f (strings next (drop (i + 1) bs))))

pub all_done : (f : ℕ → ℕ) (all done bs : List ℕ) (i left : ℕ) → length bs ≤ i → all ≡ done ++ map f (strings left (drop i bs)) → done ≡ all
all_done f all done bs i left h e = sym (append-nil done) ∙ ap (λ (t : List ℕ). done ++ map f (strings left t)) (sym (drop_all i bs h)) ∙ sym e
