use Rattle.std.proofs.Common.{◌≡◌, ◌==◌, ℕ, ◌+◌, ◌-◌, ◌<◌, suc, true, false, List, ◌∷◌, length, take, drop, refl, sym, ◌∙◌, ap, arith, Option, Some}
use Rattle.std.specs.Prelude.{bytes_eq}
use Rattle.std.proofs.Common.{slice_index_or, add-one, drop-cons}
use Rattle.std.proofs.lemmas.List.{drop-drop}
use Rattle.std.proofs.lemmas.Bool.{eq-eqb, ne_eqb}
use Rattle.dc_model.specs.Cache.{Entry, bucket, in_bucket}
use Rattle.dc_store.specs.Found.{look_up}
use Rattle.dc_store.specs.Lists.{entries, payload}
use Rattle.dc_store.specs.declared.plain.Record.{Record}

pub look_other : (n size : ℕ) (key : List ℕ) (e : Entry) (es : List Entry) → in_bucket size key e ≡ false → look_up n size key (e ∷ es) ≡ look_up n size key es
look_other n size key e es h = rw h refl

pub look_hit : (n size : ℕ) (key : List ℕ) (e : Entry) (es : List Entry) → in_bucket size key e ≡ true → bytes_eq e.key key ≡ true → look_up (suc n) size key (e ∷ es) ≡ Some e
look_hit n size key e es h k = rw (h, k) refl

pub look_miss : (n size : ℕ) (key : List ℕ) (e : Entry) (es : List Entry) → in_bucket size key e ≡ true → bytes_eq e.key key ≡ false → look_up (suc n) size key (e ∷ es) ≡ look_up n size key es
look_miss n size key e es h k = rw (h, k) refl

-- the entry of a record whose bytes begin at `at`, by the cuts that the code makes
abbrev pub entry_at : Record → ℕ → List ℕ → Entry
entry_at r at b = record { key = take (at + r.key_len - at) (drop at b); body = take (at + r.key_len + r.body_len - (at + r.key_len)) (drop (at + r.key_len) b); expiry = r.expiry }

pub entries_step : (rs : List Record) (d : Record) (b : List ℕ) (i at : ℕ) → i < length rs → entries (drop i rs) (drop at b) ≡ entry_at (slice_index_or rs i d) at b ∷ entries (drop (i + 1) rs) (drop (at + (slice_index_or rs i d).key_len + (slice_index_or rs i d).body_len) b)
entries_step rs d b i at h =
    let r : Record = slice_index_or rs i d in
    let e1 : at + r.key_len - at ≡ r.key_len = omega arith in
    let e2 : at + r.key_len + r.body_len - (at + r.key_len) ≡ r.body_len = omega arith in
    let e3 : drop r.key_len (drop at b) ≡ drop (at + r.key_len) b = drop-drop r.key_len at b in
    let e4 : drop (r.key_len + r.body_len) (drop at b) ≡ drop (at + r.key_len + r.body_len) b = drop-drop (r.key_len + r.body_len) at b ∙ ap (λ k. drop k b) (omega arith) in
    rw (add-one, drop-cons rs i d h, e1, e2, e3, e4) refl

pub payload_step : (rs : List Record) (d : Record) (i : ℕ) → i < length rs → payload (drop i rs) ≡ (slice_index_or rs i d).key_len + (slice_index_or rs i d).body_len + payload (drop (i + 1) rs)
payload_step rs d i h = rw (add-one, drop-cons rs i d h) refl

pub same_bucket : (size x y : ℕ) (k key : List ℕ) → x ≡ bucket size k → y ≡ bucket size key → x ≡ y → (bucket size k == bucket size key) ≡ true
same_bucket size x y k key p q h = eq-eqb _ _ (sym p ∙ h ∙ q)

pub other_bucket : (size x y : ℕ) (k key : List ℕ) → x ≡ bucket size k → y ≡ bucket size key → (x ≡ y → ⊥) → (bucket size k == bucket size key) ≡ false
other_bucket size x y k key p q h = ne_eqb _ _ (λ e. h (p ∙ e ∙ sym q))

module _ (rs : List Record) (d : Record) (b : List ℕ) (i at size : ℕ) (key : List ℕ) (f : Option Entry) (below : i < length rs) where
  -- past an entry of the bucket that has another key
  pub missed : (n : ℕ) → look_up (suc n) size key (entries (drop i rs) (drop at b)) ≡ f → in_bucket size key (entry_at (slice_index_or rs i d) at b) ≡ true → bytes_eq (entry_at (slice_index_or rs i d) at b).key key ≡ false
      → look_up n size key (entries (drop (i + 1) rs) (drop (at + (slice_index_or rs i d).key_len + (slice_index_or rs i d).body_len) b)) ≡ f
  missed n h t k = sym (look_miss n size key (entry_at (slice_index_or rs i d) at b) _ t k) ∙ ap (look_up (suc n) size key) (sym (entries_step rs d b i at below)) ∙ h

  -- past an entry of another bucket
  pub passed : (n : ℕ) → look_up n size key (entries (drop i rs) (drop at b)) ≡ f → in_bucket size key (entry_at (slice_index_or rs i d) at b) ≡ false
      → look_up n size key (entries (drop (i + 1) rs) (drop (at + (slice_index_or rs i d).key_len + (slice_index_or rs i d).body_len) b)) ≡ f
  passed n h t = sym (look_other n size key (entry_at (slice_index_or rs i d) at b) _ t) ∙ ap (look_up n size key) (sym (entries_step rs d b i at below)) ∙ h
