-- An entry is written, and the others stay.
use Rattle.std.proofs.Common.{◌≡◌, ℕ, ◌+◌, ◌<◌, ◌≤◌, ◌^◌, ◌==◌, List, [], ◌∷◌, length, ◌∙◌, arith, ◌⊎◌, inl, inr, ⊎_elim}
use Rattle.std.specs.Int.{to_le_bytes, to_be_bytes, w32, w64}
use Rattle.dc_model.specs.Block.{part, stored}
use Rattle.dc_arena.proofs.Laws.{length-stored, part-stored_same, part-stored_other, get4-stored_other, get8-stored_other, get4-part, get8-part}
use Rattle.dc_model.specs.Chain.{Linked}
use Rattle.dc_model.specs.Cache.{entry_size, hsize, bucket}
use Rattle.dc_model.specs.Layout.{Place, EntryAt, chain, Clear, ClearOf, Stands, Held, Holds}
use Rattle.dc_chain.proofs.Held.{Each, each_chosen}

-- bytes written from a place on, inside the bytes of p
pub record Within (b : List ℕ) (from : ℕ) (ws : List ℕ) (p : Place) : Type 0 where
  pub after : p.at ≤ from
  pub before : from + length ws ≤ p.at + entry_size p.entry
  pub block : p.at + entry_size p.entry ≤ length b

entry_untouched : (b : List ℕ) (from : ℕ) (ws : List ℕ) (p q : Place) → Within b from ws p → Clear p q → EntryAt b q.at q.entry → EntryAt (stored b from ws) q.at q.entry
entry_untouched b from ws p q w c e =
    let a = w.after in let f = w.before in let z = w.block in
    let h : from ≤ length b = omega arith in
    let side : (x k : ℕ) → q.at ≤ x → x + k ≤ q.at + entry_size q.entry → (x + k ≤ from) ⊎ (from + length ws ≤ x) = λ x k l m. ⊎_elim (λ o. inr (omega arith)) (λ o. inl (omega arith)) c in
    record {
      key_len = get4-stored_other b from ws (q.at + 4) h (side (q.at + 4) 4 (omega arith) (omega arith)) ∙ e.key_len;
      body_len = get4-stored_other b from ws (q.at + 8) h (side (q.at + 8) 4 (omega arith) (omega arith)) ∙ e.body_len;
      expiry = get8-stored_other b from ws (q.at + 12) h (side (q.at + 12) 8 (omega arith) (omega arith)) ∙ e.expiry;
      key = part-stored_other b from ws (q.at + 20) (length q.entry.key) h (side (q.at + 20) (length q.entry.key) (omega arith) (omega arith)) ∙ e.key;
      body = part-stored_other b from ws (q.at + 20 + length q.entry.key) (length q.entry.body) h (side (q.at + 20 + length q.entry.key) (length q.entry.body) (omega arith) (omega arith)) ∙ e.body;
    }

held_untouched : (b : List ℕ) (size from : ℕ) (ws : List ℕ) (p : Place) (ps : List Place) → Within b from ws p → ClearOf p ps → Held b size ps → Held (stored b from ws) size ps
held_untouched b size from ws p [] w c d = tt
held_untouched b size from ws p (q ∷ ps) w c d =
    let s : Stands (stored b from ws) size q = record { bytes = entry_untouched b from ws p q w c.0 d.0.bytes; limits = d.0.limits; after = d.0.after; within = d.0.within } in
    (s, (d.1.0, held_untouched b size from ws p ps w c.1 d.1.1))

links_untouched : (b : List ℕ) (from : ℕ) (ws : List ℕ) (before : ℕ) (ls : List ℕ) → from ≤ length b → Each (λ l. (l + 4 ≤ from) ⊎ (from + length ws ≤ l)) ls → Linked b before ls → Linked (stored b from ws) before ls
links_untouched b from ws before [] h a l = tt
links_untouched b from ws before (x ∷ ls) h a l = (get4-stored_other b from ws x h a.0 ∙ l.0, links_untouched b from ws x ls h a.1 l.1)

chain_untouched : (b : List ℕ) (size k from : ℕ) (ws : List ℕ) (p : Place) (ps : List Place) → Within b from ws p → ClearOf p ps → Each (λ l. (l + 4 ≤ from) ⊎ (from + length ws ≤ l)) (chain size k ps)
chain_untouched b size k from ws p [] w c = tt
chain_untouched b size k from ws p (q ∷ ps) w c = let a = w.after in let f = w.before in
    each_chosen (λ l. (l + 4 ≤ from) ⊎ (from + length ws ≤ l)) (bucket size q.entry.key == k) q.at (chain size k ps)
    (λ _. ⊎_elim (λ o. inr (omega arith)) (λ o. inl (omega arith)) c.0) (chain_untouched b size k from ws p ps w c.1)

pub untouched : (b : List ℕ) (size from : ℕ) (ws : List ℕ) (p : Place) (ps : List Place) → Within b from ws p → hsize size ≤ p.at → ClearOf p ps → Holds b size ps → Holds (stored b from ws) size ps
untouched b size from ws p ps w a c s =
    let x = w.after in let f = w.before in let z = w.block in
    record {
      block = length-stored b from ws (omega arith) ∙ s.block;
      small = s.small;
      held = held_untouched b size from ws p ps w c s.held;
      links = λ k i. let v = i.within in links_untouched b from ws 0 (k ∷ chain size k ps) (omega arith) (inl (omega arith), chain_untouched b size k from ws p ps w c) (s.links k i);
    }

-- the five writes of an entry
module _ (b : List ℕ) (at expiry : ℕ) (key body : List ℕ) (h : at + (20 + length key + length body) ≤ length b) where
  abbrev pub w1 : List ℕ
  w1 = stored b (at + 4) (to_le_bytes w32 (length key))

  abbrev pub w2 : List ℕ
  w2 = stored w1 (at + 8) (to_le_bytes w32 (length body))

  abbrev pub w3 : List ℕ
  w3 = stored w2 (at + 12) (to_be_bytes w64 expiry)

  abbrev pub w4 : List ℕ
  w4 = stored w3 (at + 20) key

  abbrev pub w5 : List ℕ
  w5 = stored w4 (at + 20 + length key) body

  l1 : length w1 ≡ length b
  l1 = length-stored b (at + 4) (to_le_bytes w32 (length key)) (omega arith)

  l2 : length w2 ≡ length b
  l2 = let a = l1 in length-stored w1 (at + 8) (to_le_bytes w32 (length body)) (omega arith) ∙ a

  l3 : length w3 ≡ length b
  l3 = let a = l2 in length-stored w2 (at + 12) (to_be_bytes w64 expiry) (omega arith) ∙ a

  l4 : length w4 ≡ length b
  l4 = let a = l3 in length-stored w3 (at + 20) key (omega arith) ∙ a

  pub entry_written : length key < 2 ^ 32 → length body < 2 ^ 32 → expiry < 2 ^ 64 → EntryAt w5 at (record { key = key; body = body; expiry = expiry })
  entry_written k m x =
      let a1 = l1 in let a2 = l2 in let a3 = l3 in let a4 = l4 in
      let o5 : (p n : ℕ) → p + n ≤ at + 20 + length key → part w5 p n ≡ part w4 p n = λ p n f. part-stored_other w4 (at + 20 + length key) body p n (omega arith) (inl f) in
      let o4 : (p n : ℕ) → p + n ≤ at + 20 → part w4 p n ≡ part w3 p n = λ p n f. part-stored_other w3 (at + 20) key p n (omega arith) (inl f) in
      let o3 : (p n : ℕ) → p + n ≤ at + 12 → part w3 p n ≡ part w2 p n = λ p n f. part-stored_other w2 (at + 12) (to_be_bytes w64 expiry) p n (omega arith) (inl f) in
      let o2 : (p n : ℕ) → p + n ≤ at + 8 → part w2 p n ≡ part w1 p n = λ p n f. part-stored_other w1 (at + 8) (to_le_bytes w32 (length body)) p n (omega arith) (inl f) in
      record {
        key_len = get4-part w5 (at + 4) (length key) k (o5 _ 4 (omega arith) ∙ o4 _ 4 (omega arith) ∙ o3 _ 4 (omega arith) ∙ o2 _ 4 (omega arith) ∙ part-stored_same b (at + 4) (to_le_bytes w32 (length key)) (omega arith));
        body_len = get4-part w5 (at + 8) (length body) m (o5 _ 4 (omega arith) ∙ o4 _ 4 (omega arith) ∙ o3 _ 4 (omega arith) ∙ part-stored_same w1 (at + 8) (to_le_bytes w32 (length body)) (omega arith));
        expiry = get8-part w5 (at + 12) expiry x (o5 _ 8 (omega arith) ∙ o4 _ 8 (omega arith) ∙ part-stored_same w2 (at + 12) (to_be_bytes w64 expiry) (omega arith));
        key = o5 _ _ (omega arith) ∙ part-stored_same w3 (at + 20) key (omega arith);
        body = part-stored_same w4 (at + 20 + length key) body (omega arith);
      }

  pub rest_untouched : (size : ℕ) (ps : List Place) → hsize size ≤ at → ClearOf (record { at = at; entry = record { key = key; body = body; expiry = expiry } }) ps → Holds b size ps → Holds w5 size ps
  rest_untouched size ps a c s =
      let p : Place = record { at = at; entry = record { key = key; body = body; expiry = expiry } } in
      let a1 = l1 in let a2 = l2 in let a3 = l3 in let a4 = l4 in
      let s1 = untouched b size (at + 4) (to_le_bytes w32 (length key)) p ps (record { after = omega arith; before = omega arith; block = omega arith }) a c s in
      let s2 = untouched w1 size (at + 8) (to_le_bytes w32 (length body)) p ps (record { after = omega arith; before = omega arith; block = omega arith }) a c s1 in
      let s3 = untouched w2 size (at + 12) (to_be_bytes w64 expiry) p ps (record { after = omega arith; before = omega arith; block = omega arith }) a c s2 in
      let s4 = untouched w3 size (at + 20) key p ps (record { after = omega arith; before = omega arith; block = omega arith }) a c s3 in
      untouched w4 size (at + 20 + length key) body p ps (record { after = omega arith; before = omega arith; block = omega arith }) a c s4
