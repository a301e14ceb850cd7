-- Keys whose name stands behind two bytes of a type.
use Rattle.std.proofs.Common.{zero, suc, ◌≡◌, ◌≢◌, ℕ, ◌+◌, ◌≤◌, List, [], ◌∷◌, ◌++◌, length, drop, refl, sym, ◌∙◌, ap, subst, arith, slice_index_or, length-append}
use Rattle.std.proofs.lemmas.List.{length-drop}
use Rattle.std.proofs.Math.Seq.{drop-append_seam}
use Rattle.std.proofs.Math.ListN.{drop_of_length-le}
use Rattle.dc_model.specs.Name.{Name, IsName, wire, parent}
use Rattle.dc_model.proofs.DottedLemmas.{parent-IsName}
use Rattle.dc_model.specs.Message.{u16}
use Rattle.dc_name.specs.Wire.{IsWire, name_of}
use Rattle.dc_name.proofs.WireLemmas.{IsWire-of, name_of-is, wire-least}
use Rattle.dc_desk.specs.Keys.{IsKey, IsAbove, name_at}

pub wire_some : (bs : List ℕ) → IsWire bs → 1 ≤ length bs
wire_some bs h = subst (λ x. 1 ≤ length x) (sym h.bytes) (wire-least (name_of bs))

-- There is room for the type and the last byte of the name.
pub key_room : (bs : List ℕ) (start : ℕ) → IsKey bs start → start + 3 ≤ length bs
key_room bs start h = omega (arith, wire_some (drop (2 + start) bs) h.name, length-drop (2 + start) bs)

drop_more : (n : ℕ) (x : ℕ) (xs : List ℕ) → drop (1 + n) (x ∷ xs) ≡ drop n xs
drop_more n x xs = let e : 1 + n ≡ suc n = omega arith in ap (λ k. drop k (x ∷ xs)) e

above_wire : (n : Name) → n ≢ [] → drop (1 + slice_index_or (wire n) 0 0) (wire n) ≡ wire (parent n)
above_wire [] h = absurd (h refl)
above_wire (l ∷ ls) h = drop_more (length l) (length l) (l ++ wire ls) ∙ drop-append_seam l (wire ls)

above_bytes : (bs : List ℕ) → IsWire bs → name_of bs ≢ [] → drop (1 + slice_index_or bs 0 0) bs ≡ wire (parent (name_of bs))
above_bytes bs h s = subst (λ x. drop (1 + slice_index_or x 0 0) x ≡ wire (parent (name_of bs))) (sym h.bytes) (above_wire (name_of bs) s)

above_short : (n : Name) → n ≢ [] → 1 + slice_index_or (wire n) 0 0 ≤ length (wire n)
above_short [] h = absurd (h refl)
above_short (l ∷ ls) h = omega (arith, length-append l (wire ls))

pub above_by : (bs : List ℕ) → IsWire bs → name_of bs ≢ [] → IsAbove bs (1 + slice_index_or bs 0 0)
above_by bs h s =
    let e = above_bytes bs h s in
    let up : IsName (parent (name_of bs)) = parent-IsName (name_of bs) h.name in
    record {
      short = subst (λ x. 1 + slice_index_or x 0 0 ≤ length x) (sym h.bytes) (above_short (name_of bs) s);
      name = IsWire-of _ _ up e;
      labels = name_of-is _ _ up e;
    }

front_dropped : (front bs : List ℕ) (n : ℕ) → length front ≡ n → drop n (front ++ bs) ≡ bs
front_dropped front bs n e = subst (λ k. drop k (front ++ bs) ≡ bs) e (drop-append_seam front bs)

drop_both : (n m : ℕ) (bs : List ℕ) → drop (m + n) bs ≡ drop m (drop n bs)
drop_both zero m bs = let e : m + 0 ≡ m = omega arith in ap (λ k. drop k bs) e
drop_both (suc n) m [] = drop_of_length-le [] (omega arith) ∙ sym (drop_of_length-le [] (omega arith))
drop_both (suc n) m (b ∷ bs) = let e : m + suc n ≡ suc (m + n) = omega arith in ap (λ k. drop k (b ∷ bs)) e ∙ drop_both n m bs

-- Behind the type stands the name, as before.
pub name_stays : (bs new : List ℕ) (start kind : ℕ) → drop start new ≡ u16 kind ++ drop (2 + start) bs → drop (2 + start) new ≡ drop (2 + start) bs
name_stays bs new start kind e = drop_both start 2 new ∙ ap (λ x. drop 2 x) e

pub name_kept : (bs new : List ℕ) (start kind : ℕ) → IsKey bs start → drop start new ≡ u16 kind ++ drop (2 + start) bs → length new ≡ length bs → IsKey new start
name_kept bs new start kind h e l =
    record { name = rw (name_stays bs new start kind e) h.name; most = rw l h.most }

pub view_kept : (bs new : List ℕ) (start kind : ℕ) → drop start new ≡ u16 kind ++ drop (2 + start) bs → name_at new start ≡ name_at bs start
view_kept bs new start kind e = ap name_of (name_stays bs new start kind e)

pub ruleset keys = (key_room, name_kept, view_kept)
