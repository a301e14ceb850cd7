-- Chains of links after a write.
use Rattle.std.proofs.Common.{◌≡◌, ℕ, ◌+◌, ◌<◌, ◌≤◌, ◌^◌, List, [], ◌∷◌, ◌++◌, length, sym, ◌∙◌, ap, arith, subst, inl, inr, ⊎_elim}
use Rattle.std.specs.Prelude.{bit_xor}
use Rattle.std.specs.Int.Bits.{xor_self, xor_zero_r, xor_assoc}
use Rattle.std.proofs.lemmas.Nat.{xor_comm, xor_lt}
use Rattle.dc_model.specs.Block.{get4, set4}
use Rattle.dc_arena.proofs.Laws.{get4-set4_same, get4-set4_other, length-set4}
use Rattle.dc_model.specs.Chain.{first, last, Linked, Apart, ApartFrom, Spread, Real}

xor_back : (a b : ℕ) → bit_xor (bit_xor a b) b ≡ a
xor_back a b = xor_assoc a b b ∙ ap (bit_xor a) (xor_self b) ∙ xor_zero_r a

-- a before, f behind: the place before becomes n
xor_new : (a f n : ℕ) → bit_xor (bit_xor (bit_xor a f) a) n ≡ bit_xor n f
xor_new a f n =
    ap (λ x. bit_xor x n) (ap (λ x. bit_xor x a) (xor_comm a f) ∙ xor_back f a) ∙ xor_comm f n

swap_apart : (p q : ℕ) → Apart p q → Apart q p
swap_apart p q a = ⊎_elim (λ h. inr h) (λ h. inl h) a

-- a write apart from the links leaves them
pub linked_stays : (b : List ℕ) (at n before : ℕ) (ps : List ℕ) → at + 4 ≤ length b → ApartFrom at ps → Linked b before ps → Linked (set4 b at n) before ps
linked_stays b at n before [] h a l = tt
linked_stays b at n before (p ∷ ps) h a l = (get4-set4_other b at n p h (swap_apart at p a.0) ∙ l.0, linked_stays b at n p ps h a.1 l.1)

pub tail_link : (b : List ℕ) (before x at : ℕ) (qs : List ℕ) → Linked b before (x ∷ (qs ++ at ∷ [])) → get4 b at ≡ last x qs
tail_link b before x at [] l = l.1.0 ∙ xor_zero_r x
tail_link b before x at (q ∷ qs) l = tail_link b x q at qs l.1

apart_last : (x y : ℕ) (qs : List ℕ) → ApartFrom x (y ∷ qs) → Apart x (last y qs)
apart_last x y [] a = a.0
apart_last x y (q ∷ qs) a = apart_last x q qs a.1

apart_front : (x : ℕ) (qs rs : List ℕ) → ApartFrom x (qs ++ rs) → ApartFrom x qs
apart_front x [] rs a = tt
apart_front x (q ∷ qs) rs a = (a.0, apart_front x qs rs a.1)

pub spread_last : (n x at : ℕ) (qs : List ℕ) → Spread n (x ∷ (qs ++ at ∷ [])) → last x qs + 4 ≤ n
spread_last n x at [] s = s.0
spread_last n x at (q ∷ qs) s = spread_last n q at qs s.2

-- the tail leaves: the link before it loses it
pub unlinked : (b : List ℕ) (before x at : ℕ) (qs : List ℕ) → length b < 2 ^ 32 → before < 2 ^ 32 → Spread (length b) (x ∷ (qs ++ at ∷ [])) → Linked b before (x ∷ (qs ++ at ∷ []))
    → Linked (set4 b (last x qs) (bit_xor (get4 b (last x qs)) at)) before (x ∷ qs)
unlinked b before x at [] h f s l =
    let e : bit_xor (get4 b x) at ≡ before = ap (λ k. bit_xor k at) l.0 ∙ xor_back before at in
    (get4-set4_same b x (bit_xor (get4 b x) at) s.0 (omega (arith, e)) ∙ e ∙ sym (xor_zero_r before), tt)
unlinked b before x at (q ∷ qs) h f s l = (
  get4-set4_other b (last q qs) _ x (spread_last _ q at qs s.2) (apart_last x q qs (apart_front x (q ∷ qs) (at ∷ []) s.1)) ∙ l.0,
  unlinked b x q at qs h (let k = s.0 in omega arith) s.2 l.1,
)

-- another chain keeps its links
pub unlinked_other : (b : List ℕ) (x at m before : ℕ) (qs ps : List ℕ) → Spread (length b) (x ∷ (qs ++ at ∷ [])) → ApartFrom (last x qs) ps → Linked b before ps → Linked (set4 b (last x qs) m) before ps
unlinked_other b x at m before qs ps s a l = linked_stays b (last x qs) m before ps (spread_last _ x at qs s) a l

-- a write of a new first place before an empty chain
pub link_alone : (b : List ℕ) (head at : ℕ) → at < 2 ^ 32 → head < 2 ^ 32 → Spread (length b) (at ∷ (head ∷ [])) → Linked (set4 (set4 b at (bit_xor head 0)) head at) 0 (head ∷ (at ∷ []))
link_alone b head at h k s =
    let b1 : List ℕ = set4 b at (bit_xor head 0) in
    let n1 = length-set4 b at (bit_xor head 0) s.0 in
    let sh = s.2.0 in (
      get4-set4_same b1 head at (omega arith) h,
      (
        get4-set4_other b1 head at at (omega arith) s.1.0 ∙ get4-set4_same b at (bit_xor head 0) s.0 (xor_lt 32 head 0 k (omega arith)),
        tt,
      ),
    )

-- the same before p, the first place so far
pub link_before : (b : List ℕ) (head at p : ℕ) (ps : List ℕ) → at < 2 ^ 32 → head < 2 ^ 32 → p < 2 ^ 32 → get4 b p < 2 ^ 32 → Spread (length b) (at ∷ (head ∷ (p ∷ ps))) → Linked b 0 (head ∷ (p ∷ ps))
    → Linked (set4 (set4 (set4 b at (bit_xor head p)) p (bit_xor (bit_xor (get4 b p) head) at)) head at) 0 (head ∷ (at ∷ (p ∷ ps)))
link_before b head at p ps ha hh hp hl s l =
    let m1 : ℕ = bit_xor head p in
    let m2 : ℕ = bit_xor (bit_xor (get4 b p) head) at in
    let b1 : List ℕ = set4 b at m1 in
    let b2 : List ℕ = set4 b1 p m2 in
    let n1 = length-set4 b at m1 s.0 in
    let sp = s.2.2.0 in
    let sh = s.2.0 in
    let n2 = length-set4 b1 p m2 (omega arith) in
    let lt1 : m1 < 2 ^ 32 = xor_lt 32 head p hh hp in
    let lt2 : m2 < 2 ^ 32 = xor_lt 32 (bit_xor (get4 b p) head) at (xor_lt 32 (get4 b p) head hl hh) ha in
    let at_head : Apart at head = s.1.0 in
    let at_p : Apart at p = s.1.1.0 in
    let head_p : Apart head p = s.2.1.0 in
    let new : m2 ≡ bit_xor at (first ps) = ap (λ x. bit_xor (bit_xor x head) at) l.1.0 ∙ xor_new head (first ps) at in
    let rest : Linked b p ps = l.1.1 in
    let new_head : get4 (set4 b2 head at) head ≡ at = get4-set4_same b2 head at (omega arith) ha in
    let new_at : get4 (set4 b2 head at) at ≡ m1 = get4-set4_other b2 head at at (omega arith) at_head ∙ get4-set4_other b1 p m2 at (omega arith) at_p ∙ get4-set4_same b at m1 s.0 lt1 in
    let new_p : get4 (set4 b2 head at) p ≡ bit_xor at (first ps) = get4-set4_other b2 head at p (omega arith) (swap_apart head p head_p) ∙ get4-set4_same b1 p m2 (omega arith) lt2 ∙ new in
    let new_rest : Linked (set4 b2 head at) p ps = linked_stays b2 head at p ps (omega arith) s.2.1.1 (linked_stays b1 p m2 p ps (omega arith) s.2.2.1 (linked_stays b at m1 p ps s.0 s.1.1.1 rest)) in
    (new_head, (new_at, (new_p, new_rest)))

pub first_some : (b new : List ℕ) (head at f link : ℕ) (ps : List ℕ) → at < 2 ^ 32 → head < 2 ^ 32 → f ≡ get4 b head → (f ≡ 0 → ⊥) → f < 2 ^ 32 → link ≡ get4 (set4 b at (bit_xor head f)) f → link < 2 ^ 32
    → new ≡ set4 (set4 (set4 b at (bit_xor head f)) f (bit_xor (bit_xor link head) at)) head at
    → Spread (length b) (at ∷ (head ∷ ps)) → Linked b 0 (head ∷ ps) → Linked new 0 (head ∷ (at ∷ ps))
first_some b new head at f link [] ha hh e z fl le ll w s l = absurd (z (e ∙ l.0))
first_some b new head at f link (p ∷ ps) ha hh e z fl le ll w s l =
    let q : f ≡ p = e ∙ l.0 in
    let g : link ≡ get4 b p = le ∙ (λ i. get4 (set4 b at (bit_xor head (q i))) (q i)) ∙ get4-set4_other b at (bit_xor head p) p s.0 (swap_apart at p s.1.1.0) in
    let v : new ≡ set4 (set4 (set4 b at (bit_xor head p)) p (bit_xor (bit_xor (get4 b p) head) at)) head at =
    w ∙ (λ i. set4 (set4 (set4 b at (bit_xor head (q i))) (q i) (bit_xor (bit_xor (g i) head) at)) head at) in
    let P : List ℕ → Type 0 = λ d. Linked d 0 (head ∷ (at ∷ (p ∷ ps))) in
    subst P (sym v) (link_before b head at p ps ha hh (omega arith) (omega arith) s l)

pub first_none : (b new : List ℕ) (head at f : ℕ) (ps : List ℕ) → at < 2 ^ 32 → head < 2 ^ 32 → f ≡ get4 b head → f ≡ 0 → Real ps
    → new ≡ set4 (set4 b at (bit_xor head f)) head at
    → Spread (length b) (at ∷ (head ∷ ps)) → Linked b 0 (head ∷ ps) → Linked new 0 (head ∷ (at ∷ ps))
first_none b new head at f [] ha hh e z r w s l =
    let P : List ℕ → Type 0 = λ d. Linked d 0 (head ∷ (at ∷ [])) in
    subst P (sym (w ∙ ap (λ k. set4 (set4 b at (bit_xor head k)) head at) z)) (link_alone b head at ha hh (s.0, s.1, s.2))
first_none b new head at f (p ∷ ps) ha hh e z r w s l =
    let q : p ≡ 0 = sym l.0 ∙ sym e ∙ z in
    let k = r.0 in
    absurd (omega arith)
