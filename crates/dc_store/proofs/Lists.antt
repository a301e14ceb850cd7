use Rattle.std.proofs.Common.{◌≡◌, ℕ, ◌+◌, ◌-◌, ◌*◌, ◌≤◌, zero, suc, List, [], ◌∷◌, ◌++◌, length, take, drop, refl, sym, ◌∙◌, ap, arith}
use Rattle.std.proofs.lemmas.List.{drop-drop, length-drop, length-take, drop-append-le, drop-take}
use Rattle.std.proofs.lemmas.Grind.{common_steps}
use Rattle.dc_model.specs.Cache.{Entry, total}
use Rattle.dc_store.specs.Lists.{entries, payload, sizes}
use Rattle.dc_store.specs.declared.plain.Record.{Record}

pub length-entries : (rs : List Record) (b : List ℕ) → length (entries rs b) ≡ length rs
length-entries [] b = refl
length-entries (r ∷ rs) b = ap suc (length-entries rs (drop (r.key_len + r.body_len) b))

pub sizes-payload : (rs : List Record) → sizes rs ≡ payload rs + 20 * length rs
sizes-payload [] = refl
sizes-payload (r ∷ rs) = let h = sizes-payload rs in omega arith

pub total-entries : (rs : List Record) (b : List ℕ) → payload rs ≤ length b → total (entries rs b) ≡ sizes rs
total-entries [] b h = refl
total-entries (r ∷ rs) b h =
    let d = length-drop (r.key_len + r.body_len) b in
    let e = length-drop r.key_len b in
    let x = length-take r.key_len b in
    let y = length-take r.body_len (drop r.key_len b) in
    let i = total-entries rs (drop (r.key_len + r.body_len) b) (omega arith) in
    omega arith

pub take-entries : (k : ℕ) (rs : List Record) (b : List ℕ) → take k (entries rs b) ≡ entries (take k rs) b
take-entries zero rs b = refl
take-entries (suc k) [] b = refl
take-entries (suc k) (r ∷ rs) b = ap (λ (l : List Entry). record { key = take r.key_len b; body = take r.body_len (drop r.key_len b); expiry = r.expiry } ∷ l) (take-entries k rs (drop (r.key_len + r.body_len) b))

pub drop-entries : (k : ℕ) (rs : List Record) (b : List ℕ) → drop k (entries rs b) ≡ entries (drop k rs) (drop (payload (take k rs)) b)
drop-entries zero rs b = refl
drop-entries (suc k) [] b = refl
drop-entries (suc k) (r ∷ rs) b = drop-entries k rs (drop (r.key_len + r.body_len) b) ∙ ap (entries (drop k rs)) (drop-drop (payload (take k rs)) (r.key_len + r.body_len) b)

pub payload-parts : (k : ℕ) (rs : List Record) → payload (take k rs) + payload (drop k rs) ≡ payload rs
payload-parts zero rs = omega arith
payload-parts (suc k) [] = omega arith
payload-parts (suc k) (r ∷ rs) = let h = payload-parts k rs in omega arith

pub sizes-parts : (k : ℕ) (rs : List Record) → sizes (take k rs) + sizes (drop k rs) ≡ sizes rs
sizes-parts zero rs = omega arith
sizes-parts (suc k) [] = omega arith
sizes-parts (suc k) (r ∷ rs) = let h = sizes-parts k rs in omega arith

pub total-take : (k : ℕ) (rs : List Record) (b : List ℕ) → payload rs ≤ length b → total (take k (entries rs b)) ≡ sizes (take k rs)
total-take k rs b h =
    let p = payload-parts k rs in
    ap total (take-entries k rs b) ∙ total-entries (take k rs) b (omega arith)

pub total-drop : (k : ℕ) (rs : List Record) (b : List ℕ) → payload rs ≤ length b → total (drop k (entries rs b)) ≡ sizes (drop k rs)
total-drop k rs b h =
    let p = payload-parts k rs in
    let l = length-drop (payload (take k rs)) b in
    ap total (drop-entries k rs b) ∙ total-entries (drop k rs) (drop (payload (take k rs)) b) (omega arith)

-- bytes that are not used do not count
take_same : (k n : ℕ) (b z : List ℕ) → k ≤ n → n ≤ length b → take k (take n b ++ z) ≡ take k b
take_same k n b z p q = grind (arith, common_steps)

drop_same : (k n : ℕ) (b z : List ℕ) → k ≤ n → n ≤ length b → drop k (take n b ++ z) ≡ take (n - k) (drop k b) ++ z
drop_same k n b z p q =
    let l = length-take n b in
    let e : k + (n - k) ≡ n = omega arith in
    drop-append-le k (take n b) z (omega arith) ∙ ap (λ m. drop k (take m b) ++ z) (sym e) ∙ ap (λ l. l ++ z) (drop-take k (n - k) b)

pub entries-unused : (rs : List Record) (n : ℕ) (b z : List ℕ) → payload rs ≤ n → n ≤ length b → entries rs (take n b ++ z) ≡ entries rs b
entries-unused [] n b z p q = refl
entries-unused (r ∷ rs) n b z p q =
    let k = r.key_len in
    let m = r.key_len + r.body_len in
    let dk = length-drop k b in
    let dm = length-drop m b in
    let e1 : take k (take n b ++ z) ≡ take k b = take_same k n b z (omega arith) (omega arith) in
    let e2 : take r.body_len (drop k (take n b ++ z)) ≡ take r.body_len (drop k b) =
    ap (take r.body_len) (drop_same k n b z (omega arith) (omega arith)) ∙ take_same r.body_len (n - k) (drop k b) z (omega arith) (omega arith) in
    let e3 : entries rs (drop m (take n b ++ z)) ≡ entries rs (drop m b) =
    ap (entries rs) (drop_same m n b z (omega arith) (omega arith)) ∙ entries-unused rs (n - m) (drop m b) z (omega arith) (omega arith) in
    λ i. record { key = e1 i; body = e2 i; expiry = r.expiry } ∷ e3 i

pub sizes-append : (rs qs : List Record) → sizes (rs ++ qs) ≡ sizes rs + sizes qs
sizes-append [] qs = omega arith
sizes-append (r ∷ rs) qs = let h = sizes-append rs qs in omega arith

pub sizes-drop_last : (k : ℕ) (rs ms : List Record) (r : Record) → rs ≡ ms ++ r ∷ [] → k ≤ length ms → sizes (drop k rs) ≡ sizes (drop k ms) + (20 + r.key_len + r.body_len)
sizes-drop_last k rs ms r e h = ap (λ l. sizes (drop k l)) e ∙ ap sizes (drop-append-le k ms (r ∷ []) h) ∙ sizes-append (drop k ms) (r ∷ []) ∙ ap (λ n. sizes (drop k ms) + n) (omega arith)
