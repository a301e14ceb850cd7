-- Connections as they are kept: one is read, changed or removed at its place.
use Rattle.std.proofs.Common.{◌≡◌, ◌≢◌, Some, None, ◌∷◌, ◌<◌, ◌+◌, ℕ, suc, List, [], ◌++◌, length, map, take, drop, get_or, refl, sym, ap, subst, ◌∙◌, arith}
use Rattle.std.specs.Prelude.{set, find}
use Rattle.std.specs.List.{remove, take-map, drop-map}
use Rattle.std.proofs.lemmas.List.{get_or-map, map-set, map-append, length-map}
use Rattle.dc_machine.specs.Machine.{Connection, with_connection, without_connection, renewed}
use Rattle.dc_connections.specs.Places.{no_connection, connection_at, has_number, AreApart, with_more, with_less}
use Rattle.dc_connections.specs.Entries.{connection_of, connections_of}
use Rattle.dc_connections.specs.declared.entry.Entry.{Entry}
use Rattle.dc_connections.proofs.PlaceLemmas.{with_is, with_apart, without_is, without_apart, renewed_is, opened_apart, found_at, passed_at}

pub as_many : (es : List Entry) (cs : List Connection) → connections_of es ≡ cs → length es ≡ length cs
as_many es cs v = sym (length-map es connection_of) ∙ ap length v

kept_at : (es : List Entry) (i : ℕ) (r : Entry) → i < length es → r ≡ get_or es i r → connection_of r ≡ connection_at (connections_of es) i
unfolding connection_at
kept_at es i r h e = ap connection_of e ∙ sym (get_or-map connection_of es i r no_connection h)

-- The one that is read at a place.
pub read_is : (es : List Entry) (cs : List Connection) (i : ℕ) (r : Entry) → connections_of es ≡ cs → i < length cs → r ≡ get_or es i r
    → connection_of r ≡ connection_at cs i
read_is es cs i r v h e =
    let inside : i < length es = omega (arith, as_many es cs v) in
    kept_at es i r inside e ∙ ap (λ ds. connection_at ds i) v

-- Another at its place.
pub put_is : (es : List Entry) (cs : List Connection) (i : ℕ) (e : Entry) (c : Connection) → connections_of es ≡ cs → i < length cs → AreApart (connections_of es)
    → connection_of e ≡ c → c.number ≡ (connection_at cs i).number → connections_of (set es i e) ≡ with_connection c cs
put_is es cs i e c v h a k n =
    let placed : connections_of (set es i e) ≡ set cs i c = map-set connection_of es i e ∙ (ap (λ ds. set ds i (connection_of e)) v ∙ ap (set cs i) k) in
    placed ∙ sym (with_is cs i c h (subst AreApart v a) n)

pub put_apart : (es : List Entry) (i : ℕ) (r e : Entry) → i < length es → r ≡ get_or es i r → AreApart (connections_of es) → e.number ≡ r.number
    → AreApart (connections_of (set es i e))
put_apart es i r e h k a n =
    let size : i < length (connections_of es) = omega (arith, length-map es connection_of) in
    let number : e.number ≡ (connection_at (connections_of es) i).number = n ∙ ap (λ (c : Connection). c.number) (kept_at es i r h k) in
    subst AreApart (sym (put_is es (connections_of es) i e (connection_of e) refl size a refl number)) (with_apart (connection_of e) (connections_of es) a)

pub more_is : (es : List Entry) (cs : List Connection) (i : ℕ) (r : Entry) (bytes new : List ℕ) → connections_of es ≡ cs → i < length cs → AreApart (connections_of es)
    → r ≡ get_or es i r → new ≡ r.stream ++ bytes → connections_of (set es i (record r { stream = new })) ≡ with_connection (with_more bytes (connection_at cs i)) cs
more_is es cs i r bytes new v h a k e =
    let at : connection_of r ≡ connection_at cs i = read_is es cs i r v h k in
    let same : connection_of (record r { stream = new }) ≡ with_more bytes (connection_at cs i) =
    ap (λ (g : List ℕ). record (connection_of r) { gathered = g }) e ∙ ap (with_more bytes) at in
    put_is es cs i (record r { stream = new }) (with_more bytes (connection_at cs i)) v h a same refl

pub less_is : (es : List Entry) (cs : List Connection) (i : ℕ) (r : Entry) (new : List ℕ) → connections_of es ≡ cs → i < length cs → AreApart (connections_of es)
    → r ≡ get_or es i r → new ≡ (with_less (connection_of r)).gathered → connections_of (set es i (record r { stream = new })) ≡ with_connection (with_less (connection_at cs i)) cs
less_is es cs i r new v h a k e =
    let at : connection_of r ≡ connection_at cs i = read_is es cs i r v h k in
    let same : connection_of (record r { stream = new }) ≡ with_less (connection_at cs i) =
    ap (λ (g : List ℕ). record (connection_of r) { gathered = g }) e ∙ ap with_less at in
    put_is es cs i (record r { stream = new }) (with_less (connection_at cs i)) v h a same refl

pub renew_is : (es : List Entry) (cs : List Connection) (i n t : ℕ) (r : Entry) → connections_of es ≡ cs → i < length cs → AreApart (connections_of es)
    → r ≡ get_or es i r → (connection_at cs i).number ≡ n → connections_of (set es i (record r { deadline = t })) ≡ map (renewed n t) cs
renew_is es cs i n t r v h a k e =
    let at : connection_of r ≡ connection_at cs i = read_is es cs i r v h k in
    let same : connection_of (record r { deadline = t }) ≡ record (connection_at cs i) { deadline = t } = ap (λ (c : Connection). record c { deadline = t }) at in
    let placed : connections_of (set es i (record r { deadline = t })) ≡ set cs i (record (connection_at cs i) { deadline = t }) =
    map-set connection_of es i (record r { deadline = t }) ∙ (ap (λ ds. set ds i (connection_of (record r { deadline = t }))) v ∙ ap (set cs i) same) in
    placed ∙ sym (renewed_is cs i n t h (subst AreApart v a) e)

map-remove : (es : List Entry) (i : ℕ) → connections_of (remove es i) ≡ remove (connections_of es) i
map-remove es i =
    map-append connection_of (take i es) (drop (suc i) es)
    ∙ (ap (λ xs. xs ++ map connection_of (drop (suc i) es)) (sym (take-map connection_of i es))
    ∙ ap (λ xs. take i (connections_of es) ++ xs) (sym (drop-map connection_of (suc i) es)))

-- One is removed.
pub removed_is : (es : List Entry) (cs : List Connection) (i : ℕ) → connections_of es ≡ cs → i < length cs → AreApart (connections_of es)
    → connections_of (remove es i) ≡ without_connection (connection_at cs i).number cs
removed_is es cs i v h a =
    map-remove es i ∙ (ap (λ ds. remove ds i) v ∙ sym (without_is cs i h (subst AreApart v a)))

pub removed_apart : (es : List Entry) (cs : List Connection) (i : ℕ) → connections_of es ≡ cs → i < length cs → AreApart (connections_of es)
    → AreApart (connections_of (remove es i))
removed_apart es cs i v h a =
    subst AreApart (sym (removed_is es cs i v h a)) (without_apart (connection_at cs i).number cs (subst AreApart v a))

-- One is opened.
pub added_apart : (es : List Entry) (cs : List Connection) (e : Entry) → connections_of es ≡ cs → find (has_number e.number) cs ≡ None → AreApart (connections_of es)
    → AreApart (connections_of (es ++ e ∷ []))
added_apart es cs e v n a =
    let fresh : find (has_number e.number) (connections_of es) ≡ None = ap (find (has_number e.number)) v ∙ n in
    subst AreApart (sym (map-append connection_of es (e ∷ []))) (opened_apart (connection_of e) (connections_of es) fresh a)

-- The first of a number is looked for.
pub at_place : (es : List Entry) (i : ℕ) (r : Entry) → i < length es → r ≡ get_or es i r → connection_at (connections_of es) i ≡ connection_of r
at_place es i r h e = sym (kept_at es i r h e)

pub kept_found : (es : List Entry) (i n : ℕ) (r : Entry) → i < length es → r ≡ get_or es i r → (get_or es i r).number ≡ n
    → find (has_number n) (connections_of es) ≡ find (has_number n) (drop i (connections_of es)) → Some (connection_at (connections_of es) i) ≡ find (has_number n) (connections_of es)
kept_found es i n r h e k f =
    let size : i < length (connections_of es) = omega (arith, length-map es connection_of) in
    found_at (connections_of es) i n size (ap (λ (c : Connection). c.number) (at_place es i r h e) ∙ (ap (λ (x : Entry). x.number) e ∙ k)) f

pub kept_passed : (es : List Entry) (i n : ℕ) (r : Entry) → i < length es → r ≡ get_or es i r → (get_or es i r).number ≢ n
    → find (has_number n) (connections_of es) ≡ find (has_number n) (drop i (connections_of es)) → find (has_number n) (connections_of es) ≡ find (has_number n) (drop (i + 1) (connections_of es))
kept_passed es i n r h e k f =
    let size : i < length (connections_of es) = omega (arith, length-map es connection_of) in
    passed_at (connections_of es) i n size (λ j. k (sym (ap (λ (x : Entry). x.number) e) ∙ (sym (ap (λ (c : Connection). c.number) (at_place es i r h e)) ∙ j))) f
