-- One record after another.
use Rattle.std.proofs.Common.{◌≡◌, ℕ, zero, suc, ◌+◌, ◌-◌, ◌<◌, ◌≤◌, Bool, true, false, cond, ◌||◌, ◌&&◌, ◌==◌, List, [], ◌∷◌, ◌++◌, length, map, drop, refl, sym, ◌∙◌, ap, arith, filter, append_assoc, subst}
use Rattle.std.specs.Prelude.{slice_index, nat_le, flat_map}
use Rattle.std.specs.List.{list_any}
use Rattle.std.proofs.lemmas.List.{append-nil}
use Rattle.std.proofs.lemmas.Grind.{flat_map-append}
use Rattle.std.proofs.lemmas.Bool.Decides.{nat_tests}
use Rattle.dc_model.specs.Name.{Name}
use Rattle.dc_model.specs.Message.{Record, Message, kind_cname, kind_any, kind_axfr, kind_soa, kind_a, kept_ttl}
use Rattle.dc_model.specs.Event.{Action, line}
use Rattle.dc_model.specs.Cache.{Cache, put}
use Rattle.dc_model.specs.Marks.{is_answer}
use Rattle.dc_model.specs.Rules.{Rule, one, two, Zones, in_zone}
use Rattle.dc_model.specs.Bodies.{item_of}
use Rattle.dc_model.specs.Puts.{all_put, put_if_short, key_of, Pair, Given, given_by, counted, is_stored, soa_is_stored, last_alone, first_ttl, rr_line, lines_given, puts_given}
use Rattle.dc_puts.specs.declared.gathered.Gathered.{Gathered}
use Rattle.dc_puts.specs.Held.{Holds}
use Rattle.dc_puts.specs.Order.{records_in}
use Rattle.dc_puts.specs.Told.{counts_for, lines_for, items_for, looked_at, keeps_kind, AreSound, given_in, told}
use Rattle.dc_puts.specs.Group.{first_pair, shared_by}
use Rattle.dc_puts.specs.declared.told.Shared.{Shared}
use Rattle.dc_puts.specs.Kept.{puts_kept}
use Rattle.dc_marks.specs.Places.{record_in}

pub ruleset taking = (append-nil)

pub cons_is : (xs : List ℕ) → 0 < length xs → xs ≡ slice_index xs 0 ∷ drop 1 xs
cons_is [] h = absurd (omega arith)
cons_is (x ∷ xs) h = refl

pub map-append : {X Y : Type 0} (f : X → Y) (xs ys : List X) → map f (xs ++ ys) ≡ map f xs ++ map f ys
map-append f [] ys = refl
map-append f (x ∷ xs) ys = ap (λ zs. f x ∷ zs) (map-append f xs ys)

filter_next : (p : Record → Bool) (r : Record) (rs : List Record) → filter p (r ∷ rs) ≡ filter p (r ∷ []) ++ filter p rs
filter_next p r rs = own (p r) where
  own : (b : Bool) → cond b (r ∷ filter p rs) (filter p rs) ≡ cond b (r ∷ []) [] ++ filter p rs
  own true = refl
  own false = refl

pub lines_next : (server : List ℕ) (ttl kind : ℕ) (owner : Name) (r : Record) (rs : List Record) → lines_for server ttl kind owner (r ∷ rs) ≡ lines_for server ttl kind owner (r ∷ []) ++ lines_for server ttl kind owner rs
unfolding lines_for
lines_next server ttl kind owner r rs =
    let f : Record → Action = λ (x : Record). line (rr_line server ttl kind owner x.body) in
    ap (map f) (filter_next (counts_for kind) r rs) ∙ map-append f (filter (counts_for kind) (r ∷ [])) (filter (counts_for kind) rs)

pub items_next : (kind : ℕ) (r : Record) (rs : List Record) → items_for kind (r ∷ rs) ≡ items_for kind (r ∷ []) ++ items_for kind rs
unfolding items_for
items_next kind r rs =
    let f : Record → List ℕ = λ (x : Record). item_of kind x.body in
    ap (flat_map f) (filter_next (counts_for kind) r rs) ∙ flat_map-append f (filter (counts_for kind) (r ∷ [])) (filter (counts_for kind) rs)

pub lines_none : (server : List ℕ) (ttl kind : ℕ) (owner : Name) → lines_for server ttl kind owner [] ≡ []
unfolding lines_for
lines_none server ttl kind owner = refl

pub items_none : (kind : ℕ) → items_for kind [] ≡ []
unfolding items_for
items_none kind = refl

-- what was gathered is put where it is short

pub put_short : (b : Gathered) (xs key : List ℕ) (owner : Name) (kind ttl second : ℕ) (c : Cache) → key ≡ key_of kind owner → b.fits ≡ true → Holds b xs → put key b.bytes.items ttl second c ≡ all_put (put_if_short owner kind xs ttl) second c
unfolding all_put
put_short b xs key owner kind ttl second c e f h =
    let t : nat_le (length xs) 8192 ≡ true = sym h.short ∙ f in
    let p : put key b.bytes.items ttl second c ≡ put (key_of kind owner) xs ttl second c = ap (λ k. put k b.bytes.items ttl second c) e ∙ ap (λ x. put (key_of kind owner) x ttl second c) (h.bytes f) in
    p ∙ own (nat_le (length xs) 8192) t where
      own : (t : Bool) → t ≡ true → put (key_of kind owner) xs ttl second c ≡ all_put (cond t (record { key = key_of kind owner; body = xs; ttl = ttl } ∷ []) []) second c
      own true e = refl
      own false e = absurd (cc)

pub put_long : (b : Gathered) (xs : List ℕ) (owner : Name) (kind ttl second : ℕ) (c : Cache) → b.fits ≡ false → Holds b xs → c ≡ all_put (put_if_short owner kind xs ttl) second c
unfolding all_put
put_long b xs owner kind ttl second c f h = own (nat_le (length xs) 8192) (sym h.short ∙ f) where
  own : (t : Bool) → t ≡ false → c ≡ all_put (cond t (record { key = key_of kind owner; body = xs; ttl = ttl } ∷ []) []) second c
  own true e = absurd (cc)
  own false e = refl

pub ruleset putting = (put_short, put_long)

-- the records that count

none_kept : (rs : List Record) → filter (λ r. false) rs ≡ []
none_kept [] = refl
none_kept (r ∷ rs) = none_kept rs

all_kept : (rs : List Record) → filter (λ r. true) rs ≡ rs
all_kept [] = refl
all_kept (r ∷ rs) = ap (λ xs. r ∷ xs) (all_kept rs)

-- a step of the walk over a run

pub records_next : (m : Message) (rest more : List ℕ) → 0 < length rest → more ≡ drop 1 rest → records_in m rest ≡ record_in m (slice_index rest 0) ∷ records_in m more
records_next m [] more h e = absurd (omega arith)
records_next m (i ∷ is) more h e = ap (λ xs. record_in m i ∷ records_in m xs) (sym e)

pub sound_next : (m : Message) (rest more : List ℕ) → 0 < length rest → more ≡ drop 1 rest → AreSound m rest → AreSound m more
sound_next m [] more h e s = absurd (omega arith)
sound_next m (i ∷ is) more h e s = subst (AreSound m) (sym e) s.1

or_right : (a b c : Bool) → ((a || b) || c) ≡ (a || (b || c))
or_right true b c = refl
or_right false b c = refl

pub some_next : (a b : Bool) (k : ℕ) (r : Record) (rs ss : List Record) (all : Bool) → b ≡ counts_for k r → ss ≡ r ∷ rs → (a || list_any (counts_for k) ss) ≡ all → ((a || b) || list_any (counts_for k) rs) ≡ all
some_next a b k r rs ss all e f h = or_right a b (list_any (counts_for k) rs) ∙ ap (λ c. a || (c || list_any (counts_for k) rs)) e ∙ ap (λ xs. a || list_any (counts_for k) xs) (sym f) ∙ h

pub nil_is : (xs : List ℕ) → length xs < 1 → xs ≡ []
nil_is [] h = refl
nil_is (x ∷ xs) h = absurd (omega arith)

-- the records that count, and what is kept of them

counted_is : (kind : ℕ) (rs : List Record) → counted kind rs ≡ filter (counts_for kind) (looked_at kind rs)
unfolding counted counts_for
counted_is kind rs =
    own (kind == kind_any || kind == kind_axfr) (kind == kind_soa) (kind == kind_cname) (kind == kind_a) (λ h k. apart_soa kind h k) (λ h k. apart_a kind h k) where
      apart_soa : (kind : ℕ) → (kind == kind_soa) ≡ true → (kind == kind_cname) ≡ true → ⊥
      apart_soa kind h k = grind (arith, nat_tests)

      apart_a : (kind : ℕ) → (kind == kind_cname) ≡ true → (kind == kind_a) ≡ true → ⊥
      apart_a kind h k = grind (arith, nat_tests)

      own : (n s c a : Bool) → (s ≡ true → c ≡ true → ⊥) → (c ≡ true → a ≡ true → ⊥) → cond n [] (cond s (filter (λ r. is_answer r.section) rs) (cond c (last_alone rs) (cond a (filter (λ r. r.len == 4) rs) rs)))
          ≡ filter (λ r. cond n false (cond s (is_answer r.section) (cond a (r.len == 4) true))) (cond c (last_alone rs) rs)
      own true s c a f g = sym (none_kept (cond c (last_alone rs) rs))
      own false true true a f g = absurd (f refl refl)
      own false true false a f g = refl
      own false false true true f g = absurd (g refl refl)
      own false false true false f g = sym (all_kept (last_alone rs))
      own false false false true f g = refl
      own false false false false f g = sym (all_kept rs)

soa_two : (p : Record → Bool) (xs : List Record) → soa_is_stored two (filter p xs) ≡ list_any p xs
soa_two p [] = refl
soa_two p (x ∷ xs) = own (p x) (soa_two p xs) where
  own : (b : Bool) → soa_is_stored two (filter p xs) ≡ list_any p xs → soa_is_stored two (cond b (x ∷ filter p xs) (filter p xs)) ≡ (b || list_any p xs)
  own true h = refl
  own false h = h

stored_is : (rule : Rule) (kind : ℕ) (p : Record → Bool) (xs : List Record) → is_stored rule kind (filter p xs) ≡ keeps_kind rule kind (list_any p xs)
unfolding is_stored
stored_is one kind p xs = refl
stored_is two kind p xs = ap (λ b. cond (kind == kind_any || kind == kind_axfr) false (cond (kind == kind_soa) b true)) (soa_two p xs)

map-map : {X Y Z : Type 0} (f : Y → Z) (g : X → Y) (xs : List X) → map f (map g xs) ≡ map (λ x. f (g x)) xs
map-map f g [] = refl
map-map f g (x ∷ xs) = ap (λ ys. f (g x) ∷ ys) (map-map f g xs)

pub given_lines : (rule : Rule) (server : List ℕ) (p : Pair) (rs : List Record) → map line (given_by rule server p rs).lines ≡ lines_for server (first_ttl rs) p.kind p.owner (looked_at p.kind rs)
unfolding given_by lines_for
given_lines rule server p rs =
    let f : Record → List ℕ = λ (r : Record). rr_line server (first_ttl rs) p.kind p.owner r.body in
    map-map line f (counted p.kind rs) ∙ ap (map (λ r. line (f r))) (counted_is p.kind rs)

pub given_puts : (rule : Rule) (server : List ℕ) (p : Pair) (rs : List Record) → (given_by rule server p rs).puts ≡ puts_kept rule (first_ttl rs) p.kind p.owner (looked_at p.kind rs)
unfolding given_by items_for
given_puts rule server p rs =
    let f : Record → List ℕ = λ (r : Record). item_of p.kind r.body in
    ap (λ cs. cond (is_stored rule p.kind cs) (put_if_short p.owner p.kind (flat_map f cs) (first_ttl rs)) []) (counted_is p.kind rs)
    ∙ ap (λ b. cond b (put_if_short p.owner p.kind (flat_map f (filter (counts_for p.kind) (looked_at p.kind rs))) (first_ttl rs)) []) (stored_is rule p.kind (counts_for p.kind) (looked_at p.kind rs))

last_drop : (g : ℕ → Record) (i : ℕ) (is : List ℕ) → map g (drop (length (i ∷ is) - 1) (i ∷ is)) ≡ last_alone (map g (i ∷ is))
last_drop g i [] = refl
last_drop g i (j ∷ is) =
    let e : length (i ∷ j ∷ is) - 1 ≡ suc (length (j ∷ is) - 1) = omega arith in
    ap (λ n. map g (drop n (i ∷ j ∷ is))) e ∙ last_drop g j is

-- the numbers of those that are looked at
pub looked_records : (m : Message) (kind : ℕ) (run is : List ℕ) → 0 < length run → is ≡ cond (kind == kind_cname) (drop (length run - 1) run) run → records_in m is ≡ looked_at kind (records_in m run)
looked_records m kind [] is h e = absurd (omega arith)
looked_records m kind (i ∷ run) is h e = ap (records_in m) e ∙ own (kind == kind_cname) where
  own : (c : Bool) → records_in m (cond c (drop (length (i ∷ run) - 1) (i ∷ run)) (i ∷ run)) ≡ cond c (last_alone (records_in m (i ∷ run))) (records_in m (i ∷ run))
  own true = last_drop (record_in m) i run
  own false = refl

pub sound_drop : (m : Message) (n : ℕ) (is : List ℕ) → AreSound m is → AreSound m (drop n is)
sound_drop m zero is h = h
sound_drop m (suc n) [] h = h
sound_drop m (suc n) (i ∷ is) h = sound_drop m n is h.1

pub looked_sound : (m : Message) (kind : ℕ) (run is : List ℕ) → is ≡ cond (kind == kind_cname) (drop (length run - 1) run) run → AreSound m run → AreSound m is
looked_sound m kind run is e h = subst (AreSound m) (sym e) (own (kind == kind_cname)) where
  own : (c : Bool) → AreSound m (cond c (drop (length run - 1) run) run)
  own true = sound_drop m (length run - 1) run h
  own false = h

pub kept_yes : (rule : Rule) (ttl kind : ℕ) (owner : Name) (rs ss : List Record) (second : ℕ) (c : Cache) → keeps_kind rule kind (list_any (counts_for kind) rs) ≡ true → rs ≡ ss → all_put (put_if_short owner kind (items_for kind rs) ttl) second c ≡ all_put (puts_kept rule ttl kind owner ss) second c
kept_yes rule ttl kind owner rs ss second c t e =
    sym (ap (λ b. all_put (cond b (put_if_short owner kind (items_for kind rs) ttl) []) second c) t) ∙ ap (λ xs. all_put (puts_kept rule ttl kind owner xs) second c) e

pub kept_no : (rule : Rule) (ttl kind : ℕ) (owner : Name) (rs ss : List Record) (second : ℕ) (c : Cache) → keeps_kind rule kind (list_any (counts_for kind) rs) ≡ false → rs ≡ ss → c ≡ all_put (puts_kept rule ttl kind owner ss) second c
unfolding all_put
kept_no rule ttl kind owner rs ss second c t e =
    sym (ap (λ b. all_put (cond b (put_if_short owner kind (items_for kind rs) ttl) []) second c) t) ∙ ap (λ xs. all_put (puts_kept rule ttl kind owner xs) second c) e

-- what a run gives

pub first_is : (m : Message) (run : List ℕ) → 0 < length run → first_ttl (records_in m run) ≡ kept_ttl (record_in m (slice_index run 0)).ttl
first_is m [] h = absurd (omega arith)
first_is m (i ∷ run) h = refl

in_told : (zones : Zones) (control : Name) (server : List ℕ) (p : Pair) (rs : List Record) → in_zone zones control p.owner ≡ true → told (given_in zones control server p rs) ≡ lines_for server (first_ttl rs) p.kind p.owner (looked_at p.kind rs)
unfolding told given_in lines_given
in_told zones control server p rs t =
    ap (λ b. map line (flat_map (λ (x : Given). x.lines) (cond b (given_by zones.rule server p rs ∷ []) []))) t
    ∙ ap (map line) (append-nil (given_by zones.rule server p rs).lines) ∙ given_lines zones.rule server p rs

in_puts : (zones : Zones) (control : Name) (server : List ℕ) (p : Pair) (rs : List Record) → in_zone zones control p.owner ≡ true → puts_given (given_in zones control server p rs) ≡ puts_kept zones.rule (first_ttl rs) p.kind p.owner (looked_at p.kind rs)
unfolding given_in puts_given
in_puts zones control server p rs t =
    ap (λ b. flat_map (λ (x : Given). x.puts) (cond b (given_by zones.rule server p rs ∷ []) [])) t
    ∙ append-nil (given_by zones.rule server p rs).puts ∙ given_puts zones.rule server p rs

out_told : (zones : Zones) (control : Name) (server : List ℕ) (p : Pair) (rs : List Record) → in_zone zones control p.owner ≡ false → told (given_in zones control server p rs) ≡ []
unfolding told given_in lines_given
out_told zones control server p rs t = ap (λ b. map line (flat_map (λ (x : Given). x.lines) (cond b (given_by zones.rule server p rs ∷ []) []))) t

out_puts : (zones : Zones) (control : Name) (server : List ℕ) (p : Pair) (rs : List Record) (second : ℕ) (c : Cache) → in_zone zones control p.owner ≡ false → all_put (puts_given (given_in zones control server p rs)) second c ≡ c
unfolding given_in puts_given all_put
out_puts zones control server p rs second c t = ap (λ b. all_put (flat_map (λ (x : Given). x.puts) (cond b (given_by zones.rule server p rs ∷ []) [])) second c) t

pub acts_in : {O : Type 0} (acted : O → List Action → O → Type 0) (a b : O) (m : Message) (zones : Zones) (control : Name) (server run : List ℕ) (s : Shared) → s ≡ shared_by m server run → in_zone zones control s.owner ≡ true
    → acted a (lines_for s.server s.ttl s.kind s.owner (looked_at s.kind (records_in m run))) b → acted a (told (given_in zones control server (first_pair m run) (records_in m run))) b
acts_in acted a b m zones control server run s e t h =
    subst (λ ls. acted a ls b) (sym (in_told zones control server (first_pair m run) (records_in m run) (ap (λ (x : Shared). in_zone zones control x.owner) (sym e) ∙ t)))
    (subst (λ (x : Shared). acted a (lines_for x.server x.ttl x.kind x.owner (looked_at x.kind (records_in m run))) b) e h)

pub cache_in : (old new : Cache) (second : ℕ) (m : Message) (zones : Zones) (control : Name) (server run : List ℕ) (s : Shared) (rule : Rule) → s ≡ shared_by m server run → rule ≡ zones.rule → in_zone zones control s.owner ≡ true
    → new ≡ all_put (puts_kept rule s.ttl s.kind s.owner (looked_at s.kind (records_in m run))) second old → new ≡ all_put (puts_given (given_in zones control server (first_pair m run) (records_in m run))) second old
cache_in old new second m zones control server run s rule e r t h =
    h ∙ ap (λ (x : Shared). all_put (puts_kept rule x.ttl x.kind x.owner (looked_at x.kind (records_in m run))) second old) e
    ∙ ap (λ (x : Rule). all_put (puts_kept x (shared_by m server run).ttl (shared_by m server run).kind (shared_by m server run).owner (looked_at (shared_by m server run).kind (records_in m run))) second old) r
    ∙ ap (λ ps. all_put ps second old) (sym (in_puts zones control server (first_pair m run) (records_in m run) (ap (λ (x : Shared). in_zone zones control x.owner) (sym e) ∙ t)))

pub acts_out : {O : Type 0} (acted : O → List Action → O → Type 0) (a : O) (m : Message) (zones : Zones) (control : Name) (server run : List ℕ) (s : Shared) → s ≡ shared_by m server run → in_zone zones control s.owner ≡ false
    → acted a [] a → acted a (told (given_in zones control server (first_pair m run) (records_in m run))) a
acts_out acted a m zones control server run s e t h =
    subst (λ ls. acted a ls a) (sym (out_told zones control server (first_pair m run) (records_in m run) (ap (λ (x : Shared). in_zone zones control x.owner) (sym e) ∙ t))) h

pub cache_out : (old : Cache) (second : ℕ) (m : Message) (zones : Zones) (control : Name) (server run : List ℕ) (s : Shared) → s ≡ shared_by m server run → in_zone zones control s.owner ≡ false
    → old ≡ all_put (puts_given (given_in zones control server (first_pair m run) (records_in m run))) second old
cache_out old second m zones control server run s e t = sym (out_puts zones control server (first_pair m run) (records_in m run) second old (ap (λ (x : Shared). in_zone zones control x.owner) (sym e) ∙ t))
