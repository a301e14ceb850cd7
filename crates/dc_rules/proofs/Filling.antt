-- The servers of a text, line by line, where a line names one by `f`.
use Rattle.std.proofs.Common.{◌≡◌, ℕ, ◌+◌, ◌<◌, ◌≤◌, zero, suc, ◌==◌, List, [], ◌∷◌, ◌++◌, length, take, replicate, slice_set, refl, sym, ap, ◌∙◌, arith, append_assoc, Option, Some, None}
use Rattle.std.specs.List.{filter_map, cons_option, slice_split}
use Rattle.std.proofs.lemmas.List.{length-append, append-nil}
use Rattle.dc_model.specs.Places.{no_address, places_of, empty_places}
use Rattle.dc_model.specs.Rules.{address_in, lines_from, lines_of, read_servers}

-- an empty line names no server
lines_count : (f : List ℕ → Option (List ℕ)) → f [] ≡ None → (ls : List (List ℕ)) → filter_map f (lines_from ls) ≡ filter_map f ls
lines_count f e [] = refl
lines_count f e ([] ∷ []) = sym (ap (λ o. cons_option o []) e)
lines_count f e ([] ∷ y ∷ ys) = ap (cons_option (f [])) (lines_count f e (y ∷ ys))
lines_count f e ((c ∷ cs) ∷ ls) = ap (cons_option (f (c ∷ cs))) (lines_count f e ls)

take_empty : (pad k : ℕ) → pad ≤ k → take pad (replicate k no_address) ≡ replicate pad no_address
take_empty zero k h = refl
take_empty (suc pad) zero h = absurd (omega arith)
take_empty (suc pad) (suc k) h = ap (λ ps. no_address ∷ ps) (take_empty pad k (omega arith))

-- places that are filled from the first on
filled_is : (found : List (List ℕ)) (n pad k : ℕ) → length found + pad ≡ n → pad ≤ k → take n (found ++ replicate k no_address) ≡ found ++ replicate pad no_address
filled_is [] n pad k e h = let is : n ≡ pad = omega arith in ap (λ m. take m (replicate k no_address)) is ∙ take_empty pad k h
filled_is (f ∷ fs) zero pad k e h = absurd (omega arith)
filled_is (f ∷ fs) (suc n) pad k e h = ap (λ ps. f ∷ ps) (filled_is fs n pad k (omega arith) h)

-- nothing is left for an address past the last place
take_front : (xs ys : List (List ℕ)) (n : ℕ) → length xs ≡ n → take n (xs ++ ys) ≡ xs
take_front [] ys n e = let is : n ≡ 0 = omega arith in ap (λ m. take m ys) is
take_front (x ∷ xs) ys zero e = absurd (omega arith)
take_front (x ∷ xs) ys (suc n) e = ap (λ l. x ∷ l) (take_front xs ys n (omega arith))

set_first_empty : (found : List (List ℕ)) (n pad : ℕ) (addr : List ℕ) → length found ≡ n → slice_set (found ++ replicate (suc pad) no_address) n addr ≡ (found ++ (addr ∷ [])) ++ replicate pad no_address
set_first_empty [] zero pad addr e = refl
set_first_empty [] (suc n) pad addr e = absurd (omega arith)
set_first_empty (f ∷ fs) zero pad addr e = absurd (omega arith)
set_first_empty (f ∷ fs) (suc n) pad addr e = ap (λ l. f ∷ l) (set_first_empty fs n pad addr (omega arith))

-- how far a text is read: the addresses found, in the first places, and the lines that are left
pub record IsSoFar (f : List ℕ → Option (List ℕ)) (text : List ℕ) (places : List (List ℕ)) (filled : ℕ) (left : List (List ℕ)) : Type 0 where
  pub found : List (List ℕ)
  pub pad : ℕ
  pub many : length found ≡ filled
  pub room : filled + pad ≡ 16
  pub places_are : places ≡ found ++ replicate pad no_address
  pub rest : filter_map f (slice_split (λ c. c == 10) text) ≡ found ++ filter_map f left

pub so_far_start : (f : List ℕ → Option (List ℕ)) (text : List ℕ) (places left : List (List ℕ)) → places ≡ replicate 16 no_address → left ≡ slice_split (λ c. c == 10) text → IsSoFar f text places 0 left
so_far_start f text places left p e = record { found = []; pad = 16; many = refl; room = refl; places_are = p; rest = ap (λ l. filter_map f l) (sym e) }

-- a line without an address
pub so_far_other : (f : List ℕ → Option (List ℕ)) (text : List ℕ) (places : List (List ℕ)) (n : ℕ) (old new : List (List ℕ)) (line : List ℕ) → IsSoFar f text places n old → old ≡ line ∷ new → f line ≡ None → IsSoFar f text places n new
so_far_other f text places n old new line s e none = record {
  found = s.found;
  pad = s.pad;
  many = s.many;
  room = s.room;
  places_are = s.places_are;
  rest = s.rest ∙ ap (λ l. s.found ++ filter_map f l) e ∙ ap (λ o. s.found ++ cons_option o (filter_map f new)) none;
}

more_by : (f : List ℕ → Option (List ℕ)) (text : List ℕ) (places : List (List ℕ)) (n pad : ℕ) (found new : List (List ℕ)) (addr : List ℕ) → length found ≡ n → n + pad ≡ 16 → n < 16 → places ≡ found ++ replicate pad no_address
    → filter_map f (slice_split (λ c. c == 10) text) ≡ (found ++ (addr ∷ [])) ++ filter_map f new → IsSoFar f text (slice_set places n addr) (n + 1) new
more_by f text places n zero found new addr m r h p e = absurd (omega arith)
more_by f text places n (suc pad) found new addr m r h p e =
    let c = length-append found (addr ∷ []) in
    record {
      found = found ++ (addr ∷ []);
      pad = pad;
      many = omega (arith, c);
      room = omega arith;
      places_are = ap (λ l. slice_set l n addr) p ∙ set_first_empty found n pad addr m;
      rest = e;
    }

-- a line with an address
pub so_far_more : (f : List ℕ → Option (List ℕ)) (text : List ℕ) (places : List (List ℕ)) (n : ℕ) (old new : List (List ℕ)) (line addr : List ℕ) → IsSoFar f text places n old → old ≡ line ∷ new → f line ≡ Some addr → n < 16 → IsSoFar f text (slice_set places n addr) (n + 1) new
so_far_more f text places n old new line addr s e some h =
    let rest = s.rest ∙ ap (λ l. s.found ++ filter_map f l) e ∙ ap (λ o. s.found ++ cons_option o (filter_map f new)) some ∙ sym (append_assoc s.found (addr ∷ []) (filter_map f new)) in
    more_by f text places n s.pad s.found new addr s.many s.room h s.places_are rest

-- those of the text are those found, and those of the lines that are left
pub so_far_found : (f : List ℕ → Option (List ℕ)) → f [] ≡ None → (text : List ℕ) (places : List (List ℕ)) (n : ℕ) (left : List (List ℕ)) (s : IsSoFar f text places n left)
    → filter_map f (lines_of text) ≡ s.found ++ filter_map f left
so_far_found f none text places n left s = lines_count f none (slice_split (λ c. c == 10) text) ∙ s.rest

pub so_far_all : (f : List ℕ → Option (List ℕ)) → f [] ≡ None → (text : List ℕ) (places : List (List ℕ)) (n : ℕ) (left : List (List ℕ)) (s : IsSoFar f text places n left) → left ≡ []
    → filter_map f (lines_of text) ≡ s.found
so_far_all f none text places n left s e = so_far_found f none text places n left s ∙ ap (λ l. s.found ++ filter_map f l) e ∙ append-nil s.found

-- sixteen addresses are found, and one more
pub so_far_full : (f : List ℕ → Option (List ℕ)) → f [] ≡ None → (text : List ℕ) (places : List (List ℕ)) (n : ℕ) (old : List (List ℕ)) → IsSoFar f text places n old → n ≡ 16
    → places ≡ places_of (filter_map f (lines_of text))
so_far_full f none text places n old s e =
    let full : s.pad ≡ 0 = omega (arith, s.room, e) in
    s.places_are ∙ ap (λ k. s.found ++ replicate k no_address) full ∙ append-nil s.found ∙ sym (take_front s.found (filter_map f old ++ empty_places) 16 (s.many ∙ e))
    ∙ ap (λ l. take 16 l) (sym (append_assoc s.found (filter_map f old) empty_places)) ∙ ap places_of (sym (so_far_found f none text places n old s))

-- all lines are read
pub so_far_done : (f : List ℕ → Option (List ℕ)) → f [] ≡ None → (text : List ℕ) (places : List (List ℕ)) (n : ℕ) (left : List (List ℕ)) → IsSoFar f text places n left → left ≡ []
    → places ≡ places_of (filter_map f (lines_of text))
so_far_done f none text places n left s e =
    let m = s.many in
    let r = s.room in
    s.places_are ∙ sym (filled_is s.found 16 s.pad 16 (omega arith) (omega arith)) ∙ ap places_of (sym (so_far_all f none text places n left s e))

pub read_is : (text : List ℕ) → places_of (filter_map address_in (lines_of text)) ≡ read_servers text
unfolding read_servers
read_is text = refl
