-- The servers of a zone's line, word by word.
use Rattle.std.proofs.Common.{◌≡◌, ℕ, ◌+◌, ◌<◌, ◌≤◌, zero, suc, leb, cond, Bool, true, false, List, [], ◌∷◌, ◌++◌, length, take, replicate, slice_set, refl, sym, ap, ◌∙◌, arith, append_assoc, length-append, Option, Some, None, option_map, option_and_then}
use Rattle.std.proofs.lemmas.List.{append-nil}
use Rattle.std.proofs.lemmas.Bool.Decides.{nat_tests}
use Rattle.dc_model.specs.Places.{no_address, places_of}
use Rattle.dc_script.specs.Script.{Words}
use Rattle.dc_script.specs.Heading.{server_word, servers_said, places_said}

take_empty : (pad k : ℕ) → pad ≤ k → take pad (replicate k no_address) ≡ replicate pad no_address
take_empty zero k h = refl
take_empty (suc pad) zero h = absurd (omega arith)
take_empty (suc pad) (suc k) h = ap (λ ps. no_address ∷ ps) (take_empty pad k (omega arith))

-- Places that are filled from the first on.
filled_is : (found : List (List ℕ)) (n pad k : ℕ) → length found + pad ≡ n → pad ≤ k → take n (found ++ replicate k no_address) ≡ found ++ replicate pad no_address
filled_is [] n pad k e h = let is : n ≡ pad = omega arith in ap (λ m. take m (replicate k no_address)) is ∙ take_empty pad k h
filled_is (f ∷ fs) zero pad k e h = absurd (omega arith)
filled_is (f ∷ fs) (suc n) pad k e h = ap (λ ps. f ∷ ps) (filled_is fs n pad k (omega arith) h)

set_first_empty : (found : List (List ℕ)) (n pad : ℕ) (addr : List ℕ) → length found ≡ n → slice_set (found ++ replicate (suc pad) no_address) n addr ≡ (found ++ (addr ∷ [])) ++ replicate pad no_address
set_first_empty [] zero pad addr e = refl
set_first_empty [] (suc n) pad addr e = absurd (omega arith)
set_first_empty (f ∷ fs) zero pad addr e = absurd (omega arith)
set_first_empty (f ∷ fs) (suc n) pad addr e = ap (λ l. f ∷ l) (set_first_empty fs n pad addr (omega arith))

-- How far the words are read: the addresses found, in the first places, and the words that are left.
pub record IsSoFar (all : Words) (places : List (List ℕ)) (filled : ℕ) (left : Words) : Type 0 where
  pub found : List (List ℕ)
  pub pad : ℕ
  pub many : length found ≡ filled
  pub room : filled + pad ≡ 16
  pub places_are : places ≡ found ++ replicate pad no_address
  pub count : length all ≡ filled + length left
  pub rest : servers_said all ≡ option_map (λ more. found ++ more) (servers_said left)

same_option : (o : Option (List (List ℕ))) → o ≡ option_map (λ more. [] ++ more) o
same_option None = refl
same_option (Some x) = refl

pub so_far_start : (all : Words) (places left : List (List ℕ)) → places ≡ replicate 16 no_address → left ≡ all → IsSoFar all places 0 left
so_far_start all places left p e = record {
  found = [];
  pad = 16;
  many = refl;
  room = refl;
  places_are = p;
  count = omega (arith, ap length e);
  rest = ap servers_said (sym e) ∙ same_option (servers_said left);
}

behind_one : (found : List (List ℕ)) (a : List ℕ) (o : Option (List (List ℕ)))
    → option_map (λ more. found ++ more) (option_map (λ more. a ∷ more) o) ≡ option_map (λ more. (found ++ (a ∷ [])) ++ more) o
behind_one found a None = refl
behind_one found a (Some x) = ap (λ l. Some l) (sym (append_assoc found (a ∷ []) x))

said_more : (w : List ℕ) (ws : Words) (a : List ℕ) → server_word w ≡ Some a → servers_said (w ∷ ws) ≡ option_map (λ more. a ∷ more) (servers_said ws)
said_more w ws a e = ap (option_and_then (λ b. option_map (λ more. b ∷ more) (servers_said ws))) e

said_none : (w : List ℕ) (ws : Words) → server_word w ≡ None → servers_said (w ∷ ws) ≡ None
said_none w ws e = ap (option_and_then (λ b. option_map (λ more. b ∷ more) (servers_said ws))) e

more_by : (all : Words) (places : List (List ℕ)) (n pad : ℕ) (found : List (List ℕ)) (new : Words) (a : List ℕ) → length found ≡ n → n + pad ≡ 16 → n < 16
    → places ≡ found ++ replicate pad no_address → length all ≡ n + 1 + length new
    → servers_said all ≡ option_map (λ more. (found ++ (a ∷ [])) ++ more) (servers_said new) → IsSoFar all (slice_set places n a) (n + 1) new
more_by all places n zero found new a m r h p c e = absurd (omega arith)
more_by all places n (suc pad) found new a m r h p c e =
    let sum = length-append found (a ∷ []) in
    record {
      found = found ++ (a ∷ []);
      pad = pad;
      many = omega (arith, sum);
      room = omega arith;
      places_are = ap (λ l. slice_set l n a) p ∙ set_first_empty found n pad a m;
      count = c;
      rest = e;
    }

-- One more server.
pub so_far_more : (all : Words) (places : List (List ℕ)) (n : ℕ) (old new : Words) (w a : List ℕ) → IsSoFar all places n old → old ≡ w ∷ new → server_word w ≡ Some a → n < 16
    → IsSoFar all (slice_set places n a) (n + 1) new
so_far_more all places n old new w a s e some h =
    let rest = s.rest ∙ ap (λ l. option_map (λ more. s.found ++ more) (servers_said l)) e ∙ ap (option_map (λ more. s.found ++ more)) (said_more w new a some) ∙ behind_one s.found a (servers_said new) in
    let count = s.count in
    more_by all places n s.pad s.found new a s.many s.room h s.places_are (omega (arith, count, ap length e)) rest

none_by : (b : Bool) → cond b (option_map places_of None) None ≡ None
none_by true = refl
none_by false = refl

-- A word that is no server's address.
pub so_far_none : (all : Words) (places : List (List ℕ)) (n : ℕ) (old new : Words) (w : List ℕ) → IsSoFar all places n old → old ≡ w ∷ new → server_word w ≡ None → places_said all ≡ None
unfolding places_said
so_far_none all places n old new w s e none =
    let said : servers_said all ≡ None = s.rest ∙ ap (λ l. option_map (λ more. s.found ++ more) (servers_said l)) e ∙ ap (option_map (λ more. s.found ++ more)) (said_none w new none) in
    ap (λ o. cond (leb (length all) 16) (option_map places_of o) None) said ∙ none_by (leb (length all) 16)

-- Sixteen servers and one more word.
pub so_far_full : (all : Words) (places : List (List ℕ)) (n : ℕ) (old new : Words) (w : List ℕ) → IsSoFar all places n old → old ≡ w ∷ new → n ≡ 16 → places_said all ≡ None
unfolding places_said
so_far_full all places n old new w s e full =
    let count = s.count in
    let many : 16 < length all = omega (arith, count, ap length e, full) in
    let over : leb (length all) 16 ≡ false = grind (arith, nat_tests) in
    ap (λ b. cond b (option_map places_of (servers_said all)) None) over

-- No word is left.
pub so_far_done : (all : Words) (places : List (List ℕ)) (n : ℕ) (left : Words) → IsSoFar all places n left → left ≡ [] → (places_said all ≡ Some places) × (n ≡ length all)
unfolding places_said
so_far_done all places n left s e =
    let count = s.count in
    let many = s.many in
    let room = s.room in
    let all_of : n ≡ length all = omega (arith, count, ap length e) in
    let few : length all ≤ 16 = omega (arith, all_of, room) in
    let within : leb (length all) 16 ≡ true = grind (arith, nat_tests) in
    let said : servers_said all ≡ Some (s.found ++ []) = s.rest ∙ ap (λ l. option_map (λ more. s.found ++ more) (servers_said l)) e in
    let filled : places_of (s.found ++ []) ≡ places =
    ap places_of (append-nil s.found) ∙ filled_is s.found 16 s.pad 16 (omega (arith, many, room)) (omega (arith, room)) ∙ sym s.places_are in (
      ap (λ b. cond b (option_map places_of (servers_said all)) None) within ∙ ap (option_map places_of) said ∙ ap (λ l. Some l) filled,
      all_of,
    )
