-- The places that aren't empty, one by one.
use Rattle.std.proofs.Common.{◌≡◌, ℕ, suc, ◌+◌, ◌<◌, Bool, true, false, not, if◌then◌else◌, ◌&&◌, List, [], ◌∷◌, length, drop, get_or, refl, sym, ◌∙◌, ap, drop-cons, add-one}
use Rattle.std.proofs.lemmas.List.{get_or_default}
use Rattle.dc_model.specs.Places.{no_address, is_empty_place, all_empty}
use Rattle.dc_model.specs.Transmission.{filled_from}
use Rattle.dc_transmit.specs.Rounds.{places_from}

pub place_is : (n : ℕ) (servers : List (List ℕ)) → n < length servers →
    places_from n servers ≡ (if is_empty_place (get_or servers n no_address) then places_from (n + 1) servers else n ∷ places_from (n + 1) servers)
unfolding places_from filled_from
place_is n servers h =
    let more : suc n ≡ n + 1 = sym (add-one n) in
    let cut : drop n servers ≡ get_or servers n no_address ∷ drop (n + 1) servers =
    drop-cons servers n no_address h ∙ ap (λ k. get_or servers n no_address ∷ drop k servers) more in
    ap (λ r. filled_from n r) cut

pub place_empty : (n : ℕ) (servers : List (List ℕ)) → n < length servers → is_empty_place (get_or servers n no_address) ≡ true → places_from n servers ≡ places_from (n + 1) servers
place_empty n servers h e = place_is n servers h ∙ ap (λ b. if b then places_from (n + 1) servers else n ∷ places_from (n + 1) servers) e

pub place_filled : (n : ℕ) (servers : List (List ℕ)) → n < length servers → is_empty_place (get_or servers n no_address) ≡ false → places_from n servers ≡ n ∷ places_from (n + 1) servers
place_filled n servers h e = place_is n servers h ∙ ap (λ b. if b then places_from (n + 1) servers else n ∷ places_from (n + 1) servers) e

drop_all : (servers : List (List ℕ)) → drop (length servers) servers ≡ []
drop_all [] = refl
drop_all (s ∷ servers) = drop_all servers

pub places_end : (n : ℕ) (servers : List (List ℕ)) → length servers ≡ n → places_from n servers ≡ []
unfolding places_from filled_from
places_end n servers e = ap (λ k. filled_from n (drop k servers)) (sym e) ∙ ap (λ r. filled_from n r) (drop_all servers)

-- Where no place is left, each is empty.
none_by : (b : Bool) (n : ℕ) (servers : List (List ℕ)) → (filled_from (n + 1) servers ≡ [] → all_empty servers ≡ true)
    → (if b then filled_from (n + 1) servers else n ∷ filled_from (n + 1) servers) ≡ [] → (b && all_empty servers) ≡ true
none_by true n servers k e = k e
none_by false n servers k e = cc

pub none_filled : (n : ℕ) (servers : List (List ℕ)) → filled_from n servers ≡ [] → all_empty servers ≡ true
unfolding filled_from
none_filled n [] e = refl
none_filled n (s ∷ servers) e = none_by (is_empty_place s) n servers (none_filled (n + 1) servers) e

-- What a test of one place tells.
not_true : (b : Bool) → true ≡ not b → b ≡ false
not_true true h = h
not_true false h = refl

not_false : (b : Bool) → false ≡ not b → b ≡ true
not_false true h = refl
not_false false h = cc

read_place : (n : ℕ) (servers : List (List ℕ)) → n < length servers → is_empty_place (get_or servers n no_address) ≡ is_empty_place (get_or servers n [])
read_place n servers h = ap (λ x. is_empty_place x) (get_or_default servers n no_address [] h)

pub place_used : (n : ℕ) (servers : List (List ℕ)) (r : Bool) → n < length servers → r ≡ not (is_empty_place (get_or servers n [])) → r ≡ true
    → places_from n servers ≡ n ∷ places_from (n + 1) servers
place_used n servers r h e t = place_filled n servers h (read_place n servers h ∙ not_true (is_empty_place (get_or servers n [])) (sym t ∙ e))

pub place_free : (n : ℕ) (servers : List (List ℕ)) (r : Bool) → n < length servers → r ≡ not (is_empty_place (get_or servers n [])) → r ≡ false
    → places_from n servers ≡ places_from (n + 1) servers
place_free n servers r h e t = place_empty n servers h (read_place n servers h ∙ not_false (is_empty_place (get_or servers n [])) (sym t ∙ e))
