-- The servers that a text names, or this machine.
use Rattle.std.proofs.Common.{◌≡◌, ℕ, ◌≤◌, List, [], ◌∷◌, ◌++◌, length, replicate, slice_set, refl, sym, ap, ◌∙◌, arith}
use Rattle.std.specs.List.{filter_map}
use Rattle.std.proofs.lemmas.List.{length-append}
use Rattle.dc_model.specs.Places.{no_address, places_of}
use Rattle.dc_model.specs.Rules.{lines_of}
use Rattle.dc_lookup.specs.Servers.{nameserver_in, own_address, or_own}
use Rattle.dc_rules.proofs.Filling as lines
use Rattle.dc_rules.proofs.Filling.{IsSoFar, so_far_found, so_far_all}

-- some are found, or none
or_own_some : (found : List (List ℕ)) → 1 ≤ length found → or_own found ≡ found
or_own_some [] h = absurd (omega (arith, h))
or_own_some (f ∷ fs) h = refl

or_own_none : (found : List (List ℕ)) → length found ≡ 0 → or_own found ≡ own_address ∷ []
or_own_none [] e = refl
or_own_none (f ∷ fs) e = absurd (omega (arith, e))

-- where some were found, these are all
some_named : (text : List ℕ) (places : List (List ℕ)) (n : ℕ) (left : List (List ℕ)) (s : IsSoFar nameserver_in text places n left) → 1 ≤ n → 1 ≤ length (filter_map nameserver_in (lines_of text))
some_named text places n left s h =
    let all = ap length (so_far_found nameserver_in refl text places n left s) in
    let more = length-append s.found (filter_map nameserver_in left) in
    omega (arith, all, more, s.many, h)

-- sixteen addresses are found, and one more
pub full : (text : List ℕ) (places : List (List ℕ)) (n : ℕ) (old : List (List ℕ)) → IsSoFar nameserver_in text places n old → n ≡ 16 → places ≡ places_of (or_own (filter_map nameserver_in (lines_of text)))
full text places n old s e =
    lines.so_far_full nameserver_in refl text places n old s e ∙ ap places_of (sym (or_own_some (filter_map nameserver_in (lines_of text)) (some_named text places n old s (omega (arith, e)))))

-- all lines are read, and there was an address
pub done : (text : List ℕ) (places : List (List ℕ)) (n : ℕ) (left : List (List ℕ)) → IsSoFar nameserver_in text places n left → left ≡ [] → 1 ≤ n → places ≡ places_of (or_own (filter_map nameserver_in (lines_of text)))
done text places n left s e h =
    lines.so_far_done nameserver_in refl text places n left s e ∙ ap places_of (sym (or_own_some (filter_map nameserver_in (lines_of text)) (some_named text places n left s h)))

-- or none
pub none : (text : List ℕ) (places : List (List ℕ)) (n : ℕ) (left : List (List ℕ)) → IsSoFar nameserver_in text places n left → left ≡ [] → n ≡ 0
    → places_of (own_address ∷ []) ≡ places_of (or_own (filter_map nameserver_in (lines_of text)))
none text places n left s e h =
    let all = so_far_all nameserver_in refl text places n left s e in
    ap places_of (sym (or_own_none (filter_map nameserver_in (lines_of text)) (ap length all ∙ s.many ∙ h)))

-- this machine's address in empty places
first_by : (places : List (List ℕ)) (pad : ℕ) (found : List (List ℕ)) → length found ≡ 0 → pad ≡ 16 → places ≡ found ++ replicate pad no_address → slice_set places 0 own_address ≡ places_of (own_address ∷ [])
first_by places pad [] e p h = ap (λ l. slice_set l 0 own_address) (h ∙ ap (λ k. replicate k no_address) p)
first_by places pad (f ∷ fs) e p h = absurd (omega (arith, e))

pub first_set : (text : List ℕ) (places : List (List ℕ)) (n : ℕ) (left : List (List ℕ)) → IsSoFar nameserver_in text places n left → n ≡ 0 → slice_set places 0 own_address ≡ places_of (own_address ∷ [])
first_set text places n left s e = first_by places s.pad s.found (s.many ∙ e) (omega (arith, s.room, e)) s.places_are
