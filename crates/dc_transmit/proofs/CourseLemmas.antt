-- Tries, round by round.
use Rattle.std.proofs.Common.{◌≡◌, ℕ, ◌+◌, List, [], ◌∷◌, ◌++◌, Some, None, refl, sym, ◌∙◌, ap}
use Rattle.dc_model.specs.Transmission.{round_of}
use Rattle.dc_transmit.specs.Rounds.{wait_of, waits_after, tries_at, tries_over, tries_from, places_from, places_of}
use Rattle.dc_transmit.specs.Course.{later_of, tries_of}
use Rattle.dc_transmit.specs.declared.round.Round.{Round}
use Rattle.dc_transmit.specs.declared.course.Course.{Course}

-- Where each place is empty there are no tries.
none_over : (waits : List ℕ) (servers : List (List ℕ)) → places_from 0 servers ≡ [] → tries_over waits servers ≡ []
unfolding tries_over tries_at places_from round_of
none_over [] servers e = refl
none_over (w ∷ ws) servers e = ap (λ r. tries_at w r ++ tries_over ws servers) e ∙ none_over ws servers e

pub first_none : (round : Round) (servers : List (List ℕ)) → places_from 0 servers ≡ places_of None servers → tries_of None servers ≡ tries_from round servers
unfolding tries_of tries_from places_of
first_none round servers e = sym (none_over (wait_of round ∷ waits_after round) servers e)

pub first_some : (c : Course) (servers : List (List ℕ)) → places_from 0 servers ≡ places_of (Some c.place) servers → tries_of (Some c) servers ≡ tries_from c.round servers
unfolding tries_of tries_from tries_over later_of tries_at places_from places_of round_of
first_some c servers e = sym (ap (λ r. tries_at (wait_of c.round) r ++ tries_over (waits_after c.round) servers) e)

pub next_some : (c d : Course) (servers : List (List ℕ)) → d.round ≡ c.round → places_from (c.place + 1) servers ≡ places_of (Some d.place) servers
    → tries_of (Some d) servers ≡ later_of c servers
unfolding tries_of later_of tries_at places_of
next_some c d servers h e =
    ap (λ r. tries_at (wait_of r) (d.place ∷ places_from (d.place + 1) servers) ++ tries_over (waits_after r) servers) h
    ∙ sym (ap (λ r. tries_at (wait_of c.round) r ++ tries_over (waits_after c.round) servers) e)

later_by : (c : Course) (servers : List (List ℕ)) (waits : List ℕ) → places_from (c.place + 1) servers ≡ [] → waits_after c.round ≡ waits
    → later_of c servers ≡ tries_over waits servers
unfolding later_of tries_at
later_by c servers waits e h =
    ap (λ r. tries_at (wait_of c.round) r ++ tries_over (waits_after c.round) servers) e ∙ ap (λ ws. tries_over ws servers) h

pub later_none : (c : Course) (servers : List (List ℕ)) → places_from (c.place + 1) servers ≡ places_of None servers → waits_after c.round ≡ []
    → tries_of None servers ≡ later_of c servers
unfolding tries_of places_of tries_over
later_none c servers e h = sym (later_by c servers [] e h)

pub later_next : (c : Course) (round : Round) (servers : List (List ℕ)) → places_from (c.place + 1) servers ≡ places_of None servers
    → waits_after c.round ≡ wait_of round ∷ waits_after round → tries_from round servers ≡ later_of c servers
unfolding tries_from places_of
later_next c round servers e h = sym (later_by c servers (wait_of round ∷ waits_after round) e h)
