-- What follows an event, case by case.
use Rattle.std.proofs.Common.{◌≡◌, ℕ, zero, suc, ◌+◌, ◌≤◌, ◌<◌, Bool, true, false, not, ◌&&◌, nat_le, List, [], ◌∷◌, ◌++◌, length, take, drop, if◌then◌else◌, refl, sym, ◌∙◌, ap, subst, arith}
use Rattle.std.proofs.lemmas.List.{length-take}
use Rattle.dc_model.specs.Message.{u16_at, framed}
use Rattle.dc_model.specs.Event.{Action, link_write, link_close}
use Rattle.dc_model.specs.Transmission.{Try, Attempt, Occasion, After, waiting, no_port, stays, ends, linked, sent, tried, next_try, bad_news, is_patient, asked_by_tcp, asks_for, is_relevant, is_truncated, is_served, is_whole, accepted, answered, after_datagram, after_whole, after_gathered, after_link_bytes, after_link_up, after_refusal, after_tick, query_of}
use Rattle.dc_transmit.specs.Gathered.{message_of}
use Rattle.dc_transmit.specs.Attempts.{is_good}
use Rattle.dc_transmit.proofs.TestLemmas.{leb_below, leb_above, and_left_no, and_right_no, and_yes, not_no, not_yes}
use Rattle.dc_transmit.proofs.GatherLemmas.{number_taken, message_is, whole_least}

choose : (b v : Bool) (f g : After) → b ≡ v → (if b then f else g) ≡ (if v then f else g)
choose b v f g h = ap (λ x. if x then f else g) h

-- Ticks

pub tick_early : (a : Attempt) (o : Occasion) → o.now < a.deadline → after_tick a o ≡ stays a o.links
unfolding after_tick
tick_early a o h = choose _ false (next_try a o) (stays a o.links) (leb_below a.deadline o.now h)

pub tick_due : (a : Attempt) (o : Occasion) → a.deadline ≤ o.now → after_tick a o ≡ next_try a o
unfolding after_tick
tick_due a o h = choose _ true (next_try a o) (stays a o.links) (leb_above a.deadline o.now h)

-- Bad news

pub bad_patient : (a : Attempt) (o : Occasion) → is_patient a ≡ true → bad_news a o ≡ stays a o.links
unfolding bad_news
bad_patient a o h = choose _ true (stays a o.links) (next_try a o) h

pub bad_other : (a : Attempt) (o : Occasion) → is_patient a ≡ false → bad_news a o ≡ next_try a o
unfolding bad_news
bad_other a o h = choose _ false (stays a o.links) (next_try a o) h

-- Refusals

pub refusal_tenth : (a : Attempt) (o : Occasion) → 9 ≤ a.refusals → after_refusal a o ≡ ends no_port a o.links
unfolding after_refusal
refusal_tenth a o h = choose _ true (ends no_port a o.links) (sent [] (record a { refusals = a.refusals + 1 }) o) (leb_above 9 a.refusals h)

pub refusal_more : (a : Attempt) (o : Occasion) → a.refusals < 9 → after_refusal a o ≡ sent [] (record a { refusals = a.refusals + 1 }) o
unfolding after_refusal
refusal_more a o h = choose _ false (ends no_port a o.links) (sent [] (record a { refusals = a.refusals + 1 }) o) (leb_below 9 a.refusals h)

-- The link is up

written : Attempt → ℕ → After
written a links = record { progress = waiting (record a { is_up = true }); actions = link_write a.link (framed (query_of a)) ∷ []; links = links }

pub up_written : (a : Attempt) (links : ℕ) → (a.over_tcp && not a.is_up) ≡ true
    → after_link_up a links ≡ record { progress = waiting (record a { is_up = true }); actions = link_write a.link (framed (query_of a)) ∷ []; links = links }
unfolding after_link_up written
up_written a links h = choose _ true (written a links) (stays a links) h

pub up_ignored : (a : Attempt) (links : ℕ) → (a.over_tcp && not a.is_up) ≡ false → after_link_up a links ≡ stays a links
unfolding after_link_up written
up_ignored a links h = choose _ false (written a links) (stays a links) h

-- Datagrams

pub answered_short : (bytes : List ℕ) (a : Attempt) (o : Occasion) → is_truncated bytes ≡ true → answered bytes a o ≡ asked_by_tcp a o
unfolding answered
answered_short bytes a o h = choose _ true (asked_by_tcp a o) (if is_served bytes then accepted bytes a o.links else bad_news a o) h

pub answered_served : (bytes : List ℕ) (a : Attempt) (o : Occasion) → is_truncated bytes ≡ false → is_served bytes ≡ true → answered bytes a o ≡ accepted bytes a o.links
unfolding answered
answered_served bytes a o h k =
    choose _ false (asked_by_tcp a o) (if is_served bytes then accepted bytes a o.links else bad_news a o) h ∙ choose _ true (accepted bytes a o.links) (bad_news a o) k

pub answered_badly : (bytes : List ℕ) (a : Attempt) (o : Occasion) → is_truncated bytes ≡ false → is_served bytes ≡ false → answered bytes a o ≡ bad_news a o
unfolding answered
answered_badly bytes a o h k =
    choose _ false (asked_by_tcp a o) (if is_served bytes then accepted bytes a o.links else bad_news a o) h ∙ choose _ false (accepted bytes a o.links) (bad_news a o) k

counts : Attempt → List ℕ → Bool
counts a bytes = not a.over_tcp && (nat_le (length bytes) 512 && is_relevant a bytes)

pub datagram_over_tcp : (bytes : List ℕ) (a : Attempt) (o : Occasion) → a.over_tcp ≡ true → after_datagram bytes a o ≡ stays a o.links
unfolding after_datagram
datagram_over_tcp bytes a o h =
    choose _ false (answered bytes a o) (stays a o.links) (and_left_no (not a.over_tcp) (nat_le (length bytes) 512 && is_relevant a bytes) (not_no a.over_tcp h))

pub datagram_long : (bytes : List ℕ) (a : Attempt) (o : Occasion) → 512 < length bytes → after_datagram bytes a o ≡ stays a o.links
unfolding after_datagram
datagram_long bytes a o h =
    choose _ false (answered bytes a o) (stays a o.links)
    (and_right_no (not a.over_tcp) (nat_le (length bytes) 512 && is_relevant a bytes)
    (and_left_no (nat_le (length bytes) 512) (is_relevant a bytes) (leb_below (length bytes) 512 h)))

pub datagram_irrelevant : (bytes : List ℕ) (a : Attempt) (o : Occasion) → is_relevant a bytes ≡ false → after_datagram bytes a o ≡ stays a o.links
unfolding after_datagram
datagram_irrelevant bytes a o h =
    choose _ false (answered bytes a o) (stays a o.links)
    (and_right_no (not a.over_tcp) (nat_le (length bytes) 512 && is_relevant a bytes) (and_right_no (nat_le (length bytes) 512) (is_relevant a bytes) h))

pub datagram_heard : (bytes : List ℕ) (a : Attempt) (o : Occasion) → a.over_tcp ≡ false → length bytes ≤ 512 → is_relevant a bytes ≡ true → after_datagram bytes a o ≡ answered bytes a o
unfolding after_datagram
datagram_heard bytes a o h l k =
    choose _ true (answered bytes a o) (stays a o.links)
    (and_yes (not a.over_tcp) (nat_le (length bytes) 512 && is_relevant a bytes) (not_yes a.over_tcp h)
    (and_yes (nat_le (length bytes) 512) (is_relevant a bytes) (leb_above (length bytes) 512 l) k))

-- Bytes of a stream

pub bytes_unheard : (bytes : List ℕ) (a : Attempt) (o : Occasion) → (a.over_tcp && a.is_up) ≡ false → after_link_bytes bytes a o ≡ stays a o.links
unfolding after_link_bytes
bytes_unheard bytes a o h = choose _ false (after_gathered (record a { gathered = a.gathered ++ bytes }) o) (stays a o.links) h

bytes_gathered : (bytes : List ℕ) (a : Attempt) (o : Occasion) → (a.over_tcp && a.is_up) ≡ true
    → after_link_bytes bytes a o ≡ after_gathered (record a { gathered = a.gathered ++ bytes }) o
unfolding after_link_bytes
bytes_gathered bytes a o h = choose _ true (after_gathered (record a { gathered = a.gathered ++ bytes }) o) (stays a o.links) h

-- The room serves for a whole message.

whole_by : (xs : List ℕ) → 2 ≤ length xs → 2 + u16_at xs 0 ≤ length xs → is_whole xs ≡ true
unfolding is_whole
whole_by xs h k = and_yes (nat_le 2 (length xs)) (nat_le (2 + u16_at xs 0) (length xs)) (leb_above 2 (length xs) h) (leb_above (2 + u16_at xs 0) (length xs) k)

take_below : (n : ℕ) (xs : List ℕ) → length (take n xs) < n → take n xs ≡ xs
take_below zero xs h = absurd (omega (arith, h))
take_below (suc n) [] h = refl
take_below (suc n) (x ∷ xs) h = ap (λ r. x ∷ r) (take_below n xs (omega (arith, h)))

whole_taken : (n : ℕ) (xs : List ℕ) → is_whole (take n xs) ≡ true → (is_whole xs ≡ true) × (message_of (take n xs) ≡ message_of xs)
whole_taken n xs h =
    let size = length-take n xs in
    let least = whole_least (take n xs) h in
    let two : 2 ≤ length (take n xs) = least.0 in
    let number : u16_at (take n xs) 0 ≡ u16_at xs 0 = number_taken n xs (omega arith) in
    let most : 2 + u16_at (take n xs) 0 ≤ length (take n xs) = least.1 in
    let room : 2 + u16_at xs 0 ≤ n = omega arith in
    let there : 2 + u16_at xs 0 ≤ length xs = omega arith in
    (whole_by xs (omega arith) there, sym (message_is xs (take n xs) n (u16_at xs 0) refl refl room))

gathered_part : (g : List ℕ) (a : Attempt) (o : Occasion) → is_whole g ≡ false → after_gathered (record a { gathered = g }) o ≡ stays (record a { gathered = g }) o.links
unfolding after_gathered
gathered_part g a o h =
    choose _ false (after_whole (take (u16_at g 0) (drop 2 g)) (record a { gathered = g }) o) (stays (record a { gathered = g }) o.links) h

gathered_whole : (g : List ℕ) (a : Attempt) (o : Occasion) → is_whole g ≡ true → after_gathered (record a { gathered = g }) o ≡ after_whole (message_of g) (record a { gathered = g }) o
unfolding after_gathered
gathered_whole g a o h =
    choose _ true (after_whole (take (u16_at g 0) (drop 2 g)) (record a { gathered = g }) o) (stays (record a { gathered = g }) o.links) h

-- What was gathered before doesn't count for the next attempt.
pub tried_anew : (ts : List Try) (before : List Action) (g : List ℕ) (a : Attempt) (o : Occasion) → tried ts before (record a { gathered = g }) o ≡ tried ts before a o
unfolding tried sent linked
tried_anew [] before g a o = refl
tried_anew (t ∷ ts) before g a o = refl

-- Whether a message is good doesn't rest on what was gathered.
good_anew : (bytes g : List ℕ) (a : Attempt) → is_good (record a { gathered = g }) bytes ≡ is_good a bytes
unfolding is_relevant asks_for
good_anew bytes g a = refl

pub bytes_part : (bytes m : List ℕ) (n : ℕ) (a : Attempt) (o : Occasion) → (a.over_tcp && a.is_up) ≡ true → m ≡ take n (a.gathered ++ bytes) → is_whole m ≡ false
    → length m < n → after_link_bytes bytes a o ≡ stays (record a { gathered = m }) o.links
bytes_part bytes m n a o h v w l =
    let short : length (take n (a.gathered ++ bytes)) < n = subst (λ x. length x < n) v l in
    let e : m ≡ a.gathered ++ bytes = v ∙ take_below n (a.gathered ++ bytes) short in
    let part : is_whole (a.gathered ++ bytes) ≡ false = subst (λ x. is_whole x ≡ false) e w in
    bytes_gathered bytes a o h ∙ (gathered_part (a.gathered ++ bytes) a o part ∙ ap (λ x. stays (record a { gathered = x }) o.links) (sym e))

whole_good : (bytes g : List ℕ) (a : Attempt) (o : Occasion) (v : Bool) → is_good a bytes ≡ v
    → after_whole bytes (record a { gathered = g }) o ≡ (if v then accepted bytes a o.links else next_try a o)
unfolding after_whole accepted next_try is_relevant asks_for
whole_good bytes g a o v h =
    choose (is_good (record a { gathered = g }) bytes) v (accepted bytes (record a { gathered = g }) o.links) (next_try (record a { gathered = g }) o) h
    ∙ ap (λ x. if v then accepted bytes a o.links else x) (tried_anew a.later (link_close a.link ∷ []) g a o)

bytes_whole : (bytes m : List ℕ) (n : ℕ) (a : Attempt) (o : Occasion) (v : Bool) → (a.over_tcp && a.is_up) ≡ true → m ≡ take n (a.gathered ++ bytes)
    → is_whole m ≡ true → v ≡ is_good a (message_of m) → after_link_bytes bytes a o ≡ (if v then accepted (message_of m) a o.links else next_try a o)
bytes_whole bytes m n a o v h e w good =
    let whole : is_whole (take n (a.gathered ++ bytes)) ≡ true = subst (λ x. is_whole x ≡ true) e w in
    let t = whole_taken n (a.gathered ++ bytes) whole in
    let same_message : message_of (a.gathered ++ bytes) ≡ message_of m = sym t.1 ∙ ap (λ x. message_of x) (sym e) in
    bytes_gathered bytes a o h
    ∙ (gathered_whole (a.gathered ++ bytes) a o t.0
    ∙ (ap (λ x. after_whole x (record a { gathered = a.gathered ++ bytes }) o) same_message
    ∙ whole_good (message_of m) (a.gathered ++ bytes) a o v (sym good)))

pub bytes_good : (bytes m : List ℕ) (n : ℕ) (a : Attempt) (o : Occasion) → (a.over_tcp && a.is_up) ≡ true → m ≡ take n (a.gathered ++ bytes)
    → is_whole m ≡ true → true ≡ is_good (record a { gathered = m }) (message_of m) → after_link_bytes bytes a o ≡ accepted (message_of m) a o.links
bytes_good bytes m n a o h e w good = bytes_whole bytes m n a o true h e w (good ∙ good_anew (message_of m) m a)

pub bytes_bad : (bytes m : List ℕ) (n : ℕ) (a : Attempt) (o : Occasion) → (a.over_tcp && a.is_up) ≡ true → m ≡ take n (a.gathered ++ bytes)
    → is_whole m ≡ true → false ≡ is_good (record a { gathered = m }) (message_of m) → after_link_bytes bytes a o ≡ next_try (record a { gathered = m }) o
unfolding next_try
bytes_bad bytes m n a o h e w good = bytes_whole bytes m n a o false h e w (good ∙ good_anew (message_of m) m a) ∙ sym (tried_anew a.later (link_close a.link ∷ []) m a o)
