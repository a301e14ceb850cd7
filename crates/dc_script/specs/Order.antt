-- The order of what passes: whether something is done behind a failed asking.
use Rattle.std.specs.Prelude.{◌≡◌, Bool, true, false, ◌&&◌, ◌||◌, List, [], ◌∷◌, ◌++◌, refl}
use Rattle.std.proofs.Common.{◌∙◌, ap}
use Rattle.dc_model.specs.Event.{Action}
use Rattle.dc_event.specs.History.{Answer, Exchange, listened, asked, gathered, did, gave, ended, failed, bad, done_all}

abbrev pub is_failed : Answer → Bool
is_failed (gave e) = false
is_failed ended = false
is_failed failed = true
is_failed (bad line) = false

-- Whether the world was asked for an event here, and failed.
abbrev pub fails_in : Exchange → Bool
fails_in (listened addr send_from well) = false
fails_in (asked wake answer) = is_failed answer
fails_in (gathered e) = false
fails_in (did x) = false

-- Whether something was done here.
abbrev pub is_done : Exchange → Bool
is_done (listened addr send_from well) = false
is_done (asked wake answer) = false
is_done (gathered e) = false
is_done (did x) = true

-- Whether the world has failed behind these exchanges, where that is known before them.
abbrev pub over_after : Bool → List Exchange → Bool
over_after over [] = over
over_after over (x ∷ h) = over_after (fails_in x || over) h

-- Whether something was done behind a failure.
abbrev pub late : Bool → List Exchange → Bool
late over [] = false
late over (x ∷ h) = (is_done x && over) || late (fails_in x || over) h

-- Laws

pub over-both : (over : Bool) (g h : List Exchange) → over_after over (g ++ h) ≡ over_after (over_after over g) h
over-both over [] h = refl
over-both over (x ∷ g) h = over-both (fails_in x || over) g h

or_both : (a b c : Bool) → a || (b || c) ≡ (a || b) || c
or_both true b c = refl
or_both false b c = refl

pub late-both : (over : Bool) (g h : List Exchange) → late over (g ++ h) ≡ late over g || late (over_after over g) h
late-both over [] h = refl
late-both over (x ∷ g) h =
    ap (λ b. (is_done x && over) || b) (late-both (fails_in x || over) g h)
    ∙ or_both (is_done x && over) (late (fails_in x || over) g) (late (over_after (fails_in x || over) g) h)

pub neither : (a b : Bool) → a || b ≡ false → (a ≡ false) × (b ≡ false)
neither false b e = (refl, e)
neither true b e = cc

-- Where nothing was done late though more had failed, nothing was done late.
early : (b : Bool) (x : Exchange) (h : List Exchange) → late (b || true) h ≡ false → ((over : Bool) → late true h ≡ false → late over h ≡ false) → late (b || false) h ≡ false
early true x h e more = e
early false x h e more = more false e

pub and_false : (b : Bool) → b && false ≡ false
and_false true = refl
and_false false = refl

pub less_late : (over : Bool) (h : List Exchange) → late true h ≡ false → late over h ≡ false
less_late true h e = e
less_late false [] e = refl
less_late false (x ∷ h) e =
    let parts = neither (is_done x && true) (late (fails_in x || true) h) e in
    ap (λ b. b || late (fails_in x || false) h) (and_false (is_done x)) ∙ early (fails_in x) x h parts.1 (λ over. less_late over h)

-- The same, where what has failed is known to be among what is counted.
pub late_by : (over known : Bool) (h : List Exchange) → (known ≡ true → over ≡ true) → late over h ≡ false → late known h ≡ false
late_by over true h e l = let all : over ≡ true = e refl in rw all at l
late_by true false h e l = less_late false h l
late_by false false h e l = l

stays_over : (b : Bool) (h : List Exchange) → over_after true h ≡ true → over_after (b || true) h ≡ true
stays_over true h e = e
stays_over false h e = e

over_true : (h : List Exchange) → over_after true h ≡ true
over_true [] = refl
over_true (x ∷ h) = stays_over (fails_in x) h (over_true h)

pub over_by : (over known : Bool) (h : List Exchange) → (known ≡ true → over ≡ true) → over_after known h ≡ true → over_after over h ≡ true
over_by true known h e l = over_true h
over_by false true h e l = let never : false ≡ true = e refl in cc
over_by false false h e l = l

-- Actions alone.
pub over_done : (over : Bool) (xs : List Action) → over_after over (done_all xs) ≡ over
over_done over [] = refl
over_done over (x ∷ xs) = over_done over xs

pub late_done : (xs : List Action) → late false (done_all xs) ≡ false
late_done [] = refl
late_done (x ∷ xs) = late_done xs
