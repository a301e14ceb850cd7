-- What passes between a world of sockets and its user, with each time that one event more was asked for and none had come.
use Rattle.std.specs.Prelude.{◌≡◌, Bool, true, false, List, [], ◌∷◌, ◌++◌, map, refl}
use Rattle.std.proofs.Common.{ap}
use Rattle.dc_model.specs.Event.{Event, Action}
use Rattle.dc_event.specs.History.{Exchange, gathered, did, gathered_by, done_all}

-- An exchange, or one event more was asked for and none had come.
pub data Passed : Type 0 where
  exchanged : Exchange → Passed
  none_came : Passed

-- The exchanges among them, in order.
abbrev pub exchanges_of : List Passed → List Exchange
exchanges_of [] = []
exchanges_of (exchanged x ∷ xs) = x ∷ exchanges_of xs
exchanges_of (none_came ∷ xs) = exchanges_of xs

-- Where one event more was asked for, with this in the inbox.
abbrev pub more_by : Bool → Event → Passed
more_by true e = exchanged (gathered e)
more_by false e = none_came

-- Actions alone.
abbrev pub acted_all : List Action → List Passed
acted_all xs = map (λ x. exchanged (did x)) xs

pub exchanges_both : (xs ys : List Passed) → exchanges_of (xs ++ ys) ≡ exchanges_of xs ++ exchanges_of ys
exchanges_both [] ys = refl
exchanges_both (exchanged x ∷ xs) ys = ap (λ l. x ∷ l) (exchanges_both xs ys)
exchanges_both (none_came ∷ xs) ys = exchanges_both xs ys

pub exchanges_acted : (xs : List Action) → exchanges_of (acted_all xs) ≡ done_all xs
exchanges_acted [] = refl
exchanges_acted (x ∷ xs) = ap (λ l. did x ∷ l) (exchanges_acted xs)

pub acted_both : (xs ys : List Action) → acted_all (xs ++ ys) ≡ acted_all xs ++ acted_all ys
acted_both [] ys = refl
acted_both (x ∷ xs) ys = ap (λ l. exchanged (did x) ∷ l) (acted_both xs ys)

pub exchanges_more : (more : Bool) (e : Event) → exchanges_of (more_by more e ∷ []) ≡ gathered_by more e
exchanges_more true e = refl
exchanges_more false e = refl
