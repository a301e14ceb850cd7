-- What serving an engine in a world does.
use Rattle.std.specs.Prelude.{◌≡◌, ℕ, ◌+◌, ◌≤◌, ◌<◌, Bool, true, false, List, [], ◌∷◌, ◌++◌, length, All}
use Rattle.std.specs.declared.option.Option.{Option}
use Rattle.dc_model.specs.Event.{Event, IsEvent}
use Rattle.dc_engine.specs.Automaton.{Automaton, state_after, GoesOn}
use Rattle.dc_event.specs.Causes.{counted}
use Rattle.dc_event.specs.History.{Exchange, asked, gave, ended, failed, bad, done_all}
use Rattle.dc_serve.specs.declared.Served.{Served}
use Rattle.dc_serve.specs.declared.Served.TheVariants.{Finished, Spent, Ended, Failed, Bad}

-- What passes at these events, the first of which has the random words of number i: the world is asked with the machine's wake, gives the
-- event, and the event's actions are done.
abbrev pub each_passes : {S : Type 0} → Automaton S → (ℕ → List ℕ) → ℕ → S → List Event → List Exchange
each_passes m words i s [] = []
each_passes m words i s (e ∷ es) = asked (m.wake s) (gave e) ∷ (done_all (m.actions s e (words i)) ++ each_passes m words (i + 1) (m.next s e (words i)) es)

-- The call of `next` that gave no event, where there was one.
abbrev pub last_passes : Served → Option ℕ → List Exchange
last_passes Finished wake = []
last_passes Spent wake = []
last_passes Ended wake = asked wake ended ∷ []
last_passes Failed wake = asked wake failed ∷ []
last_passes (Bad line) wake = asked wake (bad line) ∷ []

-- All that passes in a call: the opening is done, then each event is handled, and then no event is given, where the call ended so.
abbrev pub passes : {S : Type 0} → Automaton S → (ℕ → List ℕ) → ℕ → S → List Event → Served → List Exchange
passes m words i s events answer = (done_all (m.opening s) ++ each_passes m words i s events) ++ last_passes answer (m.wake (state_after m words i s events))

-- When each answer comes.
abbrev pub Ends : Served → (finished : Bool) → (count limit : ℕ) → Type 0
Ends Finished finished count limit = (finished ≡ true) × (count ≤ limit)
Ends Spent finished count limit = (finished ≡ false) × (count ≡ limit)
Ends Ended finished count limit = (finished ≡ false) × (count < limit)
Ends Failed finished count limit = (finished ≡ false) × (count < limit)
Ends (Bad line) finished count limit = (finished ≡ false) × (count < limit)

-- What stands where the world ended it.
abbrev pub Justified : Served → (used_up : Type 0) → (broken : ℕ → Type 0) → Type 0
Justified Finished used_up broken = Unit {0}
Justified Spent used_up broken = Unit {0}
Justified Ended used_up broken = used_up
Justified Failed used_up broken = Unit {0}
Justified (Bad line) used_up broken = broken line

-- The world's count of faults behind a call: one more where the world failed, and else what it was.
abbrev pub count_served : Served → ℕ → ℕ
count_served Finished before = before
count_served Spent before = before
count_served Ended before = before
count_served Failed before = counted before
count_served (Bad line) before = before

-- The machine went from start to final over these events, with the random words of number `first` on, and it ended so.
pub record Ran {S : Type 0} (m : Automaton S) (words : ℕ → List ℕ) (first : ℕ) (start final : S) (limit : ℕ) (events : List Event) (answer : Served) : Type 0 where
  pub bounded : All IsEvent events
  pub state : final ≡ state_after m words first start events
  pub went_on : GoesOn m words first start events
  pub ends : Ends answer (m.finished final) (length events) limit

-- The loop so far.
pub record SoFar {W S : Type 0} (history : W → List Exchange → W → Type 0) (m : Automaton S) (words : ℕ → List ℕ) (first : ℕ) (start now : S) (old new : W)
    (handled : ℕ) (events : List Event) : Type 0 where
  pub passed : history old (done_all (m.opening start) ++ each_passes m words first start events) new
  pub bounded : All IsEvent events
  pub state : now ≡ state_after m words first start events
  pub went_on : GoesOn m words first start events
  pub count : handled ≡ length events
  pub counted : m.handled now ≡ m.handled start + length events
