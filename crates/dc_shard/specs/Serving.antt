-- What serving over several cores does.
use Rattle.std.specs.Prelude.{◌≡◌, ℕ, ◌+◌, ◌-◌, ◌<◌, ◌≤◌, Bool, true, List, [], ◌∷◌, ◌++◌, length, All}
use Rattle.std.specs.declared.option.Option.{Option}
use Rattle.dc_model.specs.Event.{Event, IsEvent}
use Rattle.dc_engine.specs.Automaton.{Automaton, state_after, actions_of}
use Rattle.dc_event.specs.Causes.{counted}
use Rattle.dc_event.specs.History.{Exchange, asked, ended, failed, bad, events_in, actions_in}
use Rattle.dc_split.specs.Split.{split}
use Rattle.dc_shard.specs.declared.bay.Bay.{Bay}
use Rattle.dc_shard.specs.Bays.{states_of, outs_of, MayStepEach, AreFree}
use Rattle.dc_shard.specs.Taped.{Taped}
use Rattle.dc_shard.specs.Rounds.{AreBlank, held_over}
use Rattle.dc_shard.specs.Follows.{Point, heard_all, Follows}
use Rattle.dc_shard.specs.declared.served.ShardServed.{ShardServed}
use Rattle.dc_shard.specs.declared.served.ShardServed.TheVariants.{Ended, Spent, Failed, Bad, NoMemory}

-- The point at which a call begins: the opening is due.
abbrev pub opens : {S : Type 0} → Automaton S → ℕ → S → Point S
opens m first start = record { number = first; state = start; due = m.opening start }

-- The call of `next` that gave no event, where there was one.
abbrev pub last_asked : ShardServed → Option ℕ → List Exchange
last_asked Ended wake = asked wake ended ∷ []
last_asked Spent wake = []
last_asked Failed wake = asked wake failed ∷ []
last_asked (Bad line) wake = asked wake (bad line) ∷ []
last_asked NoMemory wake = []

-- When each answer comes, behind so many events.
abbrev pub Ends : ShardServed → (count limit : ℕ) → Type 0
Ends Ended count limit = count < limit
Ends Spent count limit = count ≡ limit
Ends Failed count limit = count < limit
Ends (Bad line) count limit = count < limit
Ends NoMemory count limit = count ≤ limit

-- Memory was wanting in a round: all that is due at the events of the rounds before is done, and nothing of what is due at its own.
pub record Lacks {S : Type 0} (m : Automaton S) (words : ℕ → List ℕ) (first : ℕ) (start : S) (passed : List Exchange) : Type 0 where
  pub before : List Event
  pub round : List Event
  pub events : events_in passed ≡ before ++ round
  pub acts : actions_in passed ≡ m.opening start ++ actions_of m words first start before

-- Where memory wasn't wanted, all that was due is done, and the cores have come to that point.
abbrev pub Settles : {S : Type 0} → Automaton S → (ℕ → List ℕ) → (first : ℕ) → (start : S) → (passed : List Exchange) → ShardServed → (final : S) → (given : ℕ) → Point S → Type 0
Settles m words first start passed Ended final given p = (final ≡ p.state) × ((given ≡ p.number) × (p.due ≡ []))
Settles m words first start passed Spent final given p = (final ≡ p.state) × ((given ≡ p.number) × (p.due ≡ []))
Settles m words first start passed Failed final given p = (final ≡ p.state) × ((given ≡ p.number) × (p.due ≡ []))
Settles m words first start passed (Bad line) final given p = (final ≡ p.state) × ((given ≡ p.number) × (p.due ≡ []))
Settles m words first start passed NoMemory final given p = Lacks m words first start passed

-- What stands where the world ended it.
abbrev pub Justified : ShardServed → (used_up : Type 0) → (broken : ℕ → Type 0) → Type 0
Justified Ended used_up broken = used_up
Justified Spent used_up broken = Unit {0}
Justified Failed used_up broken = Unit {0}
Justified (Bad line) used_up broken = broken line
Justified NoMemory used_up broken = Unit {0}

-- This holds where memory wasn't wanted.
abbrev pub IfMemory : ShardServed → Type 0 → Type 0
IfMemory Ended P = P
IfMemory Spent P = P
IfMemory Failed P = P
IfMemory (Bad line) P = P
IfMemory NoMemory P = Unit {0}

-- The world's count of faults behind a call: one more where the world failed, and else what it was.
abbrev pub count_served : ShardServed → ℕ → ℕ
count_served Ended before = before
count_served Spent before = before
count_served Failed before = counted before
count_served (Bad line) before = before
count_served NoMemory before = before

-- This passed, up to the asking that gave no event: the machine followed it from its opening to this point.
pub record Serves {S : Type 0} (m : Automaton S) (words : ℕ → List ℕ) (first : ℕ) (start final : S) (given limit : ℕ) (answer : ShardServed) (passed : List Exchange) (end : Point S) : Type 0 where
  pub bounded : All IsEvent (events_in passed)
  pub follows : Follows m words (opens m first start) passed end
  pub settled : Settles m words first start passed answer final given end
  pub ends : Ends answer (length (events_in passed)) limit

-- What passed so far, and the point to which the machine followed it.
pub record Stage {W S : Type 0} (history : W → List Exchange → W → Type 0) (m : Automaton S) (words : ℕ → List ℕ) (opened : Point S) (old now : W) (passed : List Exchange) (at : Point S) : Type 0 where
  pub happened : history old passed now
  pub bounded : All IsEvent (events_in passed)
  pub follows : Follows m words opened passed at

-- The loop so far, before a round: all events were handled but the one that is held over.
pub record SoFar {W E S : Type 0} (history : W → List Exchange → W → Type 0) (m : Automaton S) (state : E → S) (words : ℕ → List ℕ) (first limit : ℕ) (start : List S) (old now : W)
    (bays : List (Bay E Taped)) (given handled : ℕ) (held : Bool) (spare : Event) (passed : List Exchange) : Type 0 where
  pub stage : Stage history (split m) words (opens (split m) first start) old now passed
      (heard_all (split m) words (record { number = given; state = states_of state bays; due = [] }) (held_over held spare))
  pub number : given ≡ first + handled
  pub within : handled + length (held_over held spare) ≤ limit
  pub event : held ≡ true → IsEvent spare
  pub steps : MayStepEach m (limit - handled) (states_of state bays)
  pub free : AreFree bays
  pub blank : AreBlank (outs_of bays)
  pub before : List Event
  pub events : events_in passed ≡ before ++ held_over held spare
  pub acts : actions_in passed ≡ (split m).opening start ++ actions_of (split m) words first start before
  pub came : states_of state bays ≡ state_after (split m) words first start before
