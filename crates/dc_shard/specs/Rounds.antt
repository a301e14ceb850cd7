-- Rounds over bays.
use Rattle.std.specs.Prelude.{◌≡◌, ◌≢◌, ◌<◌, ℕ, zero, suc, Bool, true, false, List, [], ◌∷◌, map, flat_map, length, slice_index_or}
use Rattle.std.specs.declared.option.Option.{Option}
use Rattle.dc_model.specs.Event.{Event, tick, Action}
use Rattle.dc_engine.specs.Automaton.{Automaton}
use Rattle.dc_event.specs.History.{Answer, Exchange, asked, gathered}
use Rattle.dc_split.specs.Split.{route}
use Rattle.dc_split.specs.Round.{Hand, hands_of, givens_from, AreApart, TickFirst}
use Rattle.dc_shard.specs.declared.bay.Bay.{Bay}
use Rattle.dc_shard.specs.Bays.{givens_of, states_of, outs_of, count_given}
use Rattle.dc_shard.specs.Taped.{Taped, blank}

-- No tape holds an action or wants for memory.
abbrev pub AreBlank : List Taped → Type 0
AreBlank [] = Unit {0}
AreBlank (t ∷ ts) = (t ≡ blank) × AreBlank ts

-- No tape wants for memory.
abbrev pub AreWhole : List Taped → Type 0
AreWhole [] = Unit {0}
AreWhole (t ∷ ts) = (t.short ≡ false) × AreWhole ts

-- What the tape in this place holds.
unfoldable pub held_at : ℕ → List Taped → List Action
held_at n [] = []
held_at zero (t ∷ ts) = t.actions
held_at (suc n) (t ∷ ts) = held_at n ts

-- What is played of the tapes, where these cores come in turn.
abbrev pub played_by : List Taped → List ℕ → List Action
played_by ts order = flat_map (λ core. held_at core ts) order

-- Each of these is a place of so many.
abbrev pub AllBelow : ℕ → List ℕ → Type 0
AllBelow n [] = Unit {0}
AllBelow n (c ∷ cs) = (c < n) × AllBelow n cs

-- Each tape is emptied, and nothing else changes.
abbrev pub Cleared : {E : Type 0} → (old new : List (Bay E Taped)) → Type 0
Cleared [] [] = Unit {0}
Cleared [] (c ∷ cs) = ⊥
Cleared (b ∷ bs) [] = ⊥
Cleared (b ∷ bs) (c ∷ cs) = (c ≡ record b { out = blank }) × Cleared bs cs

-- The cores of hands.
abbrev pub cores_in : List Hand → List ℕ
cores_in hs = map (λ h. h.core) hs

-- The event that is held over for the next round, if one is.
abbrev pub held_over : Bool → Event → List Event
held_over true e = e ∷ []
held_over false e = []

-- These events were gathered.
abbrev pub gathered_all : List Event → List Exchange
gathered_all es = map gathered es

-- What passes at the begin of a round: the world is asked for an event, unless one was held over.
abbrev pub begun : Bool → Option ℕ → Answer → List Exchange
begun true wake a = []
begun false wake a = asked wake a ∷ []

-- A further event of a round goes to a core that isn't given one yet, and is no tick.
pub record Joins {E O S : Type 0} (m : Automaton S) (ss : List S) (bays : List (Bay E O)) (e : Event) (core : ℕ) : Type 0 where
  pub kind : e.kind ≢ tick
  pub goes : core ≡ route m ss e
  pub within : core < length bays
  pub free : (d : Bay E O) → (slice_index_or bays core d).given ≡ false
  pub room : count_given bays < length bays

-- An event may join those that a round has, where it is their first or no tick.
abbrev pub MayJoin : List Event → Event → Type 0
MayJoin [] e = Unit {0}
MayJoin (x ∷ xs) e = e.kind ≢ tick

-- A round so far, whose cores had the states ss before it: these events were handed out in this order, with the random words of number n
-- on. No core is given two, and no tick but the first event is among them.
pub record InRound {E S : Type 0} (m : Automaton S) (state : E → S) (words : ℕ → List ℕ) (n : ℕ) (ss : List S) (bays : List (Bay E Taped)) (order : List ℕ) (events : List Event) : Type 0 where
  pub states : states_of state bays ≡ ss
  pub outs : AreBlank (outs_of bays)
  pub givens : givens_of bays ≡ givens_from 0 (hands_of m ss words n events) ss
  pub in_order : order ≡ cores_in (hands_of m ss words n events)
  pub apart : AreApart (hands_of m ss words n events)
  pub first : TickFirst events
  pub count : count_given bays ≡ length events
  pub places : AllBelow (length bays) order
