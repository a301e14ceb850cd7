-- What the cores of a round do.
use Rattle.std.specs.Prelude.{◌≡◌, ℕ, false, List, length}
use Rattle.dc_model.specs.Event.{Action}
use Rattle.dc_engine.specs.Automaton.{Automaton}
use Rattle.dc_split.specs.Routing.{all_outer}
use Rattle.dc_shard.specs.declared.bay.Bay.{Bay}
use Rattle.dc_shard.specs.Bays.{outs_of, SteppedEach}
use Rattle.dc_shard.specs.Taped.{Taped, Gains}
use Rattle.dc_shard.specs.Rounds.{AreWhole, Cleared, played_by}

-- Each core that was given an event made its step, and what they did was done in this order, as if it had been kept on tapes in between.
pub record ActsInOrder {E S W : Type 0} (acted : W → List Action → W → Type 0) (m : Automaton S) (state : E → S) (order : List ℕ) (old new : List (Bay E Taped)) (before after : W) : Type 0 where
  pub taped : List (Bay E Taped)
  pub stepped : SteppedEach Gains m state (length old) 0 old taped
  pub whole : AreWhole (outs_of taped)
  pub acts : acted before (played_by (outs_of taped) order) after
  pub cleared : Cleared taped new

-- One core made its step, and what it did was done at once. Its tape stays.
pub record ActsAlone {E S W : Type 0} (acted : W → List Action → W → Type 0) (m : Automaton S) (state : E → S) (cores core : ℕ) (old new : Bay E Taped) (before after : W) : Type 0 where
  pub moved : state new.core ≡ m.next (state old.core) old.inbox old.draws
  pub free : new.given ≡ false
  pub out : new.out ≡ old.out
  pub acts : acted before (all_outer cores core (m.actions (state old.core) old.inbox old.draws)) after
