-- The resolver's machine over several cores.
use Rattle.std.specs.Prelude.{ℕ, ◌/◌, min, max, false, List, [], ◌∷◌, replicate}
use Rattle.dc_model.specs.Limits.{least_cache, most_cache}
use Rattle.dc_model.specs.Cache.{empty}
use Rattle.dc_model.specs.Event.{Event, Action, line}
use Rattle.dc_model.specs.Line.{line_starting}
use Rattle.dc_model.specs.Rules.{Rules}
use Rattle.dc_machine.specs.Machine.{Machine, step, wake}
use Rattle.dc_machine.specs.Run.{opening}
use Rattle.dc_engine.specs.Automaton.{Automaton, state_after, actions_of}
use Rattle.dc_split.specs.Split.{split}

-- The resolver's machine under these rules. It counts no events.
abbrev pub resolver : Rules → Automaton Machine
resolver rules = record {
  opening = λ m. line line_starting ∷ [];
  wake = λ m. wake m;
  finished = λ m. false;
  actions = λ m e words. (step rules m e words).actions;
  next = λ m e words. (step rules m e words).machine;
  handled = λ m. 0;
}

-- The bytes of each core's cache, where all of them have so many: a part for each, brought into the limits of a cache.
abbrev pub part_size : (cores size : ℕ) → ℕ
part_size cores size = min (max (size / cores) least_cache) most_cache

-- So many cores with empty caches, which have so many bytes together.
unfoldable pub cores_of : (cores size : ℕ) → List Machine
cores_of cores size = replicate cores (opening (empty (part_size cores size)))

-- The cores behind these events, with the random words by an event's number.
unfoldable pub split_last : Rules → (ℕ → List ℕ) → List Machine → List Event → List Machine
split_last rules words ms es = state_after (split (resolver rules)) words 0 ms es

-- What the split run of these events does: the opening line once, and then the actions of each event in turn.
unfoldable pub split_actions : Rules → (ℕ → List ℕ) → List Machine → List Event → List Action
split_actions rules words ms es = line line_starting ∷ actions_of (split (resolver rules)) words 0 ms es
