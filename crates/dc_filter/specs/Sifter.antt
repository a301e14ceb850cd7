-- The filter as an engine.
use Rattle.std.specs.Prelude.{ℕ, ◌+◌, not, List, [], ◌∷◌, Option, Some, None}
use Rattle.dc_engine.specs.Automaton.{Automaton}
use Rattle.dc_lookup.specs.Filter.{Progressed, fresh, asked, done, Slot, Filter, Filtered, filter_wake, hear_step, waits_for_front}

-- How many lines the queue holds at most, the servers, the queue with its front first, the links used so far, and how many events were
-- handled.
pub record Sifter : Type 0 where
  pub room : ℕ
  pub servers : List (List ℕ)
  pub queue : List Slot
  pub links : ℕ
  pub handled : ℕ

-- The filter that it is, with what was written and what wasn't read.
abbrev pub filter_with : Sifter → (written : List ℕ) → (unread : List (List ℕ)) → Filter
filter_with s written unread = record { room = s.room; servers = s.servers; queue = s.queue; links = s.links; written = written; unread = unread }

-- The filter that it is by itself.
abbrev pub alone : Sifter → Filter
alone s = filter_with s [] []

-- It has handled an event.
abbrev pub has_heard : Filtered → Sifter → Sifter
has_heard x s = record s { queue = x.filter.queue; links = x.filter.links; handled = s.handled + 1 }

-- The machine. It is finished where its front is done, and where the queue is empty; no line is read or written by it.
abbrev pub sifter_machine : Automaton Sifter
sifter_machine = record {
  opening = λ s. [];
  wake = λ s. filter_wake (alone s);
  finished = λ s. not (waits_for_front s.queue);
  actions = λ s e words. (hear_step (alone s) e words).actions;
  next = λ s e words. has_heard (hear_step (alone s) e words) s;
  handled = λ s. s.handled;
}

-- The text of a line, where it is done.
abbrev pub text_at : Progressed → Option (List ℕ)
text_at (fresh n) = None
text_at (asked a) = None
text_at (done text) = Some text

-- The text of the front, where there is a front that is done.
abbrev pub front_text : List Slot → Option (List ℕ)
front_text [] = None
front_text (s ∷ ss) = text_at s.at
