-- What passes while a filter filters, and what one call of `serve` is of it.
use Rattle.std.specs.Prelude.{◌≡◌, ℕ, ◌+◌, true, List, [], ◌∷◌, ◌++◌, length}
use Rattle.dc_model.specs.Event.{Event}
use Rattle.dc_engine.specs.Automaton.{state_after}
use Rattle.dc_event.specs.History.{Exchange, asked, gave, done_all}
use Rattle.dc_serve.specs.Serve.{each_passes}
use Rattle.dc_lookup.specs.Filter.{Filter, settled, filter_step, filter_wake, filter_after, FilterWentOn, waits_for_front}
use Rattle.dc_lookup.specs.Laws.{IsSettled}
use Rattle.dc_filter.specs.Sifter.{Sifter, filter_with, sifter_machine}

-- What passes at these events, the first of which has the random words of number n: the world is asked with the filter's wake, gives the
-- event, and the event's actions are done.
unfoldable pub filter_passes : (ℕ → List ℕ) → ℕ → Filter → List Event → List Exchange
filter_passes words n f [] = []
filter_passes words n f (e ∷ es) =
    asked (filter_wake f) (gave e) ∷ (done_all (filter_step f e (words n)).actions ++ filter_passes words (n + 1) (filter_step f e (words n)).filter es)

-- What passes at an engine that wasn't finished before any of the events is what passes at the filter; lines are read and written behind the
-- last event; and the filter wasn't at its end before any of them. Where the front still isn't done, nothing can be read or written; and no
-- line came or went.
pub record IsServed (words : ℕ → List ℕ) (n : ℕ) (s : Sifter) (written : List ℕ) (unread : List (List ℕ)) (es : List Event) : Type 0 where
  pub passed : each_passes sifter_machine words n s es ≡ filter_passes words n (filter_with s written unread) es
  pub state : filter_after words n (filter_with s written unread) es ≡ settled (filter_with (state_after sifter_machine words n s es) written unread)
  pub went_on : FilterWentOn words n (filter_with s written unread) es
  pub stays : waits_for_front (state_after sifter_machine words n s es).queue ≡ true → IsSettled (filter_with (state_after sifter_machine words n s es) written unread)
  pub many : length (state_after sifter_machine words n s es).queue ≡ length s.queue
  pub room : (state_after sifter_machine words n s es).room ≡ s.room
