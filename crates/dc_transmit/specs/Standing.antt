-- How a transmission stands between events.
use Rattle.std.specs.Prelude.{ℕ, List, [], ◌∷◌, Option, Some, None}
use Rattle.dc_model.specs.Event.{Event, Action, link_close}
use Rattle.dc_model.specs.Transmission.{Attempt, Accepted, Progress, waiting, packet, failed, no_port, Occasion, After, after_event}
use Rattle.dc_transmit.specs.declared.progress.Progress.{Progress as CodeProgress}
use Rattle.dc_transmit.specs.declared.progress.Progress.TheVariants.{Waiting, Packet, Failed, NoPort}

-- The attempt that is made, or none where the transmission is idle; and the packet that was accepted, where that was what ended it.
pub record Standing : Type 0 where
  pub attempt : Option Attempt
  pub accepted : Option Accepted

-- No attempt is made, and no packet was accepted.
abbrev pub idle : Standing
idle = record { attempt = None; accepted = None }

-- How it stands after an event or the start.
abbrev pub standing_at : Progress → Standing
standing_at (waiting a) = record { attempt = Some a; accepted = None }
standing_at (packet p) = record { attempt = None; accepted = Some p }
standing_at failed = idle
standing_at no_port = idle

-- The answer that tells it.
abbrev pub answer_of : Progress → CodeProgress
answer_of (waiting a) = Waiting
answer_of (packet p) = Packet
answer_of failed = Failed
answer_of no_port = NoPort

-- What follows an event on the attempt. An idle transmission hears nothing.
unfoldable pub followed : Option Attempt → Event → Occasion → After
followed None e o = record { progress = failed; actions = []; links = o.links }
followed (Some a) e o = after_event e a o

-- What is done where a transmission is stopped: its link is closed, where one is open.
unfoldable pub stopped : Option Attempt → List Action
stopped None = []
stopped (Some a) = link_close a.link ∷ []

-- What is done to close a link, where there is one.
abbrev pub closed : Option ℕ → List Action
closed None = []
closed (Some link) = link_close link ∷ []
