-- What an attempt of the code stands for, and what a step of it promises.
use Rattle.std.specs.Prelude.{◌≡◌, ℕ, List, Bool, not, ◌&&◌, get_or, Option, Some, None}
use Rattle.dc_model.specs.Event.{Action}
use Rattle.dc_model.specs.Places.{no_address}
use Rattle.dc_model.specs.Transmission.{Attempt, Accepted, Progress, waiting, packet, failed, no_port, Occasion, After, is_relevant, is_truncated, is_served}
use Rattle.dc_transmit.specs.Rounds.{is_stream}
use Rattle.dc_transmit.specs.Course.{present_of, later_of}
use Rattle.dc_transmit.specs.Gathered.{packet_of}
use Rattle.dc_transmit.specs.declared.course.Course.{Course}
use Rattle.dc_transmit.specs.declared.attempt.Attempt.{Attempt as CodeAttempt}
use Rattle.dc_transmit.specs.declared.progress.Progress.{Progress as CodeProgress}
use Rattle.dc_transmit.specs.declared.progress.Progress.TheVariants.{Waiting, Packet, Failed, NoPort}

-- The attempt of the model.
abbrev pub attempt_of : CodeAttempt → Attempt
attempt_of a = record {
  name = a.asked.name;
  kind = a.asked.kind;
  recursive = a.asked.recursive;
  servers = a.asked.servers;
  over_tcp = is_stream a.course.round;
  present = present_of a.course;
  later = later_of a.course a.asked.servers;
  link = a.link.number;
  id = a.link.id;
  port = a.link.port;
  deadline = a.link.deadline;
  refusals = a.refusals;
  is_up = a.is_up;
  gathered = a.gathering.bytes;
}

-- The packet that was accepted last, with its server.
abbrev pub accepted_of : CodeAttempt → Accepted
accepted_of a = record { packet = packet_of a.gathering; server = get_or a.asked.servers a.course.place no_address; place = a.course.place }

-- How a transmission stands by an answer and what it leaves.
abbrev pub progress_of : CodeProgress → CodeAttempt → Progress
progress_of Waiting a = waiting (attempt_of a)
progress_of Packet a = packet (accepted_of a)
progress_of Failed a = failed
progress_of NoPort a = no_port

-- What a new link takes.
abbrev pub occasion : ℕ → List ℕ → ℕ → Occasion
occasion now draws links = record { now = now; draws = draws; links = links }

-- A step did what follows: its actions, how the transmission stands, and the links used by then.
pub record Did {W : Type 0} (acted : W → List Action → W → Type 0) (old new : W) (f : After) (used : ℕ) (answer : CodeProgress) (left : CodeAttempt) : Type 0 where
  pub acts : acted old f.actions new
  pub stands : progress_of answer left ≡ f.progress
  pub links : used ≡ f.links

-- The attempt of a course that is taken up: over TCP where its round is.
abbrev pub steered : Option Course → Attempt → Attempt
steered None a = a
steered (Some c) a = record a { over_tcp = is_stream c.round }

-- Whether a packet over TCP is the answer: relevant, not cut short, and the server could serve.
abbrev pub is_good : Attempt → List ℕ → Bool
is_good a bytes = is_relevant a bytes && (not (is_truncated bytes) && is_served bytes)
