-- Active queries as the machine sees them.
use Rattle.std.specs.Prelude.{◌≡◌, ℕ, ◌<◌, false, List, [], map, length, Option, Some, None, IsSome}
use Rattle.dc_model.specs.Limits.{most_turns}
use Rattle.dc_model.specs.Transmission.{Attempt}
use Rattle.dc_machine.specs.Machine as machine
use Rattle.dc_machine.specs.Machine.{Active, by_udp, by_tcp}
use Rattle.dc_frames.specs.View.{query_of}
use Rattle.dc_active.specs.declared.client.Client.{Client}
use Rattle.dc_active.specs.declared.client.Client.TheVariants.{Udp, Tcp}
use Rattle.dc_active.specs.declared.entry.Entry.{Entry}
use Rattle.dc_active.specs.declared.work.Taken.{Taken}
use Rattle.dc_active.specs.declared.work.Work.{Work}

-- A client.
abbrev pub client_of : Client → machine.Client
client_of (Udp addr port) = by_udp addr port
client_of (Tcp number) = by_tcp number

-- An attempt of nothing.
abbrev pub no_attempt : Attempt
no_attempt = record {
  name = [];
  kind = 0;
  recursive = false;
  servers = [];
  over_tcp = false;
  present = record { wait = 0; place = 0 };
  later = [];
  link = 0;
  id = 0;
  port = 0;
  deadline = 0;
  refusals = 0;
  is_up = false;
  gathered = [];
}

-- The attempt that is made.
abbrev pub attempt_or : Option Attempt → Attempt
attempt_or None = no_attempt
attempt_or (Some a) = a

-- An active query, by its serial number, its client and what it works with.
abbrev pub active : ℕ → machine.Client → Work → Active
active serial client w = record { serial = serial; client = client; query = query_of w.query; attempt = attempt_or w.sender.attempt }

-- The active query that was taken out.
abbrev pub active_of : Taken → Active
active_of t = active t.serial (client_of t.client) t.work.value

-- The active query of an entry.
abbrev pub entry_of : Entry → Active
entry_of e = active e.serial (client_of e.client) e.work.value

-- The active queries of entries.
abbrev pub queries_of : List Entry → List Active
queries_of es = map entry_of es

-- A query that waits: an attempt is made, it has a frame, and it had fewer than 100 turns.
pub record IsWaiting (w : Work) : Type 0 where
  pub asking : IsSome w.sender.attempt
  pub frame : 0 < length (query_of w.query).frames
  pub turns : (query_of w.query).turns < most_turns

-- A query of an entry waits, and the entry has the link and the deadline of its attempt.
pub record IsFit (e : Entry) : Type 0 where
  pub waiting : IsWaiting e.work.value
  pub link : (entry_of e).attempt.link ≡ e.link
  pub deadline : (entry_of e).attempt.deadline ≡ e.deadline
