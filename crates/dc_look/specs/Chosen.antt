-- The choice of a zone, as the rules of a turn see it.
use Rattle.std.specs.Prelude.{List, [], map, take, Option, Some, None, ◌≡◌}
use Rattle.dc_model.specs.Name.{Name, root, suffixes}
use Rattle.dc_model.specs.Message.{Body}
use Rattle.dc_model.specs.Places.{empty_places}
use Rattle.dc_model.specs.Line.{line_cached_ns}
use Rattle.dc_model.specs.Marks.{host_of}
use Rattle.dc_model.specs.Event.{Action, line}
use Rattle.dc_model.specs.Cache.{Cache}
use Rattle.dc_machine.specs.Query.{Query, name_of, with_zone}
use Rattle.dc_machine.specs.Turn.{Choice, choice_of}
use Rattle.dc_frames.specs.View.{query_of}
use Rattle.dc_frames.specs.declared.query.Query as frames
use Rattle.dc_desk.specs.View.{setting_at, at}
use Rattle.dc_desk.specs.declared.desk.Desk.{Desk}
use Rattle.dc_desk.specs.declared.moment.Moment.{Moment}
use Rattle.dc_look.specs.declared.servers.Servers.{Servers}
use Rattle.dc_look.specs.declared.servers.Servers.TheVariants.{Configured, Cached}
use Rattle.dc_look.specs.declared.servers.Chosen.{Chosen}

-- The names in these bodies.
abbrev pub hosts_in : List Body → List Name
hosts_in bodies = map host_of bodies

-- The choice of a zone whose servers have these names.
unfoldable pub choice_among : Name → List Body → Choice
choice_among zone bodies = record {
  control = zone;
  hosts = take 16 (hosts_in bodies);
  places = empty_places;
  lines = map (line_cached_ns zone) (hosts_in bodies);
}

-- The choice of a zone with what is known of its servers.
abbrev pub choice_at : Name → Servers → Choice
choice_at zone (Configured places) = record { control = zone; hosts = []; places = places.now; lines = [] }
choice_at zone (Cached hosts) = choice_among zone hosts

-- What was chosen. Where nothing was, the root has no servers.
abbrev pub choice_made : Option Chosen → Choice
choice_made None = record { control = root; hosts = []; places = empty_places; lines = [] }
choice_made (Some c) = choice_at c.zone c.servers

-- The choice of a query at a desk, from the name on top upwards.
abbrev pub choice_from : {S : Type 0} → (S → Cache) → frames.Query → Desk S → Moment → Choice
choice_from cache q d moment = choice_of (setting_at d moment) (at cache q d) (suffixes (name_of (query_of q)))

-- A query is to ask by this choice, whose lines were written.
pub record IsAsked {O : Type 0} (acted : O → List Action → O → Type 0) (before : O) (q : Query) (c : Choice) (after : O) (q' : Query) : Type 0 where
  pub acts : acted before (map line c.lines) after
  pub query : q' ≡ with_zone q c.control c.hosts c.places
