-- What is taken out of the records of a message.
use Rattle.std.specs.Prelude.{ℕ, Bool, ◌&&◌, ◌==◌, List, [], ◌∷◌, map, filter, Option, Some, None}
use Rattle.dc_model.specs.Name.{Name, same}
use Rattle.dc_model.specs.Message.{Record, kind_a, kind_ns, is_in}
use Rattle.dc_model.specs.Marks.{is_answer, is_authority, host_of}
use Rattle.dc_machine.specs.Turn.{bytes_of}

-- A value, where there is one, as a list.
abbrev pub listed : {X : Type 0} → Option X → List X
listed None = []
listed (Some x) = x ∷ []

-- The addresses that these records answer for a name: four bytes of data in class IN.
unfoldable pub addresses_in : Name → List Record → List (List ℕ)
addresses_in name rs =
    map (λ r. bytes_of r.body) (filter (λ r. r.kind == kind_a && r.len == 4) (filter (λ r. is_answer r.section && same r.owner name) (filter is_in rs)))

-- The names of a zone's servers, in these records of the authority section.
unfoldable pub hosts_in : Name → List Record → List Name
hosts_in zone rs =
    map (λ r. host_of r.body) (filter (λ r. r.kind == kind_ns && same r.owner zone) (filter (λ r. is_authority r.section) (filter is_in rs)))

-- Whether a record is an address that answers for a name.
abbrev pub gives_address : Name → Record → Bool
gives_address name r = is_in r && ((is_answer r.section && same r.owner name) && (r.kind == kind_a && r.len == 4))

-- Whether a record names a server of a zone.
abbrev pub gives_host : Name → Record → Bool
gives_host zone r = is_in r && (is_authority r.section && (r.kind == kind_ns && same r.owner zone))
