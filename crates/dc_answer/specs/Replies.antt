-- Replies that are made where they are messages.
use Rattle.std.specs.Prelude.{◌≡◌, ◌+◌, ℕ, Bool, true, take, Option, Some, None, slice_get}
use Rattle.dc_model.specs.Name.{Name}
use Rattle.dc_model.specs.Reply.{Reply, reply_to, fits}
use Rattle.dc_machine.specs.Query.{Alias, Query, name_of}
use Rattle.dc_machine.specs.Turn.{alias_answers}
use Rattle.dc_reply.specs.Draft.{Draft, draft_of}

-- A reply was made where it is a message, and is then what is kept.
pub record Replies (made : Bool) (d : Draft) (r : Reply) : Type 0 where
  pub fits : made ≡ fits r
  pub draft : made ≡ true → d ≡ draft_of r

-- The reply to a query's request that tells of the first aliases alone, so many.
unfoldable pub first_aliases : ℕ → Query → Reply
first_aliases n q = record (reply_to q.request) { answers = take n (alias_answers q.aliases (name_of q)) }

-- The name to which an alias leads: that of the alias behind it, and behind the last this one.
abbrev pub target_by : Option Alias → Name → Name
target_by None name = name
target_by (Some a) name = a.name

-- The name to which the alias of this number leads.
abbrev pub target_of : Query → ℕ → Name
target_of q i = target_by (slice_get q.aliases (i + 1)) (name_of q)
