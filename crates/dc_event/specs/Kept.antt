-- A world in memory: what it gives, and the history that it keeps.
use Rattle.std.specs.Prelude.{◌≡◌, ℕ, ◌^◌, ◌<◌, ◌≤◌, ◌⊎◌, Bool, true, false, List, [], ◌∷◌, ◌++◌, length, nat_lt, if◌then◌else◌, refl}
use Rattle.std.proofs.Common.{sym, ◌∙◌, ap, subst}
use Rattle.std.proofs.lemmas.List.{map-append}
use Rattle.std.specs.declared.option.Option.{Option}
use Rattle.std.specs.declared.option.Option.TheVariants.{None, Some}
use Rattle.dc_model.specs.Event.{Event, Action, reply, conn_reply, conn_close, udp, tcp, link_write, link_close, line}
use Rattle.dc_engine.specs.View.{kind_of}
use Rattle.dc_event.specs.declared.answers.Heard.{Heard}
use Rattle.dc_event.specs.declared.answers.Heard.TheVariants as heard
use Rattle.dc_event.specs.declared.kept.FullEvent.{FullEvent}
use Rattle.dc_event.specs.declared.kept.Given.{Given}
use Rattle.dc_event.specs.declared.kept.Given.TheVariants as given
use Rattle.dc_event.specs.declared.kept.Action.{Action as CodeAction}
use Rattle.dc_event.specs.declared.kept.Action.TheVariants as code
use Rattle.dc_event.specs.declared.kept.Passed.{Passed}
use Rattle.dc_event.specs.declared.kept.Passed.TheVariants as passed
use Rattle.dc_event.specs.History.{Answer, gave, ended, failed, bad, Exchange, listened, asked, gathered, did, done_all}
use Rattle.dc_event.specs.Told.{Grows}
use Rattle.dc_event.specs.Bytes.{Grows-none, Grows-both}

-- What the code's values stand for.

abbrev pub event_with : FullEvent → Event
event_with e = record { now = e.now; kind = kind_of e.kind; id = e.id; addr = e.addr; port = e.port; bytes = e.bytes.items }

abbrev pub given_by : Given → Answer
given_by (given.Event e) = gave (event_with e)
given_by given.Failed = failed
given_by (given.Bad number) = bad number

abbrev pub answer_of : Option Given → Answer
answer_of None = ended
answer_of (Some g) = given_by g

abbrev pub action_of : CodeAction → Action
action_of (code.Reply addr port bytes) = reply addr port bytes.items
action_of (code.ConnReply conn bytes) = conn_reply conn bytes.items
action_of (code.ConnClose conn) = conn_close conn
action_of (code.Udp link local_port server query) = udp link local_port server query.items
action_of (code.Tcp link local_port server) = tcp link local_port server
action_of (code.LinkWrite link bytes) = link_write link bytes.items
action_of (code.LinkClose link) = link_close link
action_of (code.Line text) = line text.items

abbrev pub exchange_of : Passed → Exchange
exchange_of (passed.Listened addr send_from well) = listened addr send_from well
exchange_of (passed.Asked wake g) = asked wake (answer_of g)
exchange_of (passed.Gathered e) = gathered (event_with e)
exchange_of (passed.Did action) = did (action_of action)

-- The bounds of an event that can be given.
abbrev pub IsWithin : FullEvent → Type 0
IsWithin e = (e.now < 2 ^ 62) × (length e.bytes.items ≤ 65535)

abbrev pub IsSound : Given → Type 0
IsSound (given.Event e) = IsWithin e
IsSound given.Failed = Unit {0}
IsSound (given.Bad number) = Unit {0}

-- A world in memory: for how many exchanges it has room, what passed, where told, what is left to give, whether it listens when asked to,
-- the bad line that it named last, and its count of faults.
pub record Kept : Type 0 where
  pub room : ℕ
  pub history : Option (List Exchange)
  pub left : List Answer
  pub listens : Bool
  pub named : Option ℕ
  pub faults : ℕ

-- What the world answers when it has this left, and whether that is an event.

abbrev pub first_of : List Answer → Answer
first_of [] = ended
first_of (a ∷ as') = a

abbrev pub is_event : Answer → Bool
is_event (gave e) = true
is_event ended = false
is_event failed = false
is_event (bad number) = false

-- The history behind one more exchange: it is told where it was told before and room is left.
abbrev pub kept_more : ℕ → Option (List Exchange) → Exchange → Option (List Exchange)
kept_more room None x = None
kept_more room (Some h) x = if nat_lt (length h) room then Some (h ++ x ∷ []) else None

-- The same where memory was wanted: it is no longer told where that was refused.
abbrev pub KeepsOrStops : ℕ → Option (List Exchange) → Exchange → Option (List Exchange) → Type 0
KeepsOrStops room old x new = (new ≡ kept_more room old x) ⊎ (new ≡ None)

-- Only an event takes the place of the one before it.
abbrev pub InboxStays : Heard → Event → Event → Type 0
InboxStays heard.Event old new = Unit {0}
InboxStays heard.End old new = new ≡ old
InboxStays heard.Failed old new = new ≡ old
InboxStays (heard.Bad number) old new = new ≡ old

-- A call of `more` that answers yes hands out the first event that is left and keeps that, and one that answers no changes nothing.
abbrev pub Gathers : Bool → Event → Event → Kept → Kept → Type 0
Gathers true event_before event old new = (old.left ≡ gave event ∷ new.left) × (new ≡ record old { history = kept_more old.room old.history (gathered event); left = new.left })
Gathers false event_before event old new = (event ≡ event_before) × (new ≡ old)

-- These actions were done between the two, and nothing else changed.
pub record Acted (old : Kept) (xs : List Action) (new : Kept) : Type 0 where
  pub grows : Grows old.history (done_all xs) new.history
  pub same : new ≡ record old { history = new.history }

pub Acted-none : (a : Kept) → Acted a [] a
Acted-none a = record { grows = Grows-none a.history; same = refl }

pub Acted-both : (a b c : Kept) (xs ys : List Action) → Acted a xs b → Acted b ys c → Acted a (xs ++ ys) c
Acted-both a b c xs ys p q = record {
  grows = subst (λ h. Grows a.history h c.history) (sym (map-append did xs ys)) (Grows-both a.history b.history c.history (done_all xs) (done_all ys) p.grows q.grows);
  same = q.same ∙ ap (λ (w : Kept). record w { history = c.history }) p.same;
}
