-- What contracts see of a world of sockets, and how the calls of its system explain what it exchanged with an engine.
use Rattle.std.specs.Prelude.{◌≡◌, ℕ, Bool, true, false, if◌then◌else◌, List, [], ◌∷◌, ◌++◌, replicate, refl}
use Rattle.std.proofs.Common.{◌∙◌, sym, ap, subst}
use Rattle.std.specs.declared.option.Option.{Option}
use Rattle.std.specs.declared.option.Option.TheVariants.{None}
use Rattle.dc_model.specs.Event.{Action, Event as ModelEvent, IsEvent, reply, conn_reply, conn_close, udp, tcp, link_write, link_close, line}
use Rattle.dc_event.specs.declared.answers.Heard.{Heard}
use Rattle.dc_event.specs.declared.answers.Heard.TheVariants as heard
use Rattle.dc_event.specs.Answers.{count_heard}
use Rattle.dc_event.specs.Causes.{counted}
use Rattle.dc_event.specs.History.{Answer, gave, ended, failed, bad, Exchange, listened, asked, gathered, did, answer_by, gathered_by, done_all}
use Rattle.dc_system.specs.Call.{Call}
use Rattle.dc_sock.specs.ClientCalls.{Listens, Replies, WritesSeat, ClosesSeat}
use Rattle.dc_sock.specs.Edge.{Edge, Hears, Fails, Gathers, NoneCame}
use Rattle.dc_sock.specs.Links.{OpensUdp, OpensTcp, WritesLink, ClosesLink}
use Rattle.slab.specs.Slab.{get}
use Rattle.dc_sock.specs.Log.{Lines}
use Rattle.dc_sock.specs.Passed.{Passed, exchanged, none_came, exchanges_of, more_by, acted_all, exchanges_both, exchanges_acted, exchanges_more, acted_both}
use Rattle.dc_sock.specs.Ready.{unwatched, recalled_by}
use Rattle.dc_sock.specs.Round.{round_of, marked_by_all}
use Rattle.dc_sock.specs.SeatCalls.{free_seat}
use Rattle.dc_sock.specs.Numbers.{Numbers}
use Rattle.dc_sock.specs.declared.sockets.Turn.{Turn}
use Rattle.dc_sock.specs.declared.sockets.Turn.TheVariants as turn

-- The system, how often the world failed, the port of clients, and the state of the sockets.
pub record Shown (S : Type 0) : Type 0 where
  pub system : S
  pub faults : ℕ
  pub port : ℕ
  pub edge : Edge

-- A world at first: nobody is heard, no connection and no link stands, nothing was gathered for the log, and nothing is ready.
pub record IsFresh {S : Type 0} (over : S) (at : ℕ) (w : Shown S) : Type 0 where
  pub system : w.system ≡ over
  pub faults : w.faults ≡ 0
  pub port : w.port ≡ at
  pub hears : w.edge.hears ≡ false
  pub retry : w.edge.retry ≡ None
  pub from : w.edge.from ≡ 0 ∷ 0 ∷ 0 ∷ 0 ∷ []
  pub links : (key : ℕ) → get w.edge.links key ≡ None
  pub next_conn : w.edge.next_conn ≡ 1
  pub seats : w.edge.seats ≡ replicate 24 free_seat
  pub log : w.edge.log ≡ record { text = []; failed = false }
  pub clock : w.edge.clock ≡ None
  pub round : w.edge.round ≡ round_of unwatched

-- The sockets on which clients are heard were made, at an address and port, and links are opened from another address.
abbrev pub ListensAll : (addr : List ℕ) (port : ℕ) (send_from : List ℕ) (ok : Bool) → Edge → List Call → Edge → Type 0
ListensAll addr port send_from ok a calls b =
    Listens addr port a.hears calls ok b.hears × (b ≡ record a { hears = b.hears; from = if ok then send_from else a.from })

-- These calls did this action.
abbrev pub Makes : Action → Edge → List Call → Edge → Type 0
Makes (reply addr port bytes) a calls b = Replies addr port bytes a.hears calls × (b ≡ a)
Makes (conn_reply conn bytes) a calls b =
    WritesSeat conn bytes a.seats a.round.watch calls b.seats b.round.watch × (b ≡ record a { seats = b.seats; round = record a.round { watch = b.round.watch } })
Makes (conn_close conn) a calls b = ClosesSeat conn a.seats calls b.seats × (b ≡ record a { seats = b.seats })
Makes (udp link port server query) a calls b =
    OpensUdp link port server query a.from a.links calls b.links
    × (b ≡ record a { links = b.links; round = record a.round { watch = marked_by_all a.round.watch calls } })
Makes (tcp link port server) a calls b =
    OpensTcp link port server a.from a.links calls b.links
    × (b ≡ record a { links = b.links; round = record a.round { watch = marked_by_all a.round.watch calls } })
Makes (link_write link bytes) a calls b =
    WritesLink link bytes a.links a.round.watch calls b.links b.round.watch × (b ≡ record a { links = b.links; round = record a.round { watch = b.round.watch } })
Makes (link_close link) a calls b =
    ClosesLink link a.links calls b.links × (b ≡ record a { links = b.links; round = record a.round { watch = recalled_by a.round.watch calls } })
Makes (line text) a calls b = Lines text a.log calls b.log × (b ≡ record a { log = b.log })

-- What the world said when it was asked for an event is what these calls gave.
abbrev pub Gave : (wake : Option ℕ) → Answer → Edge → List Call → Edge → Type 0
Gave wake (gave e) a calls b = Hears wake e a calls b
Gave wake ended a calls b = ⊥
Gave wake failed a calls b = Fails wake a calls b
Gave wake (bad number) a calls b = ⊥

-- The count of faults behind it.
abbrev pub faults_with : Answer → ℕ → ℕ
faults_with (gave e) faults = faults
faults_with ended faults = faults
faults_with failed faults = counted faults
faults_with (bad number) faults = faults

-- These calls explain this exchange.
abbrev pub Explains : {S : Type 0} → Exchange → Shown S → List Call → Shown S → Type 0
Explains (listened addr send_from ok) a calls b =
    ListensAll addr a.port send_from ok a.edge calls b.edge
    × (b ≡ record a { system = b.system; edge = b.edge; faults = if ok then a.faults else counted a.faults })
Explains (asked wake answer) a calls b =
    Gave wake answer a.edge calls b.edge
    × (b ≡ record a { system = b.system; edge = b.edge; faults = faults_with answer a.faults })
Explains (gathered e) a calls b = Gathers e a.edge calls b.edge × (b ≡ record a { system = b.system; edge = b.edge })
Explains (did action) a calls b = Makes action a.edge calls b.edge × (b ≡ record a { system = b.system; edge = b.edge })

-- The same, or that one event more was asked for and none had come.
abbrev pub Accounts : {S : Type 0} → Passed → Shown S → List Call → Shown S → Type 0
Accounts (exchanged x) a calls b = Explains x a calls b
Accounts none_came a calls b = NoneCame a.edge calls b.edge × (b ≡ record a { system = b.system; edge = b.edge })

-- All of this passed, one after the other, and each is explained by the calls that were made meanwhile.
abbrev pub Accounted : {S : Type 0} → (S → List Call → S → Type 0) → Shown S → List Passed → Shown S → Type 0
Accounted {S} called a [] b = b ≡ a
Accounted {S} called a (x ∷ xs) b =
    (m : Shown S) × (((calls : List Call) × (called a.system calls m.system × Accounts x a calls m)) × Accounted called m xs b)

-- These exchanges took place, one after the other, and each is explained by the calls that were made meanwhile. Between them one event more may
-- have been asked for, where none had come.
abbrev pub Explained : {S : Type 0} → (S → List Call → S → Type 0) → Shown S → List Exchange → Shown S → Type 0
Explained {S} called a xs b = (passed : List Passed) × ((exchanges_of passed ≡ xs) × Accounted called a passed b)

-- These actions were done, and nothing else passed.
abbrev pub ActedBy : {S : Type 0} → (S → List Call → S → Type 0) → Shown S → List Action → Shown S → Type 0
ActedBy called a actions b = Accounted called a (acted_all actions) b

-- The laws of a world.
module _ {S : Type 0} (called : S → List Call → S → Type 0) where
  pub Accounted-both : (a b c : Shown S) (xs ys : List Passed) → Accounted called a xs b → Accounted called b ys c → Accounted called a (xs ++ ys) c
  Accounted-both a b c [] ys p q = rw (← p) q
  Accounted-both a b c (x ∷ xs) ys p q = (p.0, (p.1.0, Accounted-both p.0 b c xs ys p.1.1 q))

  pub Explained-none : (a : Shown S) → Explained called a [] a
  Explained-none a = ([], (refl, refl))

  pub Explained-both : (a b c : Shown S) (xs ys : List Exchange) → Explained called a xs b → Explained called b ys c → Explained called a (xs ++ ys) c
  Explained-both a b c xs ys p q =
      (p.0 ++ q.0, (exchanges_both p.0 q.0 ∙ (ap (λ l. l ++ exchanges_of q.0) p.1.0 ∙ ap (λ l. xs ++ l) q.1.0), Accounted-both a b c p.0 q.0 p.1.1 q.1.1))

  pub ActedBy-both : (a b c : Shown S) (xs ys : List Action) → ActedBy called a xs b → ActedBy called b ys c → ActedBy called a (xs ++ ys) c
  ActedBy-both a b c xs ys p q = rw (acted_both xs ys) (Accounted-both a b c (acted_all xs) (acted_all ys) p q)

  pub ActedBy-explained : (a b : Shown S) (xs : List Action) → ActedBy called a xs b → Explained called a (done_all xs) b
  ActedBy-explained a b xs p = (acted_all xs, (exchanges_acted xs, p))

  pub ActedBy-faults : (a b : Shown S) (xs : List Action) → ActedBy called a xs b → b.faults ≡ a.faults
  ActedBy-faults a b [] p = ap (λ (s : Shown S). s.faults) p
  ActedBy-faults a b (x ∷ xs) p = ActedBy-faults p.0 b xs p.1.1 ∙ ap (λ (s : Shown S). s.faults) p.1.0.1.1.1

  -- One that was exchanged, and one event more that was asked for.
  pub Explained-one : (a b : Shown S) (x : Exchange) → Accounted called a (exchanged x ∷ []) b → Explained called a (x ∷ []) b
  Explained-one a b x p = (exchanged x ∷ [], (refl, p))

  pub Explained-more : (a b : Shown S) (more : Bool) (e : ModelEvent) → Accounted called a (more_by more e ∷ []) b → Explained called a (gathered_by more e) b
  Explained-more a b more e p = (more_by more e ∷ [], (exchanges_more more e, p))

-- What a turn leaves in the inbox where it gives an event.
abbrev pub TurnGives : Turn → ModelEvent → Type 0
TurnGives turn.Event e = IsEvent e
TurnGives turn.Nothing e = Unit {0}
TurnGives turn.Failed e = Unit {0}

-- The same for the numbers of connections. Where it gives none, no number was given.
abbrev pub TurnNumbers : Turn → ModelEvent → (before after : ℕ) → Type 0
TurnNumbers turn.Event e before after = Numbers e.kind before after e.id
TurnNumbers turn.Nothing e before after = after ≡ before
TurnNumbers turn.Failed e before after = after ≡ before

-- What `next` leaves in the inbox: an event within its bounds, or it failed. It never ends, and there are no lines.
abbrev pub Gives : Heard → ModelEvent → Type 0
Gives heard.Event e = IsEvent e
Gives heard.End e = ⊥
Gives heard.Failed e = Unit {0}
Gives (heard.Bad number) e = ⊥

-- The number of the next connection is one more behind a connection that came, which has that number.
abbrev pub AnswerNumbers : Heard → ModelEvent → (before after : ℕ) → Type 0
AnswerNumbers heard.Event e before after = Numbers e.kind before after e.id
AnswerNumbers heard.End e before after = after ≡ before
AnswerNumbers heard.Failed e before after = after ≡ before
AnswerNumbers (heard.Bad number) e before after = after ≡ before

-- One that passed, and one action.
pub accounted_from : {S : Type 0} (called : S → List Call → S → Type 0) (a now b : Shown S) (x : Passed) (calls : List Call) → a ≡ now → called a.system calls b.system → Accounts x a calls b → Accounted called now (x ∷ []) b
accounted_from {S} called a now b x calls e p q = subst (λ (w : Shown S). Accounted called w (x ∷ []) b) e (b, ((calls, (p, q)), refl))

pub acted_from : {S : Type 0} (called : S → List Call → S → Type 0) (a now b : Shown S) (x : Action) (calls : List Call) → a ≡ now → called a.system calls b.system → Makes x a.edge calls b.edge → b ≡ record a { system = b.system; edge = b.edge } → ActedBy called now (x ∷ []) b
acted_from {S} called a now b x calls e p q s = accounted_from called a now b (exchanged (did x)) calls e p (q, s)

-- Listening failed.
pub deaf_from : {S : Type 0} (called : S → List Call → S → Type 0) (a now : Shown S) (addr send_from : List ℕ) (system : S) (edge : Edge) (faults : ℕ) (calls : List Call) → a ≡ now → called a.system calls system → ListensAll addr a.port send_from false a.edge calls edge → faults ≡ counted a.faults → Accounted called now (exchanged (listened addr send_from false) ∷ []) (record a { system = system; edge = edge; faults = faults })
deaf_from {S} called a now addr send_from system edge faults calls e p l f =
    accounted_from called a now (record a { system = system; edge = edge; faults = faults }) (exchanged (listened addr send_from false)) calls e p
    (l, ap (λ (n : ℕ). record a { system = system; edge = edge; faults = n }) f)

faults_same : (said : Heard) (e : ModelEvent) (faults : ℕ) → count_heard said faults ≡ faults_with (answer_by said e) faults
faults_same heard.Event e faults = refl
faults_same heard.End e faults = refl
faults_same heard.Failed e faults = refl
faults_same (heard.Bad number) e faults = refl

-- An answer of `next`, which is counted behind the calls.
pub asked_from : {S : Type 0} (called : S → List Call → S → Type 0) (a now b : Shown S) (wake : Option ℕ) (said : Heard) (e : ModelEvent) (system : S) (edge : Edge) (calls : List Call) → a ≡ now → called a.system calls system → Gave wake (answer_by said e) a.edge calls edge → b ≡ record a { system = system; edge = edge; faults = count_heard said a.faults } → Accounted called now (exchanged (asked wake (answer_by said e)) ∷ []) b
asked_from {S} called a now b wake said e system edge calls same p given noted =
    subst (λ (w : Shown S). Accounted called now (exchanged (asked wake (answer_by said e)) ∷ []) w) (sym (noted ∙ ap (λ (n : ℕ). record a { system = system; edge = edge; faults = n }) (faults_same said e a.faults)))
    (accounted_from called a now (record a { system = system; edge = edge; faults = faults_with (answer_by said e) a.faults }) (exchanged (asked wake (answer_by said e))) calls same p (given, refl))

-- What one more gave: an event that had come, or none.
abbrev pub MoreGave : Bool → ModelEvent → Edge → List Call → Edge → Type 0
MoreGave true e a calls b = Gathers e a calls b
MoreGave false e a calls b = NoneCame a calls b

-- The numbers of connections behind it.
abbrev pub MoreNumbers : Bool → ModelEvent → (before after : ℕ) → Type 0
MoreNumbers true e before after = Numbers e.kind before after e.id
MoreNumbers false e before after = after ≡ before

pub more_from : {S : Type 0} (called : S → List Call → S → Type 0) (a now b : Shown S) (more : Bool) (e : ModelEvent) (calls : List Call) → a ≡ now → called a.system calls b.system → MoreGave more e a.edge calls b.edge → b ≡ record a { system = b.system; edge = b.edge } → Accounted called now (more_by more e ∷ []) b
more_from {S} called a now b true e calls same p given left = accounted_from called a now b (exchanged (gathered e)) calls same p (given, left)
more_from {S} called a now b false e calls same p given left = accounted_from called a now b none_came calls same p (given, left)
