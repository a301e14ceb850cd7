-- Going over words: what holds between two of them, and how it ends.
use Rattle.std.proofs.Common.{◌≡◌, ℕ, ◌+◌, ◌≤◌, ◌<◌, inl, inr, false, List, [], ◌∷◌, ◌++◌, length, refl, ap, sym, ◌∙◌, subst, arith, append_assoc, length-append, All, suc, map, drop, get_or}
use Rattle.std.specs.declared.option.Option.{Option}
use Rattle.std.specs.declared.option.Option.TheVariants.{None, Some}
use Rattle.std.proofs.Math.Seq.{drop-cons}
use Rattle.std.proofs.lemmas.List.{append-nil}
use Rattle.std.proofs.lemmas.List.Elements.{All-nil, All-append}
use Rattle.dc_model.specs.Name.{Name}
use Rattle.dc_model.specs.Message.{Message, message_of}
use Rattle.dc_model.specs.Event.{Event, IsEvent, Action, Kind, tick, request, datagram, link_up, link_bytes, link_down, bind_refused, conn_up, conn_bytes, conn_down}
use Rattle.dc_model.specs.Transmission.{Progress, waiting, packet, failed, no_port, Accepted}
use Rattle.dc_engine.specs.Automaton.{state_after}
use Rattle.dc_event.specs.History.{Exchange}
use Rattle.dc_event.specs.Told.{BeginsWith}
use Rattle.dc_lookup.specs.Words.{Tool, Job, says, asks, shown_by}
use Rattle.dc_lookup.specs.Asking.{Asking, unasked, begins, fresh_step, ask_by, ask_step, ask_wake, is_over_by}
use Rattle.dc_lookup.specs.Lookup.{Lookup, asking, ended, unanswered, portless, unreadable, written, goes_to, opened, shown_of, led_by, has_ended, look_wake, lookup_after, WentOn}
use Rattle.dc_serve.specs.Serve.{each_passes}
use Rattle.dc_stub.specs.Stub.{Stub, stub_machine}
use Rattle.dc_stub.specs.Word.{WordEnds, further, fresh_stub, Worded}
use Rattle.dc_stub.specs.Look.{HasGivenUp, look_passes, Closes, Looked, job_of}
use Rattle.dc_stub.specs.declared.look.Job.{Job as CodeJob}
use Rattle.dc_stub.specs.declared.status.ToolStatus.{ToolStatus}
use Rattle.dc_stub.specs.declared.status.ToolStatus.TheVariants.{Done, Usage, NoAnswer, NoPort, Malformed, Ended, Spent, FilesFault, WriteFault, WorldFault, BadScript, NoMemory, ReadFault, LongLine}
use Rattle.dc_stub.proofs.LookLemmas.{behind_word, at_asking, not_over, Same, same_from, after_more, passes_more, went_more}

-- What a question keeps.
record Keeps (a b : Asking) : Type 0 where
  pub name : b.name ≡ a.name
  pub kind : b.kind ≡ a.kind
  pub servers : b.servers ≡ a.servers

fresh_keeps : (k : Kind) (a : Asking) (e : Event) (draws : List ℕ) → Keeps a (fresh_step k a e draws).asking
unfolding fresh_step begins
fresh_keeps tick a e draws = record { name = refl; kind = refl; servers = refl }
fresh_keeps request a e draws = record { name = refl; kind = refl; servers = refl }
fresh_keeps datagram a e draws = record { name = refl; kind = refl; servers = refl }
fresh_keeps link_up a e draws = record { name = refl; kind = refl; servers = refl }
fresh_keeps link_bytes a e draws = record { name = refl; kind = refl; servers = refl }
fresh_keeps link_down a e draws = record { name = refl; kind = refl; servers = refl }
fresh_keeps bind_refused a e draws = record { name = refl; kind = refl; servers = refl }
fresh_keeps conn_up a e draws = record { name = refl; kind = refl; servers = refl }
fresh_keeps conn_bytes a e draws = record { name = refl; kind = refl; servers = refl }
fresh_keeps conn_down a e draws = record { name = refl; kind = refl; servers = refl }

step_keeps : (stands : Option Progress) (a : Asking) (e : Event) (draws : List ℕ) → Keeps a (ask_by stands a e draws).asking
unfolding ask_by
step_keeps None a e draws = fresh_keeps e.kind a e draws
step_keeps (Some (waiting t)) a e draws = record { name = refl; kind = refl; servers = refl }
step_keeps (Some (packet p)) a e draws = record { name = refl; kind = refl; servers = refl }
step_keeps (Some failed) a e draws = record { name = refl; kind = refl; servers = refl }
step_keeps (Some no_port) a e draws = record { name = refl; kind = refl; servers = refl }

run_keeps : (words : ℕ → List ℕ) (n : ℕ) (s : Stub) (es : List Event) → Keeps s.asking (state_after stub_machine words n s es).asking
unfolding ask_step
run_keeps words n s [] = record { name = refl; kind = refl; servers = refl }
run_keeps words n s (e ∷ es) =
    let one = step_keeps s.asking.stands s.asking e (words n) in
    let more = run_keeps words (n + 1) (stub_machine.next s e (words n)) es in
    record { name = more.name ∙ one.name; kind = more.kind ∙ one.kind; servers = more.servers ∙ one.servers }

-- Where the words lead

goes_on_up : (servers : List (List ℕ)) (told said : List ℕ) (jobs : List Job) → HasGivenUp (goes_to servers told said jobs).stage → ⊥
goes_on_up servers told said [] h = h
goes_on_up servers told said (says text ∷ jobs) h = goes_on_up servers told (said ++ text) jobs h
goes_on_up servers told said (asks name kind ∷ jobs) h = h

begins_more : (xs ys zs : List ℕ) → BeginsWith (xs ++ ys) zs → BeginsWith xs zs
begins_more xs ys zs h = (ys ++ h.0, h.1 ∙ append_assoc xs ys h.0)

goes_written : (servers : List (List ℕ)) (told said : List ℕ) (jobs : List Job) → BeginsWith (told ++ said) (written (goes_to servers told said jobs))
goes_written servers told said [] = ([], sym (append-nil (told ++ said)))
goes_written servers told said (says text ∷ jobs) =
    let more : BeginsWith (told ++ (said ++ text)) (written (goes_to servers told (said ++ text) jobs)) = goes_written servers told (said ++ text) jobs in
    begins_more (told ++ said) text (written (goes_to servers told (said ++ text) jobs)) (subst (λ x. BeginsWith x (written (goes_to servers told (said ++ text) jobs))) (sym (append_assoc told said text)) more)
goes_written servers told said (asks name kind ∷ jobs) = ([], sym (append-nil (told ++ said)))

begins_behind : (xs text shown whole : List ℕ) → BeginsWith text shown → BeginsWith (xs ++ shown) whole → BeginsWith (xs ++ text) whole
begins_behind xs text shown whole h k =
    (h.0 ++ k.0, k.1 ∙ ap (λ (l : List ℕ). (xs ++ l) ++ k.0) h.1 ∙ ap (λ (l : List ℕ). l ++ k.0) (sym (append_assoc xs text h.0)) ∙ append_assoc (xs ++ text) h.0 k.0)

module _ {W K : Type 0} (history : W → List Exchange → W → Type 0) (used_up : W → Type 0) (broken : W → ℕ → Type 0)
    (gained : K → List ℕ → K → Type 0)
    (history_both : (a b c : W) (xs ys : List Exchange) → history a xs b → history b ys c → history a (xs ++ ys) c)
    (gained_both : (a b c : K) (xs ys : List ℕ) → gained a xs b → gained b ys c → gained a (xs ++ ys) c)
    (old : W) (sold : K) (tool : Tool) (servers : List (List ℕ)) (start : Lookup) (words : ℕ → List ℕ) (limit : ℕ) where
  -- Between two words: the words that are left, and how many events may still be handled.
  pub record SoFar (rest : List Job) (left : ℕ) (now : W) (snow : K) : Type 0 where
    pub events : List Event
    pub told : List ℕ
    pub said : List ℕ
    pub passed : history old (look_passes tool words 0 start events) now
    pub bounded : All IsEvent events
    pub went_on : WentOn tool words 0 start events
    pub state : lookup_after tool words 0 start events ≡ goes_to servers told said rest
    pub put : gained sold (told ++ said) snow
    pub count : left + length events ≡ limit

  abbrev pub Looked_so : W → K → ToolStatus → Type 0
  Looked_so new snew status = Looked history used_up broken gained old new sold snew tool start words limit status

  pub nothing_yet : (jobs : List Job) → start ≡ opened servers jobs → history old [] old → gained sold [] sold → SoFar jobs limit old sold
  unfolding opened lookup_after look_passes WentOn
  nothing_yet jobs is h g = record {
    events = [];
    told = [];
    said = [];
    passed = h;
    bounded = All-nil IsEvent;
    went_on = tt;
    state = is;
    put = g;
    count = omega arith;
  }

  -- A text that needs no asking was written, or a front of it.
  pub said_more : (text : List ℕ) (rest : List Job) (left : ℕ) (now : W) (snow snew : K) → SoFar (says text ∷ rest) left now snow → gained snow text snew → SoFar rest left now snew
  said_more text rest left now snow snew s g = record {
    events = s.events;
    told = s.told;
    said = s.said ++ text;
    passed = s.passed;
    bounded = s.bounded;
    went_on = s.went_on;
    state = s.state;
    put = subst (λ (x : List ℕ). gained sold x snew) (append_assoc s.told s.said text) (gained_both sold snow snew (s.told ++ s.said) text s.put g);
    count = s.count;
  }

  -- Nothing passes behind the events.
  quiet : (now : W) (events : List Event) → history old (look_passes tool words 0 start events) now → history old (look_passes tool words 0 start events ++ []) now
  quiet now events h = subst (λ (x : List Exchange). history old x now) (sym (append-nil (look_passes tool words 0 start events))) h

  pub said_front : (text : List ℕ) (rest : List Job) (left : ℕ) (now : W) (snow snew : K) → SoFar (says text ∷ rest) left now snow
      → (front : List ℕ) → BeginsWith front text → gained snow front snew → Looked_so now snew WriteFault
  said_front text rest left now snow snew s front begins g =
      let whole : BeginsWith (s.told ++ (s.said ++ text)) (written (goes_to servers s.told (s.said ++ text) rest)) = goes_written servers s.told (s.said ++ text) rest in
      let part : BeginsWith ((s.told ++ s.said) ++ front) (written (goes_to servers s.told (s.said ++ text) rest)) =
      begins_behind (s.told ++ s.said) front text (written (goes_to servers s.told (s.said ++ text) rest)) begins
      (subst (λ (x : List ℕ). BeginsWith x (written (goes_to servers s.told (s.said ++ text) rest))) (sym (append_assoc s.told s.said text)) whole) in
      record {
        events = s.events;
        passed = quiet now s.events s.passed;
        bounded = s.bounded;
        went_on = s.went_on;
        text = (s.told ++ s.said) ++ front;
        told = gained_both sold snow snew (s.told ++ s.said) front s.put g;
        closes = (
          subst (λ (x : Lookup). HasGivenUp x.stage → ⊥) (sym s.state) (goes_on_up servers s.told (s.said ++ text) rest),
          subst (λ (x : Lookup). BeginsWith ((s.told ++ s.said) ++ front) (written x)) (sym s.state) part,
        );
      }

  -- All words have their texts.
  pub all_told : (left : ℕ) (now : W) (snow : K) → SoFar [] left now snow → Looked_so now snow Done
  all_told left now snow s = record {
    events = s.events;
    passed = quiet now s.events s.passed;
    bounded = s.bounded;
    went_on = s.went_on;
    text = s.told ++ s.said;
    told = s.put;
    closes = (ap (λ (x : Lookup). x.stage) s.state, sym (ap (λ (x : Lookup). written x) s.state));
  }

  -- A word was asked.
  module _ (name : Name) (kind : ℕ) (rest : List Job) (left : ℕ) (now new : W) (snow snew : K) (s : SoFar (asks name kind ∷ rest) left now snow)
      (status : ToolStatus) (es : List Event)
      (w : Worded history used_up broken gained now new snow snew tool servers name kind words (length s.events) left status es) where
    -- the lookup when the word is asked, and its question behind the word's events
    at_word : Lookup
    at_word = record { told = s.told; said = s.said; stage = asking (unasked servers name kind) rest }

    final : Asking
    final = (state_after stub_machine words (length s.events) (fresh_stub servers name kind) es).asking

    same : Same tool words rest at_word (length s.events) (behind_word tool (unasked servers name kind) rest at_word) (fresh_stub servers name kind) es
    same = same_from tool words rest at_word (length s.events) (fresh_stub servers name kind) es w.went_on

    here : lookup_after tool words 0 start s.events ≡ behind_word tool (unasked servers name kind) rest at_word
    unfolding at_word led_by
    here = s.state

    zero : 0 + length s.events ≡ length s.events
    zero = omega arith

    state : lookup_after tool words 0 start (s.events ++ es) ≡ behind_word tool final rest at_word
    unfolding final
    state =
        after_more tool words 0 start s.events es
        ∙ ap (λ (n : ℕ). lookup_after tool words n (lookup_after tool words 0 start s.events) es) zero
        ∙ ap (λ (l : Lookup). lookup_after tool words (length s.events) l es) here ∙ same.state

    passes_are : look_passes tool words 0 start s.events ++ each_passes stub_machine words (length s.events) (fresh_stub servers name kind) es ≡ look_passes tool words 0 start (s.events ++ es)
    passes_are =
        ap (λ (x : List Exchange). look_passes tool words 0 start s.events ++ x)
        (sym same.passes ∙ ap (λ (l : Lookup). look_passes tool words (length s.events) l es) (sym here)
        ∙ ap (λ (n : ℕ). look_passes tool words n (lookup_after tool words 0 start s.events) es) (sym zero))
        ∙ sym (passes_more tool words 0 start s.events es)

    went : WentOn tool words 0 start (s.events ++ es)
    went =
        went_more tool words 0 start s.events es s.went_on
        (subst (λ (n : ℕ). WentOn tool words n (lookup_after tool words 0 start s.events) es) (sym zero)
        (subst (λ (l : Lookup). WentOn tool words (length s.events) l es) (sym here) same.went_on))

    passed_all : history old (look_passes tool words 0 start (s.events ++ es) ++ further status (ask_wake final)) new
    unfolding final
    passed_all =
        subst (λ (x : List Exchange). history old (x ++ further status (ask_wake final)) new) passes_are
        (subst (λ (x : List Exchange). history old x new) (sym (append_assoc (look_passes tool words 0 start s.events) _ _)) (history_both old now new _ _ s.passed w.passed))

    -- what it keeps
    kept : Keeps (unasked servers name kind) final
    unfolding final
    kept = run_keeps words (length s.events) (fresh_stub servers name kind) es

    shown : (p : Accepted) (m : Message) → final.stands ≡ Some (packet p) → message_of p.packet ≡ Some m
        → behind_word tool final rest at_word ≡ goes_to servers ((s.told ++ s.said) ++ shown_by tool name kind p.packet m) [] rest
    unfolding led_by at_word
    shown p m stands reads =
        ap (λ (x : Option Progress). led_by x tool final rest at_word) stands
        ∙ ap (λ (x : Option Message). shown_of x tool p final rest at_word) reads
        ∙ ap (λ (x : List (List ℕ)). goes_to x ((s.told ++ s.said) ++ shown_by tool final.name final.kind p.packet m) [] rest) kept.servers
        ∙ ap (λ (x : Name). goes_to servers ((s.told ++ s.said) ++ shown_by tool x final.kind p.packet m) [] rest) kept.name
        ∙ ap (λ (x : ℕ). goes_to servers ((s.told ++ s.said) ++ shown_by tool name x p.packet m) [] rest) kept.kind

    put_more : gained sold ((s.told ++ s.said) ++ w.text) snew
    put_more = gained_both sold snow snew (s.told ++ s.said) w.text s.put w.told

    length_both : length (s.events ++ es) ≡ length s.events + length es
    length_both = length-append s.events es

    abbrev Ends : ToolStatus → Type 0
    Ends x = WordEnds x tool name kind final.stands w.text (length es) left (used_up new) (broken new)

    ends : Ends status
    unfolding final
    ends = w.ends

    -- It was told.
    pub asked_more : status ≡ Done → (left' : ℕ) → left' + length es ≡ left → SoFar rest left' new snew
    asked_more is left' counts =
        let e = subst (λ (x : ToolStatus). Ends x) is ends in
        let text : List ℕ = shown_by tool name kind e.0.packet e.2.0 in
        let none : further status (ask_wake final) ≡ [] = ap (λ (x : ToolStatus). further x (ask_wake final)) is in
        let all : look_passes tool words 0 start (s.events ++ es) ++ further status (ask_wake final) ≡ look_passes tool words 0 start (s.events ++ es) =
        ap (λ (x : List Exchange). look_passes tool words 0 start (s.events ++ es) ++ x) none ∙ append-nil _ in
        record {
          events = s.events ++ es;
          told = (s.told ++ s.said) ++ text;
          said = [];
          passed = subst (λ (x : List Exchange). history old x new) all passed_all;
          bounded = All-append IsEvent s.events es s.bounded w.bounded;
          went_on = went;
          state = state ∙ shown e.0 e.2.0 e.1 e.2.1;
          put = subst (λ (x : List ℕ). gained sold x snew) (ap (λ (x : List ℕ). (s.told ++ s.said) ++ x) e.2.2 ∙ sym (append-nil ((s.told ++ s.said) ++ text))) put_more;
          count = omega (arith, s.count, counts, length_both);
        }

    -- It wasn't, and the tool ends.

    none_more : w.text ≡ [] → (s.told ++ s.said) ++ w.text ≡ s.told ++ s.said
    none_more h = ap (λ (x : List ℕ). (s.told ++ s.said) ++ x) h ∙ append-nil (s.told ++ s.said)

    abbrev behind : Lookup
    behind = behind_word tool final rest at_word

    abbrev Closed : ToolStatus → Type 0
    Closed x = Closes x behind ((s.told ++ s.said) ++ w.text) (length (s.events ++ es)) limit (used_up new) (broken new)

    still_asking : is_over_by final.stands ≡ false → behind ≡ at_asking final rest at_word
    still_asking h = not_over final.stands tool final rest at_word h

    text_is : (l : Lookup) → behind ≡ l → written l ≡ s.told ++ s.said → w.text ≡ [] → (s.told ++ s.said) ++ w.text ≡ written behind
    text_is l b h n = none_more n ∙ sym h ∙ sym (ap (λ (x : Lookup). written x) b)

    closes : (x : ToolStatus) → (x ≡ Done → ⊥) → Ends x → Closed x
    unfolding led_by at_word
    closes Done other e = absurd (other refl)
    closes NoAnswer other e =
        let b : behind ≡ record at_word { stage = ended unanswered } = ap (λ (x : Option Progress). led_by x tool final rest at_word) e.0 in
        (ap (λ (x : Lookup). x.stage) b, text_is _ b refl e.1)
    closes NoPort other e =
        let b : behind ≡ record at_word { stage = ended portless } = ap (λ (x : Option Progress). led_by x tool final rest at_word) e.0 in
        (ap (λ (x : Lookup). x.stage) b, text_is _ b refl e.1)
    closes Malformed other e =
        let b : behind ≡ record at_word { stage = ended unreadable } =
        ap (λ (x : Option Progress). led_by x tool final rest at_word) e.1 ∙ ap (λ (x : Option Message). shown_of x tool e.0 final rest at_word) e.2.0 in
        (ap (λ (x : Lookup). x.stage) b, text_is _ b refl e.2.1)
    closes Ended other e =
        let b = still_asking e.0 in (ap (λ (x : Lookup). has_ended x) b, text_is _ b refl e.1, omega (arith, e.2, s.count, length_both), e.3)
    closes Spent other e =
        let b = still_asking e.0 in (ap (λ (x : Lookup). has_ended x) b, text_is _ b refl e.1, omega (arith, e.2, s.count, length_both))
    closes (BadScript k) other e =
        let b = still_asking e.0 in (ap (λ (x : Lookup). has_ended x) b, text_is _ b refl e.1, omega (arith, e.2, s.count, length_both), e.3)
    closes WorldFault other e =
        let b = still_asking e.0 in (ap (λ (x : Lookup). has_ended x) b, text_is _ b refl e.1, omega (arith, e.2, s.count, length_both))
    closes NoMemory other e =
        let b = still_asking e.0 in (subst (λ (x : Lookup). HasGivenUp x.stage → ⊥) (sym b) (λ h. h), inl (text_is _ b refl e.1))
    closes WriteFault other e =
        let text : List ℕ = shown_by tool name kind e.0.packet e.2.0 in
        let b = shown e.0 e.2.0 e.1 e.2.1 in
        let whole : BeginsWith (((s.told ++ s.said) ++ text) ++ []) (written (goes_to servers ((s.told ++ s.said) ++ text) [] rest)) = goes_written servers ((s.told ++ s.said) ++ text) [] rest in
        let part : BeginsWith ((s.told ++ s.said) ++ w.text) (written (goes_to servers ((s.told ++ s.said) ++ text) [] rest)) =
        begins_behind (s.told ++ s.said) w.text text (written (goes_to servers ((s.told ++ s.said) ++ text) [] rest)) e.2.2
        (subst (λ (x : List ℕ). BeginsWith x (written (goes_to servers ((s.told ++ s.said) ++ text) [] rest))) (append-nil ((s.told ++ s.said) ++ text)) whole) in (
          subst (λ (x : Lookup). HasGivenUp x.stage → ⊥) (sym b) (goes_on_up servers ((s.told ++ s.said) ++ text) [] rest),
          subst (λ (x : Lookup). BeginsWith ((s.told ++ s.said) ++ w.text) (written x)) (sym b) part,
        )
    closes Usage other e = absurd e
    closes FilesFault other e = absurd e
    closes ReadFault other e = absurd e
    closes (LongLine k) other e = absurd e

    further_is : (x : ToolStatus) → Ends x → further x (ask_wake final) ≡ further x (look_wake behind)
    further_is Done e = refl
    further_is NoAnswer e = refl
    further_is NoPort e = refl
    further_is Malformed e = refl
    further_is Ended e = ap (λ (l : Lookup). further Ended (look_wake l)) (sym (still_asking e.0))
    further_is Spent e = refl
    further_is (BadScript k) e = ap (λ (l : Lookup). further (BadScript k) (look_wake l)) (sym (still_asking e.0))
    further_is WorldFault e = ap (λ (l : Lookup). further WorldFault (look_wake l)) (sym (still_asking e.0))
    further_is NoMemory e = refl
    further_is WriteFault e = refl
    further_is Usage e = refl
    further_is FilesFault e = refl
    further_is ReadFault e = refl
    further_is (LongLine k) e = refl

    pub asked_ends : (status ≡ Done → ⊥) → Looked_so new snew status
    asked_ends other =
        let last : further status (ask_wake final) ≡ further status (look_wake (lookup_after tool words 0 start (s.events ++ es))) =
        further_is status ends ∙ ap (λ (l : Lookup). further status (look_wake l)) (sym state) in
        record {
          events = s.events ++ es;
          passed = subst (λ (x : List Exchange). history old (look_passes tool words 0 start (s.events ++ es) ++ x) new) last passed_all;
          bounded = All-append IsEvent s.events es s.bounded w.bounded;
          went_on = went;
          text = (s.told ++ s.said) ++ w.text;
          told = put_more;
          closes = subst (λ (l : Lookup). Closes status l ((s.told ++ s.said) ++ w.text) (length (s.events ++ es)) limit (used_up new) (broken new)) (sym state) (closes status other ends);
        }

  -- The same, where the words that are left are told as they stand.

  pub said_at : (text : List ℕ) (all rest : List Job) (left : ℕ) (now : W) (snow snew : K) → all ≡ says text ∷ rest → SoFar all left now snow → gained snow text snew → SoFar rest left now snew
  said_at text all rest left now snow snew e s g = said_more text rest left now snow snew (subst (λ (r : List Job). SoFar r left now snow) e s) g

  pub front_at : (text : List ℕ) (all rest : List Job) (left : ℕ) (now : W) (snow snew : K) → all ≡ says text ∷ rest → SoFar all left now snow
      → (front : List ℕ) × BeginsWith front text × gained snow front snew → Looked_so now snew WriteFault
  front_at text all rest left now snow snew e s g = said_front text rest left now snow snew (subst (λ (r : List Job). SoFar r left now snow) e s) g.0 g.1 g.2

  abbrev Worded_so : Name → ℕ → ℕ → W → W → K → K → ToolStatus → List Event → (ℕ → List ℕ) → ℕ → Type 0
  Worded_so name kind left now new snow snew status es drawn given = Worded history used_up broken gained now new snow snew tool servers name kind drawn given left status es

  worded_as : (name : Name) (kind : ℕ) (left : ℕ) (now new : W) (snow snew : K) (status : ToolStatus) (es : List Event) (drawn : ℕ → List ℕ) (given n : ℕ) → drawn ≡ words → given ≡ n
      → Worded_so name kind left now new snow snew status es drawn given → Worded_so name kind left now new snow snew status es words n
  worded_as name kind left now new snow snew status es drawn given n p q w =
      subst (λ (k : ℕ). Worded_so name kind left now new snow snew status es words k) q
      (subst (λ (f : ℕ → List ℕ). Worded_so name kind left now new snow snew status es f given) p w)

  pub asked_at : (name : Name) (kind : ℕ) (all rest : List Job) (left left' : ℕ) (now new : W) (snow snew : K) (status : ToolStatus) (es : List Event) (drawn : ℕ → List ℕ) (given : ℕ)
      → all ≡ asks name kind ∷ rest → SoFar all left now snow → drawn ≡ words → given + left ≡ limit
      → Worded_so name kind left now new snow snew status es drawn given
      → status ≡ Done → left' + length es ≡ left → SoFar rest left' new snew
  asked_at name kind all rest left left' now new snow snew status es drawn given e s p q w is counts =
      let t = subst (λ (r : List Job). SoFar r left now snow) e s in
      let n : given ≡ length t.events = omega (arith, q, t.count) in
      asked_more name kind rest left now new snow snew t status es (worded_as name kind left now new snow snew status es drawn given (length t.events) p n w) is left' counts

  pub ends_at : (name : Name) (kind : ℕ) (all rest : List Job) (left : ℕ) (now new : W) (snow snew : K) (status : ToolStatus) (es : List Event) (drawn : ℕ → List ℕ) (given : ℕ)
      → all ≡ asks name kind ∷ rest → SoFar all left now snow → drawn ≡ words → given + left ≡ limit
      → Worded_so name kind left now new snow snew status es drawn given → (status ≡ Done → ⊥) → Looked_so new snew status
  ends_at name kind all rest left now new snow snew status es drawn given e s p q w other =
      let t = subst (λ (r : List Job). SoFar r left now snow) e s in
      let n : given ≡ length t.events = omega (arith, q, t.count) in
      asked_ends name kind rest left now new snow snew t status es (worded_as name kind left now new snow snew status es drawn given (length t.events) p n w) other

-- Before its first event a tool has told nothing.

told_none : (servers : List (List ℕ)) (said : List ℕ) (jobs : List Job) → (goes_to servers [] said jobs).told ≡ []
told_none servers said [] = refl
told_none servers said (says text ∷ jobs) = told_none servers (said ++ text) jobs
told_none servers said (asks name kind ∷ jobs) = refl

module _ {W K : Type 0} (history : W → List Exchange → W → Type 0) (used_up : W → Type 0) (broken : W → ℕ → Type 0)
    (gained : K → List ℕ → K → Type 0) (old : W) (sold : K) (tool : Tool) (servers : List (List ℕ)) (words : ℕ → List ℕ) (limit : ℕ) where
  -- There was no memory before it.
  pub nothing_told : (jobs : List Job) → history old [] old → gained sold [] sold
      → Looked history used_up broken gained old old sold sold tool (opened servers jobs) words limit NoMemory
  unfolding opened lookup_after look_passes WentOn
  nothing_told jobs h g = record {
    events = [];
    passed = h;
    bounded = All-nil IsEvent;
    went_on = tt;
    text = [];
    told = g;
    closes = (goes_on_up servers [] [] jobs, inr (sym (told_none servers [] jobs)));
  }

-- The words that are left, from a place on.
pub rest_is : (jobs : List CodeJob) (at : ℕ) (d j : CodeJob) → at < length jobs → d ≡ get_or jobs at d → d ≡ j → map job_of (drop at jobs) ≡ job_of j ∷ map job_of (drop (at + 1) jobs)
rest_is jobs at d j within one is =
    let next : suc at ≡ at + 1 = omega arith in
    ap (λ (l : List CodeJob). map job_of l) (drop-cons jobs at d within)
    ∙ ap (λ (x : CodeJob). job_of x ∷ map job_of (drop (suc at) jobs)) (sym one ∙ is)
    ∙ ap (λ (n : ℕ). job_of j ∷ map job_of (drop n jobs)) next
