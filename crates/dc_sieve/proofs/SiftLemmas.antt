-- Filtering, step by step.
use Rattle.std.proofs.Common.{◌≡◌, ℕ, suc, ◌+◌, ◌-◌, ◌<◌, ◌≤◌, ◌^◌, ◌⊎◌, inl, inr, min, Bool, true, false, true≢false, List, [], ◌∷◌, ◌++◌, length, take, refl, ap, sym, ◌∙◌, subst, arith, append_assoc, length-append, Option, None, Some, All}
use Rattle.std.specs.Prelude.{not}
use Rattle.std.specs.List.{AllByRecursion}
use Rattle.std.proofs.lemmas.List.{append-nil}
use Rattle.std.proofs.lemmas.List.Elements.{All-nil, All-append}
use Rattle.std.specs.Io.KnownBytes.{IsAtEnd}
use Rattle.dc_model.specs.Rules.{lines_of}
use Rattle.dc_model.specs.Event.{Event, IsEvent}
use Rattle.dc_engine.specs.Automaton.{state_after, GoesOn}
use Rattle.dc_event.specs.History.{Exchange}
use Rattle.dc_event.specs.Told.{BeginsWith}
use Rattle.dc_serve.specs.Serve.{passes, each_passes, Ran}
use Rattle.dc_serve.specs.declared.Served.{Served}
use Rattle.dc_serve.specs.declared.Served.TheVariants as served
use Rattle.dc_lookup.specs.Filter.{Progressed, fresh, asked, done, is_waiting_at, Slot, Filter, settled, filter_opened, filter_after, filter_wake, FilterWentOn, is_at_end, is_empty, waits_for_front}
use Rattle.dc_lookup.specs.Laws.{IsWaiting, FrontWaits, IsSettled}
use Rattle.dc_lookup.proofs.FilterLemmas.{settled_stays}
use Rattle.dc_script.specs.Head.{MayFollow}
use Rattle.dc_filter.specs.Sifter.{Sifter, filter_with, sifter_machine}
use Rattle.dc_filter.specs.Serving.{filter_passes, IsServed}
use Rattle.dc_filter.proofs.Serving.{served as is_served}
use Rattle.dc_sieve.specs.Input.{Held, MayCome, IsShort, IsTooLong}
use Rattle.dc_sieve.specs.Going.{filter_at, Goes, IsWithin, IsQuiet, IsLater, ReadsLong}
use Rattle.dc_stub.specs.Word.{further}
use Rattle.dc_stub.specs.declared.status.ToolStatus.{ToolStatus}
use Rattle.dc_stub.specs.declared.status.ToolStatus.TheVariants.{Done}
use Rattle.dc_sieve.specs.Sifted.{fresh_sifter, fresh_input, start_of, lines_read, AreReadable, IsLong, Closes, Filters, Sifted}
use Rattle.dc_sieve.proofs.GoingLemmas.{may_by}
use Rattle.dc_sieve.proofs.RunLemmas.{after_from, passes_from, went_from}

-- The filter over all these bytes came to this state, and this passed.
pub record RunTo {W : Type 0} (history : W → List Exchange → W → Type 0) (old now : W) (words : ℕ → List ℕ) (room : ℕ) (servers : List (List ℕ)) (events : List Event) (all : List ℕ) (f : Filter) (last : List Exchange) : Type 0 where
  pub state : filter_after words 0 (start_of room servers all) events ≡ f
  pub passed : history old (filter_passes words 0 (start_of room servers all) events ++ last) now
  pub went_on : FilterWentOn words 0 (start_of room servers all) events

pub all_behind : {A : Type 0} (P : A → Type 0) (xs ys : List A) → AllByRecursion P xs → AllByRecursion P ys → AllByRecursion P (xs ++ ys)
all_behind P [] ys h k = k
all_behind P (x ∷ xs) ys h k = (h.0, all_behind P xs ys h.1 k)

-- So many events are left.
pub fits : (given h t n s limit turns : ℕ) → given ≡ s → h ≡ t → t ≡ n → s ≡ n → s ≤ limit → limit ≡ min turns (2 ^ 60) → given + min (limit - h) (2 ^ 60) ≤ 2 ^ 60
fits given h t n s limit turns a b c d l m = omega (arith, a, b, c, d, l, m)

pub fits_left : (h t n s limit : ℕ) → h ≡ t → t ≡ n → s ≡ n → s ≤ limit → h ≤ limit
fits_left h t n s limit b c d l = omega (arith, b, c, d, l)

module _ {S K W : Type 0} (took : S → List ℕ → S → Type 0) (left : S → Option (List ℕ)) (gained : K → List ℕ → K → Type 0) (history : W → List Exchange → W → Type 0)
    (took_both : (a b c : S) (xs ys : List ℕ) → took a xs b → took b ys c → took a (xs ++ ys) c)
    (gained_both : (a b c : K) (xs ys : List ℕ) → gained a xs b → gained b ys c → gained a (xs ++ ys) c)
    (history_both : (a b c : W) (xs ys : List Exchange) → history a xs b → history b ys c → history a (xs ++ ys) c)
    (source : S) (sink : K) (old : W) (words : ℕ → List ℕ) (room : ℕ) (servers : List (List ℕ)) where
  pub record SoSifted (s : Sifter) (h : Held) (now : S) (out : K) (world : W) : Type 0 where
    pub bytes : List ℕ
    pub text : List ℕ
    pub events : List Event
    pub past : List (List ℕ)
    pub taken : took source bytes now
    pub told : gained sink text out
    pub bounded : All IsEvent events
    pub read : (tail : List ℕ) → MayCome h.ended tail → lines_of (bytes ++ tail) ≡ past ++ lines_of (h.rest ++ tail)
    pub short : AllByRecursion IsShort past
    pub count : h.count ≡ length past
    pub run : (tail : List ℕ) → MayCome h.ended tail → RunTo history old world words room servers events (bytes ++ tail) (settled (filter_at s text h.rest tail)) []
    pub handled : s.handled ≡ length events
    pub same : s.room ≡ room
    pub within : IsWithin s
    pub few : h.count ≤ 2 ^ 60
    pub end : h.ended ≡ true → (h.rest ≡ []) × IsAtEnd (left now)

  -- Nothing was read or heard.
  pub sifting_begins : (s : Sifter) (h : Held) → s ≡ fresh_sifter room servers → h ≡ fresh_input → took source [] source → gained sink [] sink → history old [] old → SoSifted s h source sink old
  unfolding filter_after filter_passes FilterWentOn filter_opened
  sifting_begins s h is first none nothing quiet =
      subst (λ (x : Sifter). SoSifted x h source sink old) (sym is) (subst (λ (x : Held). SoSifted (fresh_sifter room servers) x source sink old) (sym first) (record {
        bytes = [];
        text = [];
        events = [];
        past = [];
        taken = none;
        told = nothing;
        bounded = All-nil IsEvent;
        read = λ tail c. refl;
        short = tt;
        count = refl;
        run = λ tail c. record { state = refl; passed = quiet; went_on = tt };
        handled = refl;
        same = refl;
        within = omega arith;
        few = omega arith;
        end = λ e. absurd (true≢false (sym e));
      }))

  -- Lines were read and written.
  abbrev pub settle_step : (s : Sifter) (h : Held) (now next : S) (out put : K) (world : W) (more text : List ℕ) (t : Sifter) (j : Held) (past : List (List ℕ)) → SoSifted s h now out world → took now more next → gained out text put
      → IsLater h more j → Goes s h (h.rest ++ more) t j text past → IsWithin t → j.count ≤ 2 ^ 60 → (j.ended ≡ true → (j.rest ≡ []) × IsAtEnd (left next)) → SoSifted t j next put world
  settle_step s h now next out put world more text t j past f taken told later g within few end = record {
    bytes = f.bytes ++ more;
    text = f.text ++ text;
    events = f.events;
    past = f.past ++ past;
    taken = took_both source now next f.bytes more f.taken taken;
    told = gained_both sink out put f.text text f.told told;
    bounded = f.bounded;
    read = λ tail c.
        ap (λ (x : List ℕ). lines_of x) (append_assoc f.bytes more tail)
        ∙ f.read (more ++ tail) (may_by h.ended j.ended more tail later c)
        ∙ ap (λ (x : List ℕ). f.past ++ lines_of x) (sym (append_assoc h.rest more tail))
        ∙ ap (λ (x : List (List ℕ)). f.past ++ x) (g.read tail c)
        ∙ sym (append_assoc f.past past (lines_of (j.rest ++ tail)));
    short = all_behind IsShort f.past past f.short g.short;
    count = omega (arith, f.count, g.count, length-append f.past past);
    run = λ tail c.
        let r = f.run (more ++ tail) (may_by h.ended j.ended more tail later c) in
        let to : settled (filter_at s f.text h.rest (more ++ tail)) ≡ settled (filter_at t (f.text ++ text) j.rest tail) =
        ap (λ (x : List ℕ). settled (filter_with s f.text (lines_of x))) (sym (append_assoc h.rest more tail)) ∙ g.settles f.text tail c in
        subst (λ (x : List ℕ). RunTo history old world words room servers f.events x (settled (filter_at t (f.text ++ text) j.rest tail)) []) (sym (append_assoc f.bytes more tail))
        (subst (λ (x : Filter). RunTo history old world words room servers f.events (f.bytes ++ (more ++ tail)) x []) to r);
    handled = ap (λ (x : Sifter). x.handled) g.same ∙ f.handled;
    same = ap (λ (x : Sifter). x.room) g.same ∙ f.same;
    within = within;
    few = few;
    end = end;
  }

  -- A settled filter heard events.
  pub run_on : (s : Sifter) (world next : W) (f : Filter) (text all : List ℕ) (events es : List Event) (t : Sifter) (u : List (List ℕ)) (last : List Exchange) → f ≡ settled (filter_with s text u) → IsSettled (filter_with s text u)
      → t ≡ state_after sifter_machine words (length events) s es → GoesOn sifter_machine words (length events) s es → RunTo history old world words room servers events all f []
      → history world (each_passes sifter_machine words (length events) s es ++ last) next → RunTo history old next words room servers (events ++ es) all (settled (filter_with t text u)) last
  run_on s world next f text all events es t u last is quiet state on r passed =
      let k = is_served words (length events) s text u es quiet on in
      let start = start_of room servers all in
      let here : filter_after words 0 start events ≡ filter_with s text u = r.state ∙ is ∙ settled_stays (filter_with s text u) quiet in
      let before : history old (filter_passes words 0 start events) world = subst (λ (x : List Exchange). history old x world) (append-nil (filter_passes words 0 start events)) r.passed in
      let whole : filter_passes words 0 start (events ++ es) ≡ filter_passes words 0 start events ++ each_passes sifter_machine words (length events) s es =
      passes_from words start events es ∙ ap (λ (x : Filter). filter_passes words 0 start events ++ filter_passes words (length events) x es) here
      ∙ ap (λ (x : List Exchange). filter_passes words 0 start events ++ x) (sym k.passed) in
      record {
        state =
            after_from words start events es
            ∙ ap (λ (x : Filter). filter_after words (length events) x es) here ∙ k.state
            ∙ sym (ap (λ (x : Sifter). settled (filter_with x text u)) state);
        passed = subst (λ (x : List Exchange). history old x next)
            (sym (ap (λ (x : List Exchange). x ++ last) whole ∙ append_assoc (filter_passes words 0 start events) (each_passes sifter_machine words (length events) s es) last))
            (history_both old world next (filter_passes words 0 start events) (each_passes sifter_machine words (length events) s es ++ last) before passed);
        went_on = went_from words start events es r.went_on (subst (λ (x : Filter). FilterWentOn words (length events) x es) (sym here) k.went_on);
      }

  pub may_nil : (b : Bool) → MayCome b []
  may_nil true = refl
  may_nil false = tt

  pub handled_after : (n : ℕ) (s : Sifter) (es : List Event) → (state_after sifter_machine words n s es).handled ≡ s.handled + length es
  handled_after n s [] = omega arith
  handled_after n s (e ∷ es) = let h = handled_after (n + 1) (sifter_machine.next s e (words n)) es in omega (arith, h)

  -- Events were heard.
  abbrev pub serve_step : (s : Sifter) (h : Held) (now : S) (out : K) (world next : W) (es : List Event) (t : Sifter) → (f : SoSifted s h now out world) → IsQuiet s h → All IsEvent es
      → t ≡ state_after sifter_machine words (length f.events) s es → GoesOn sifter_machine words (length f.events) s es
      → history world (each_passes sifter_machine words (length f.events) s es) next → SoSifted t h now out next
  serve_step s h now out world next es t f quiet bounded state on passed =
      let k = is_served words (length f.events) s f.text (lines_of (h.rest ++ [])) es (quiet f.text [] (may_nil h.ended)) on in
      let all = length-append f.events es in
      let handled = handled_after (length f.events) s es in
      let rooms : t.room ≡ s.room = ap (λ (x : Sifter). x.room) state ∙ k.room in
      let many : length t.queue ≡ length s.queue = ap (λ (x : Sifter). length x.queue) state ∙ k.many in
      let counts : t.handled ≡ s.handled + length es = ap (λ (x : Sifter). x.handled) state ∙ handled in
      record {
        bytes = f.bytes;
        text = f.text;
        events = f.events ++ es;
        past = f.past;
        taken = f.taken;
        told = f.told;
        bounded = All-append IsEvent f.events es f.bounded bounded;
        read = f.read;
        short = f.short;
        count = f.count;
        run = λ tail c. run_on s world next _ f.text (f.bytes ++ tail) f.events es t (lines_of (h.rest ++ tail)) [] refl (quiet f.text tail c) state on (f.run tail c)
            (subst (λ (x : List Exchange). history world x next) (sym (append-nil (each_passes sifter_machine words (length f.events) s es))) passed);
        handled = omega (arith, counts, f.handled, all);
        same = rooms ∙ f.same;
        within = omega (arith, many, rooms, f.within);
        few = f.few;
        end = f.end;
      }

  -- Ends

  take_front : {A : Type 0} (xs ys : List A) (n : ℕ) → n ≡ length xs → take n (xs ++ ys) ≡ xs
  take_front [] ys n h = ap (λ m. take m ys) h
  take_front (x ∷ xs) ys n h = ap (λ m. take m (x ∷ (xs ++ ys))) h ∙ ap (λ l. x ∷ l) (take_front xs ys (length xs) refl)

  read_is : (lines past u : List (List ℕ)) (f : Filter) → lines ≡ past ++ u → f.unread ≡ u → lines_read lines f ≡ past
  read_is lines past u f is none =
      let all = length-append past u in
      let many : length lines - length f.unread ≡ length past = omega (arith, all, ap (λ (x : List (List ℕ)). length x) is, ap (λ (x : List (List ℕ)). length x) none) in
      ap (λ (x : List (List ℕ)). take (length lines - length f.unread) x) is ∙ take_front past u (length lines - length f.unread) many

  readable : (lines past u : List (List ℕ)) (f : Filter) → lines ≡ past ++ u → f.unread ≡ u → AllByRecursion IsShort past → length past ≤ 2 ^ 60 → AreReadable lines f
  readable lines past u f is none short few =
      let so = read_is lines past u f is none in
      record { short = subst (λ x. AllByRecursion IsShort x) (sym so) short; few = subst (λ (x : List (List ℕ)). length x ≤ 2 ^ 60) (sym so) few }

  none_some : (x : List ℕ) → None ≡ Some x → ⊥
  none_some x h = cc

  may_follow : (b : Bool) (rest : Option (List ℕ)) (tail : List ℕ) → (b ≡ true → IsAtEnd rest) → MayFollow rest tail → MayCome b tail
  may_follow true rest tail end (inr e) = e
  may_follow true None tail end (inl e) = absurd (none_some tail e)
  may_follow true (Some xs) tail end (inl e) = let empty : xs ≡ [] = end refl in cc (empty, e)
  may_follow false rest tail end h = tt

  empty_by : (at : Progressed) → IsWaiting at → is_waiting_at at ≡ false → ⊥
  empty_by (fresh n) h e = true≢false e
  empty_by (asked a) h e = true≢false e
  empty_by (done text) h e = h

  empty_queue : (q : List Slot) → FrontWaits q → waits_for_front q ≡ false → q ≡ []
  empty_queue [] h e = refl
  empty_queue (s ∷ ss) h e = absurd (empty_by s.at h e)

  end_by : (h : Held) (n m : ℕ) (P : Type 0) → (h.ended ≡ true → P) → (h.ended ≡ true) ⊎ (n ≤ m) → 1 ≤ n → m ≡ 0 → P
  end_by h n m P end (inl e) least none = end e
  end_by h n m P end (inr full) least none = let bad : 1 ≤ 0 = omega (arith, full, least, none) in absurd (omega (arith, bad))

  -- All was written.
  pub sifted_done : (used_up : W → Type 0) (broken : W → ℕ → Type 0) (limit : ℕ) (s : Sifter) (h : Held) (now : S) (out : K) (world : W) → SoSifted s h now out world → IsQuiet s h → waits_for_front s.queue ≡ false
      → (h.ended ≡ true) ⊎ (s.room ≤ length s.queue) → 1 ≤ room → Sifted took left gained history used_up broken source now sink out old world room servers words limit Done
  sifted_done used_up broken limit s h now out world f quiet over ends least =
      let empty : s.queue ≡ [] = empty_queue s.queue (quiet f.text [] (may_nil h.ended)).front over in
      let at_end : IsAtEnd (left now) = end_by h s.room (length s.queue) (IsAtEnd (left now)) (λ e. (f.end e).1) ends (omega (arith, least, f.same)) (ap (λ (q : List Slot). length q) empty) in
      record {
        bytes = f.bytes;
        text = f.text;
        events = f.events;
        bounded = f.bounded;
        taken = f.taken;
        told = f.told;
        keeps = λ tail m.
            let c : MayCome h.ended tail = may_follow h.ended (left now) tail (λ e. (f.end e).1) m in
            let r = f.run tail c in
            let g : Filter = filter_at s f.text h.rest tail in
            let here : filter_after words 0 (start_of room servers (f.bytes ++ tail)) f.events ≡ g = r.state ∙ settled_stays g (quiet f.text tail c) in
            record {
              passed = r.passed;
              went_on = r.went_on;
              closes = (
                ap (λ (x : Filter). is_at_end x) here ∙ ap (λ (q : List Slot). is_empty q) empty,
                sym (ap (λ (x : Filter). x.written) here),
                readable (lines_of (f.bytes ++ tail)) f.past (lines_of (h.rest ++ tail)) _ (f.read tail c) (ap (λ (x : Filter). x.unread) here) f.short (omega (arith, f.few, f.count)),
                at_end,
              );
            };
      }

  not_empty : (q : List Slot) → waits_for_front q ≡ true → is_empty q ≡ false
  not_empty [] h = absurd (true≢false (sym h))
  not_empty (s ∷ ss) h = refl

  same_wake : (t : Sifter) (text : List ℕ) (u : List (List ℕ)) → filter_wake (filter_with t text u) ≡ sifter_machine.wake t
  unfolding filter_wake
  same_wake t text u = refl

  -- The world or the limit ended it.
  pub sifted_on : (used_up : W → Type 0) (broken : W → ℕ → Type 0) (limit : ℕ) (status : ToolStatus) (s : Sifter) (h : Held) (now : S) (out : K) (world next : W) (es : List Event) (t : Sifter) (f : SoSifted s h now out world)
      → IsQuiet s h → All IsEvent es → t ≡ state_after sifter_machine words (length f.events) s es → GoesOn sifter_machine words (length f.events) s es → waits_for_front t.queue ≡ true
      → history world (each_passes sifter_machine words (length f.events) s es ++ further status (sifter_machine.wake t)) next
      → ((lines : List (List ℕ)) (x : Filter) → is_at_end x ≡ false → f.text ≡ x.written → AreReadable lines x → Closes status lines x f.text (length (f.events ++ es)) limit (used_up next) (broken next) (IsAtEnd (left now)))
      → Sifted took left gained history used_up broken source now sink out old next room servers words limit status
  sifted_on used_up broken limit status s h now out world next es t f quiet bounded state on waits passed closes = record {
    bytes = f.bytes;
    text = f.text;
    events = f.events ++ es;
    bounded = All-append IsEvent f.events es f.bounded bounded;
    taken = f.taken;
    told = f.told;
    keeps = λ tail m.
        let c : MayCome h.ended tail = may_follow h.ended (left now) tail (λ e. (f.end e).1) m in
        let u : List (List ℕ) = lines_of (h.rest ++ tail) in
        let k = is_served words (length f.events) s f.text u es (quiet f.text tail c) on in
        let r = run_on s world next _ f.text (f.bytes ++ tail) f.events es t u (further status (sifter_machine.wake t)) refl (quiet f.text tail c) state on (f.run tail c) passed in
        let g : Filter = filter_with t f.text u in
        let start = start_of room servers (f.bytes ++ tail) in
        let so : IsSettled g = subst (λ (x : Sifter). IsSettled (filter_with x f.text u)) (sym state) (k.stays (subst (λ (x : Sifter). waits_for_front x.queue ≡ true) state waits)) in
        let here : filter_after words 0 start (f.events ++ es) ≡ g = r.state ∙ settled_stays g so in
        record {
          passed = subst (λ (x : Option ℕ). history old (filter_passes words 0 start (f.events ++ es) ++ further status x) next) (sym (ap (λ (x : Filter). filter_wake x) here ∙ same_wake t f.text u)) r.passed;
          went_on = r.went_on;
          closes = closes (lines_of (f.bytes ++ tail)) _
              (ap (λ (x : Filter). is_at_end x) here ∙ not_empty t.queue waits)
              (sym (ap (λ (x : Filter). x.written) here))
              (readable (lines_of (f.bytes ++ tail)) f.past u _ (f.read tail c) (ap (λ (x : Filter). x.unread) here) f.short (omega (arith, f.few, f.count)));
        };
  }

  -- Reading or writing lines ended it.
  pub sifted_part : (used_up : W → Type 0) (broken : W → ℕ → Type 0) (limit : ℕ) (status : ToolStatus) (s : Sifter) (h : Held) (now next : S) (out put : K) (world : W) (more text : List ℕ) (j : Held) (f : SoSifted s h now out world)
      → took now more next → gained out text put → IsLater h more j → (j.ended ≡ true → IsAtEnd (left next)) → further status ≡ (λ (x : Option ℕ). [])
      → ((tail : List ℕ) → MayCome j.ended tail → (x : Filter) → x ≡ settled (filter_at s f.text (h.rest ++ more) tail) → lines_of ((f.bytes ++ more) ++ tail) ≡ f.past ++ lines_of ((h.rest ++ more) ++ tail)
      → Closes status (lines_of ((f.bytes ++ more) ++ tail)) x (f.text ++ text) (length f.events) limit (used_up world) (broken world) (IsAtEnd (left next)))
      → Sifted took left gained history used_up broken source next sink put old world room servers words limit status
  sifted_part used_up broken limit status s h now next out put world more text j f taken told later end silent closes = record {
    bytes = f.bytes ++ more;
    text = f.text ++ text;
    events = f.events;
    bounded = f.bounded;
    taken = took_both source now next f.bytes more f.taken taken;
    told = gained_both sink out put f.text text f.told told;
    keeps = λ tail m.
        let c : MayCome j.ended tail = may_follow j.ended (left next) tail end m in
        let d : MayCome h.ended (more ++ tail) = may_by h.ended j.ended more tail later c in
        let all : f.bytes ++ (more ++ tail) ≡ (f.bytes ++ more) ++ tail = sym (append_assoc f.bytes more tail) in
        let r = subst (λ (x : List ℕ). RunTo history old world words room servers f.events x (settled (filter_at s f.text h.rest (more ++ tail))) []) all (f.run (more ++ tail) d) in
        let start = start_of room servers ((f.bytes ++ more) ++ tail) in
        record {
          passed = subst (λ (x : Option ℕ → List Exchange). history old (filter_passes words 0 start f.events ++ x (filter_wake (filter_after words 0 start f.events))) world) (sym silent) r.passed;
          went_on = r.went_on;
          closes = closes tail c (filter_after words 0 start f.events)
              (r.state ∙ ap (λ (x : List ℕ). settled (filter_with s f.text (lines_of x))) (sym (append_assoc h.rest more tail)))
              (ap (λ (x : List ℕ). lines_of x) (sym all) ∙ f.read (more ++ tail) d ∙ ap (λ (x : List ℕ). f.past ++ lines_of x) (sym (append_assoc h.rest more tail)));
        };
  }

  -- A line is too long.
  pub long_is : (s : Sifter) (h : Held) (text bytes : List ℕ) (past : List (List ℕ)) (k : ℕ) (tail : List ℕ) (lines : List (List ℕ)) (x : Filter) → h.count ≡ length past → AllByRecursion IsShort past
      → x ≡ settled (filter_at s text bytes tail) → lines ≡ past ++ lines_of (bytes ++ tail) → ReadsLong s h.count bytes k tail → IsLong lines x k
  long_is s h text bytes past k tail lines x count short is all r =
      let both = length-append past r.past in
      let number : h.count + length r.past ≡ length (past ++ r.past) = omega (arith, count, both) in
      record {
        past = past ++ r.past;
        line = r.line;
        behind = r.behind;
        parts = all ∙ ap (λ (y : List (List ℕ)). past ++ y) r.lines ∙ sym (append_assoc past r.past (r.line ∷ r.behind));
        short = all_behind IsShort past r.past short r.short;
        few = subst (λ n. n ≤ 2 ^ 60) number r.few;
        number = r.number ∙ ap (λ n. n + 1) number;
        long = subst (λ n. IsTooLong n r.line) number r.long;
        reached = subst (λ (f : Filter). length f.unread ≤ length r.behind) (sym is) (r.reached text);
      }

  pub not_by : (r b : Bool) → r ≡ not b → r ≡ true → b ≡ false
  not_by r true h e = absurd (true≢false (sym e ∙ h))
  not_by r false h e = refl

  pub waits_by : (b r : Bool) → r ≡ not b → r ≡ false → b ≡ true
  waits_by true r h e = refl
  waits_by false r h e = absurd (true≢false (sym h ∙ e))

  -- What passed while the engine was served, with the words of this seed and by the number of its first event.
  pub served_as : (w : ℕ → List ℕ) (m n : ℕ) (s t : Sifter) (limit : ℕ) (es : List Event) (answer : Served) (world next : W) → w ≡ words → m ≡ n
      → history world (passes sifter_machine w m s es answer) next → Ran sifter_machine w m s t limit es answer
      → history world (passes sifter_machine words n s es answer) next × Ran sifter_machine words n s t limit es answer
  served_as w m n s t limit es answer world next hw hm p r =
      subst (λ (k : ℕ). history world (passes sifter_machine words k s es answer) next × Ran sifter_machine words k s t limit es answer) hm
      (subst (λ (v : ℕ → List ℕ). history world (passes sifter_machine v m s es answer) next × Ran sifter_machine v m s t limit es answer) hw (p, r))

  -- An engine that wasn't finished, and is now, handled an event.
  pub some_events : (n : ℕ) (s t : Sifter) (es : List Event) → t ≡ state_after sifter_machine words n s es → not (waits_for_front t.queue) ≡ true → not (waits_for_front s.queue) ≡ false → 1 ≤ length es
  some_events n s t [] is over none = absurd (true≢false (sym over ∙ ap (λ (x : Sifter). not (waits_for_front x.queue)) is ∙ none))
  some_events n s t (e ∷ es) is over none = omega arith
