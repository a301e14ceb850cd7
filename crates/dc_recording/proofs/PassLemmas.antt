-- What passes at a recorded world while it is served, and in the world within.
use Rattle.std.proofs.Common.{◌≡◌, inl, inr, ℕ, ◌+◌, ◌≤◌, arith, length-append, Bool, true, false, not, List, [], ◌∷◌, ◌++◌, length, flat_map, refl, sym, ap, ◌∙◌, subst, Option, Some, None}
use Rattle.std.proofs.lemmas.List.{append-nil}
use Rattle.std.specs.List.{AllByRecursion}
use Rattle.dc_model.specs.Cache.{Cache}
use Rattle.dc_model.specs.Event.{Event, Action}
use Rattle.dc_machine.specs.Machine.{Machine, wake, step}
use Rattle.dc_machine.specs.Run.{Taken, taken_from, seeded_run, run, opening}
use Rattle.dc_model.specs.Rules.{Rules}
use Rattle.dc_event.specs.Causes.{Fares, count_where}
use Rattle.dc_event.specs.History.{Exchange, listened, asked, gathered, did, gave, ended, failed, bad, done_all, events_in, events-both, events-done}
use Rattle.dc_rules.specs.declared.config.Config.{Config}
use Rattle.dc_core.specs.Running.{Running}
use Rattle.dc_script.specs.Fated.{Fated}
use Rattle.dc_record.specs.Recorded.{Recorder, Passed, Tells, unasked, lines_of, HasOctets, counts_in, counts_both}
use Rattle.dc_serving.specs.Runs.{run_from}
use Rattle.dc_serving.specs.Serving.{machine_from, machine_passes, at_event, last_passes, passes_from, Closes, ServingFrom, Unheard, ServesFrom}
use Rattle.dc_serving.proofs.BegunLemmas.{closed_cases, unheard_cases}
use Rattle.dc_status.specs.Faults.{fault_of, sink_well, world_well}
use Rattle.dc_status.specs.declared.status.Status.{Status}
use Rattle.dc_status.specs.declared.status.Status.TheVariants.{Done, Spent, Usage, BadVariable, NoRoot, BadZone, BadPermit, FilesFault, SeedShort, ReadFault, WriteFault, BadScript, BadImage, Unequal, WorldFault, NoMemory}
use Rattle.dc_recording.specs.Written.{ServedSo, RecordsFrom, passes_until, status_by}

-- An exchange that didn't fail.

abbrev IsWell : Exchange → Type 0
IsWell (listened addr from true) = Unit {0}
IsWell (listened addr from false) = ⊥
IsWell (asked w (gave e)) = Unit {0}
IsWell (asked w ended) = Unit {0}
IsWell (asked w failed) = ⊥
IsWell (asked w (bad k)) = Unit {0}
IsWell (gathered e) = Unit {0}
IsWell (did x) = Unit {0}

-- It was a listening.
abbrev IsListened : Exchange → Type 0
IsListened (listened addr from well) = Unit {0}
IsListened (asked w a) = ⊥
IsListened (gathered e) = ⊥
IsListened (did x) = ⊥

well_counts : (h : List Exchange) (n : ℕ) → AllByRecursion IsWell h → counts_in h n ≡ n
well_counts [] n w = refl
well_counts (listened addr from true ∷ h) n w = well_counts h n w.1
well_counts (listened addr from false ∷ h) n w = absurd w.0
well_counts (asked k (gave e) ∷ h) n w = well_counts h n w.1
well_counts (asked k ended ∷ h) n w = well_counts h n w.1
well_counts (asked k failed ∷ h) n w = absurd w.0
well_counts (asked k (bad m) ∷ h) n w = well_counts h n w.1
well_counts (gathered e ∷ h) n w = well_counts h n w.1
well_counts (did x ∷ h) n w = well_counts h n w.1

well_both : (g h : List Exchange) → AllByRecursion IsWell g → AllByRecursion IsWell h → AllByRecursion IsWell (g ++ h)
well_both [] h p q = q
well_both (x ∷ g) h p q = (p.0, well_both g h p.1 q)

well_done : (xs : List Action) → AllByRecursion IsWell (done_all xs)
well_done [] = tt
well_done (x ∷ xs) = (tt, well_done xs)

well_taken : (ts : List Taken) → AllByRecursion IsWell (flat_map at_event ts)
well_taken [] = tt
well_taken (t ∷ ts) = (tt, well_both (done_all t.stepped.actions) (flat_map at_event ts) (well_done t.stepped.actions) (well_taken ts))

-- The machine's passes are well, and have its events.

-- What passes before the last asking.
abbrev calm : Config → Cache → List ℕ → List Event → List Exchange
calm c first seed es = listened c.ip c.ipsend true ∷ machine_passes c first seed es

well_calm : (c : Config) (first : Cache) (seed : List ℕ) (es : List Event) → AllByRecursion IsWell (calm c first seed es)
unfolding machine_passes
well_calm c first seed es = (tt, (tt, well_taken (run_from c first seed es)))

events_done_then : (xs : List Action) (h : List Exchange) → events_in (done_all xs ++ h) ≡ events_in h
events_done_then xs h = events-both (done_all xs) h ∙ ap (λ l. l ++ events_in h) (events-done xs)

events_taken : (rules : Rules) (draws : ℕ → List ℕ) (n : ℕ) (m : Machine) (es : List Event) → events_in (flat_map at_event (taken_from rules draws n m es)) ≡ es
unfolding taken_from
events_taken rules draws n m [] = refl
events_taken rules draws n m (e ∷ es) =
    let s = step rules m e (draws n) in
    ap (λ l. e ∷ l) (events_done_then s.actions (flat_map at_event (taken_from rules draws (n + 1) s.machine es)) ∙ events_taken rules draws (n + 1) s.machine es)

events_calm : (c : Config) (first : Cache) (seed : List ℕ) (es : List Event) → events_in (calm c first seed es) ≡ es
unfolding machine_passes seeded_run run
events_calm c first seed es = events_taken _ _ 0 (opening first) es

-- How a session's last asking counts, by the status.

last_events : (status : Status) (m : Machine) → events_in (last_passes status m) ≡ []
last_events Done m = refl
last_events (BadScript k) m = refl
last_events WorldFault m = refl
last_events Spent m = refl
last_events Usage m = refl
last_events (BadVariable v) m = refl
last_events NoRoot m = refl
last_events (BadZone f) m = refl
last_events (BadPermit f) m = refl
last_events FilesFault m = refl
last_events SeedShort m = refl
last_events ReadFault m = refl
last_events WriteFault m = refl
last_events BadImage m = refl
last_events Unequal m = refl
last_events NoMemory m = refl

-- The last asking.

last_counts : (status : Status) (m : Machine) (n count limit : ℕ) (used_up : Type 0) (broken : ℕ → Type 0) → Closes status count limit used_up broken
    → counts_in (last_passes status m) n ≡ count_where (world_well (fault_of status)) n
last_counts status m n count limit used_up broken h =
    closed_cases (λ s. counts_in (last_passes s m) n ≡ count_where (world_well (fault_of s)) n) refl refl (λ k. refl) refl status count limit used_up broken h

last_few : (status : Status) (m : Machine) (count limit : ℕ) (used_up : Type 0) (broken : ℕ → Type 0) → Closes status count limit used_up broken → length (last_passes status m) ≤ 1
last_few status m count limit used_up broken h =
    closed_cases (λ s. length (last_passes s m) ≤ 1) (omega arith) (omega arith) (λ k. omega arith) (omega arith) status count limit used_up broken h

-- Where it failed, the world did.

other_end : (w v : Option ℕ) → asked w ended ∷ [] ≡ asked v failed ∷ [] → ⊥
other_end w v e = cc

other_bad : (w v : Option ℕ) (k : ℕ) → asked w (bad k) ∷ [] ≡ asked v failed ∷ [] → ⊥
other_bad w v k e = cc

no_last : (x : Exchange) (h : List Exchange) → [] ≡ x ∷ h → ⊥
no_last x h e = cc

same_wake : (w v : Option ℕ) → asked w failed ∷ [] ≡ asked v failed ∷ [] → v ≡ w
same_wake w v e = cc

last_failed : (status : Status) (m : Machine) (w : Option ℕ) (count limit : ℕ) (used_up : Type 0) (broken : ℕ → Type 0) → Closes status count limit used_up broken
    → last_passes status m ≡ asked w failed ∷ [] → (status ≡ WorldFault) × (w ≡ wake m)
last_failed status m w count limit used_up broken h =
    closed_cases (λ s. last_passes s m ≡ asked w failed ∷ [] → (s ≡ WorldFault) × (w ≡ wake m))
    (λ e. absurd (other_end (wake m) w e)) (λ e. absurd (no_last _ _ e)) (λ k e. absurd (other_bad (wake m) w k e)) (λ e. (refl, same_wake (wake m) w e))
    status count limit used_up broken h

-- An asking that failed behind well exchanges is the last.

first_same : {A : Type 0} (x y : A) (xs ys : List A) → x ∷ xs ≡ y ∷ ys → x ≡ y
first_same x y xs ys e = cc

rest_same : {A : Type 0} (x y : A) (xs ys : List A) → x ∷ xs ≡ y ∷ ys → xs ≡ ys
rest_same x y xs ys e = cc

none_long : {A : Type 0} (xs : List A) → length xs ≤ 0 → xs ≡ []
none_long [] h = refl
none_long (x ∷ xs) h = absurd (omega (arith, h))

split : (xs before after last : List Exchange) (w : Option ℕ) → AllByRecursion IsWell xs → length last ≤ 1 → xs ++ last ≡ before ++ (asked w failed ∷ after)
    → (before ≡ xs) × (last ≡ asked w failed ∷ []) × (after ≡ [])
split [] [] after last w well few e =
    let long : length last ≡ length (asked w failed ∷ after) = ap length e in
    let none : after ≡ [] = none_long after (omega (arith, few, long)) in
    (refl, e ∙ ap (λ (l : List Exchange). asked w failed ∷ l) none, none)
split [] (b ∷ bs) after last w well few e =
    let long : length last ≡ length (b ∷ (bs ++ (asked w failed ∷ after))) = ap length e in
    let sum : length (bs ++ (asked w failed ∷ after)) ≡ length bs + length (asked w failed ∷ after) = length-append bs (asked w failed ∷ after) in
    absurd (omega (arith, few, long, sum))
split (x ∷ xs) [] after last w well few e = absurd (subst IsWell (first_same x (asked w failed) (xs ++ last) after e) well.0)
split (x ∷ xs) (b ∷ bs) after last w well few e =
    let r = split xs bs after last w well.1 few (rest_same x b (xs ++ last) (bs ++ (asked w failed ∷ after)) e) in
    let same : x ≡ b = first_same x b (xs ++ last) (bs ++ (asked w failed ∷ after)) e in
    ((λ i. sym same i ∷ r.0 i), r.1, r.2)

-- No asking failed.

none_failed : (w : Option ℕ) (before after : List Exchange) → [] ≡ before ++ (asked w failed ∷ after) → ⊥
none_failed w [] after e = no_last _ _ e
none_failed w (b ∷ bs) after e = no_last _ _ e

listening_failed : (x : Exchange) → IsListened x → (w : Option ℕ) (before after : List Exchange) → x ∷ [] ≡ before ++ (asked w failed ∷ after) → ⊥
listening_failed x l w [] after e = subst IsListened (first_same x (asked w failed) [] after e) l
listening_failed x l w (b ∷ bs) after e = none_failed w bs after (rest_same x b [] (bs ++ (asked w failed ∷ after)) e)

-- How the sink fared

well_or : {K : Type 0} (gained : K → List ℕ → K → Type 0) (refused : K → K → Type 0) (count : K → ℕ) (well : Bool) (old new : K) → well ≡ true → count new ≡ count old
    → Fares gained refused count well old new
well_or gained refused count true old new e h = h
well_or gained refused count false old new e h = cc

closed_sink : (status : Status) (count limit : ℕ) (used_up : Type 0) (broken : ℕ → Type 0) → Closes status count limit used_up broken → sink_well (fault_of status) ≡ true
closed_sink status count limit used_up broken h =
    closed_cases (λ s. sink_well (fault_of s) ≡ true) refl refl (λ k. refl) refl status count limit used_up broken h

module _ {W K : Type 0} (history : W → List Exchange → W → Type 0) (faults : W → ℕ) (used_up : W → Type 0) (broken : W → ℕ → Type 0)
    (gained : K → List ℕ → K → Type 0) (refused : K → K → Type 0) (count : K → ℕ) where
  -- What is to be shown of a session that ended so.

  abbrev Made : (world world' : W) (sink sink' : K) → Config → Cache → List ℕ → ℕ → Status → Option Running → Type 0
  Made world world' sink sink' c first seed limit status core =
      RecordsFrom history used_up broken gained world world' sink sink' [] c first seed limit status core
      × (Fares gained refused count (sink_well (fault_of status)) sink sink'
      × (faults world' ≡ count_where (world_well (fault_of status)) (faults world)))

  abbrev Becomes : (old new : Recorder W K) → Config → Cache → List ℕ → ℕ → Status → Option Running → Type 0
  Becomes old new c first seed limit status core = Made old.world new.world old.sink new.sink c first seed limit status core

  -- Nothing was served.
  quiet : (f : Bool) (old new : Recorder W K) (c : Config) (first : Cache) (seed : List ℕ) (limit : ℕ) (status : Status) (h inner : List Exchange) (text : List ℕ)
      → ((w : Option ℕ) (before after : List Exchange) → h ≡ before ++ (asked w failed ∷ after) → ⊥) → events_in h ≡ []
      → (history old.world h new.world → Unheard history old.world new.world c status)
      → counts_in h (faults old.world) ≡ count_where (world_well (fault_of status)) (faults old.world) → sink_well (fault_of status) ≡ true
      → Tells false f h inner text → Fated gained refused count false f old.sink new.sink → history old.world inner new.world → gained old.sink text new.sink
      → faults new.world ≡ counts_in inner (faults old.world) → Becomes old new c first seed limit (status_by (not f) status) None
  quiet true old new c first seed limit status h inner text never none unheard counts well t fate passed written k = absurd (never t.wake t.before t.after t.told)
  quiet false old new c first seed limit status h inner text never none unheard counts well t fate passed written k =
      let here = subst (λ l. history old.world l new.world) t.0 passed in
      let empty : text ≡ [] = t.1 ∙ ap lines_of none in (
        (unheard here, subst (λ l. gained old.sink l new.sink) empty written),
        (well_or gained refused count (sink_well (fault_of status)) old.sink new.sink well fate, k ∙ ap (λ l. counts_in l (faults old.world)) t.0 ∙ counts),
      )

  unserved : (old new : Recorder W K) (c : Config) (first : Cache) (seed : List ℕ) (limit : ℕ) (status : Status) → old.failed ≡ false
      → Unheard (Passed history faults gained refused count) old new c status → Becomes old new c first seed limit (status_by (not new.failed) status) None
  unserved old new c first seed limit status e h =
      unheard_cases (Passed history faults gained refused count) old new c (λ s. Becomes old new c first seed limit (status_by (not new.failed) s) None)
      (λ p. quiet new.failed old new c first seed limit NoMemory [] p.inner p.text none_failed refl (λ x. x) refl refl
      (subst (λ f. Tells f new.failed [] p.inner p.text) e p.tells) (subst (λ f. Fated gained refused count f new.failed old.sink new.sink) e p.fated) p.passed p.written p.counts)
      (λ p. quiet new.failed old new c first seed limit WorldFault (listened c.ip c.ipsend false ∷ []) p.inner p.text (listening_failed (listened c.ip c.ipsend false) tt) refl (λ x. x) refl refl
      (subst (λ f. Tells f new.failed (listened c.ip c.ipsend false ∷ []) p.inner p.text) e p.tells) (subst (λ f. Fated gained refused count f new.failed old.sink new.sink) e p.fated) p.passed p.written p.counts)
      status h

  -- Events were served.
  serving : (f : Bool) (old new : Recorder W K) (c : Config) (first : Cache) (seed : List ℕ) (limit : ℕ) (status : Status) (core : Running)
      (s : ServingFrom (Passed history faults gained refused count) (λ r. used_up r.world) (λ r k. broken r.world k) old new c first seed limit status core)
      → Tells false f (passes_from c first seed s.events status) s.passed.inner s.passed.text → Fated gained refused count false f old.sink new.sink
      → Becomes old new c first seed limit (status_by (not f) status) (Some core)
  serving false old new c first seed limit status core s t fate =
      let es = s.events in
      let m = machine_from c first seed es in
      let n = faults old.world in
      let own : events_in (passes_from c first seed es status) ≡ es =
      events-both (calm c first seed es) (last_passes status m) ∙ (λ i. events_calm c first seed es i ++ last_events status m i) ∙ append-nil es in
      let counts : counts_in (passes_from c first seed es status) n ≡ count_where (world_well (fault_of status)) n =
      counts_both (calm c first seed es) (last_passes status m) n ∙ ap (counts_in (last_passes status m)) (well_counts (calm c first seed es) n (well_calm c first seed es))
      ∙ last_counts status m n (length es) limit _ _ s.closes in (
        inl (record {
          serving = record {
            events = es;
            bounded = s.bounded;
            passed = subst (λ l. history old.world l new.world) t.0 s.passed.passed;
            core_is = s.core_is;
            trust = s.trust;
            closes = s.closes;
          };
          written = subst (λ l. gained old.sink l new.sink) (t.1 ∙ ap lines_of own) s.passed.written;
          octets = subst (λ l. AllByRecursion HasOctets l) own s.passed.octets;
        }),
        (
          well_or gained refused count (sink_well (fault_of status)) old.sink new.sink (closed_sink status (length es) limit _ _ s.closes) fate,
          s.passed.counts ∙ ap (λ l. counts_in l n) t.0 ∙ counts,
        ),
      )
  serving true old new c first seed limit status core s t fate =
      let es = s.events in
      let m = machine_from c first seed es in
      let n = faults old.world in
      let own : events_in (passes_from c first seed es status) ≡ es =
      events-both (calm c first seed es) (last_passes status m) ∙ (λ i. events_calm c first seed es i ++ last_events status m i) ∙ append-nil es in
      let parts = split (calm c first seed es) t.before t.after (last_passes status m) t.wake (well_calm c first seed es) (last_few status m (length es) limit _ _ s.closes) t.told in
      let end = last_failed status m t.wake (length es) limit _ _ s.closes parts.1 in
      let inside : s.passed.inner ≡ passes_until c first seed es t.event =
      t.inner_is ∙ (λ i. parts.0 i ++ (asked (end.1 i) (gave t.event) ∷ unasked (parts.2 i))) in
      let counts : counts_in (passes_until c first seed es t.event) n ≡ n =
      well_counts (passes_until c first seed es t.event) n (well_both (calm c first seed es) (asked (wake m) (gave t.event) ∷ []) (well_calm c first seed es) (tt, tt)) in
      let few = subst (λ a. Closes a (length es) limit (used_up new.world) (broken new.world)) end.0 s.closes in (
        inr (
          refl,
          record {
            events = es;
            lost = t.event;
            front = t.front;
            bounded = s.bounded;
            octets = subst (λ l. AllByRecursion HasOctets l) own s.passed.octets;
            passed = subst (λ l. history old.world l new.world) inside s.passed.passed;
            core_is = s.core_is;
            trust = s.trust;
            few = few;
            begins = t.begins;
            written = subst (λ l. gained old.sink l new.sink) (t.text_is ∙ ap (λ l. lines_of l ++ t.front) (ap events_in parts.0 ∙ events_calm c first seed es)) s.passed.written;
          },
        ),
        (fate, s.passed.counts ∙ ap (λ l. counts_in l n) inside ∙ counts),
      )

  becomes : (old new : Recorder W K) (c : Config) (first : Cache) (seed : List ℕ) (limit : ℕ) (status : Status) (core : Option Running) → old.failed ≡ false
      → ServesFrom (Passed history faults gained refused count) (λ r. used_up r.world) (λ r k. broken r.world k) old new c first seed limit status core
      → Becomes old new c first seed limit (status_by (not new.failed) status) core
  becomes old new c first seed limit status None e h = unserved old new c first seed limit status e h
  becomes old new c first seed limit status (Some core) e h =
      serving new.failed old new c first seed limit status core h
      (subst (λ f. Tells f new.failed (passes_from c first seed h.events status) h.passed.inner h.passed.text) e h.passed.tells)
      (subst (λ f. Fated gained refused count f new.failed old.sink new.sink) e h.passed.fated)

  -- The same of a recorded world that was new, and of its parts.
  pub written : (old new : Recorder W K) (world world' : W) (sink sink' : K) (c : Config) (first : Cache) (seed : List ℕ) (limit : ℕ) (status after : Status) (core : Option Running) (well : Bool)
      → old ≡ record { world = world; sink = sink; failed = false; faults = 0 }
      → ServesFrom (Passed history faults gained refused count) (λ r. used_up r.world) (λ r k. broken r.world k) old new c first seed limit status core
      → well ≡ not new.failed → after ≡ status_by well status → world' ≡ new.world → sink' ≡ new.sink → Made world world' sink sink' c first seed limit after core
  written old new world world' sink sink' c first seed limit status after core well opened h wrote end w k =
      subst (λ s. Made world world' sink s c first seed limit after core) (sym k)
      (subst (λ v. Made world v sink new.sink c first seed limit after core) (sym w)
      (subst (λ a. Made world new.world sink new.sink c first seed limit a core) (sym (end ∙ ap (λ b. status_by b status) wrote))
      (subst (λ (r : Recorder W K). Made r.world new.world r.sink new.sink c first seed limit (status_by (not new.failed) status) core) opened
      (becomes old new c first seed limit status core (ap (λ (r : Recorder W K). r.failed) opened) h))))

  -- Something passed in the world, and some text was put.

  pub some_history : (world world' : W) (sink sink' : K) (c : Config) (first : Cache) (seed : List ℕ) (limit : ℕ) (status : Status) (core : Option Running)
      → Made world world' sink sink' c first seed limit status core → (h : List Exchange) × history world h world'
  some_history world world' sink sink' c first seed limit status None m =
      unheard_cases history world world' c (λ s. (h : List Exchange) × history world h world') (λ k. ([], k)) (λ k. (listened c.ip c.ipsend false ∷ [], k)) status m.0.0
  some_history world world' sink sink' c first seed limit status (Some core) m = served_history m.0
    where
      served_history : ServedSo history used_up broken gained world world' sink sink' [] c first seed limit status core → (h : List Exchange) × history world h world'
      served_history (inl h) = (passes_from c first seed h.serving.events status, h.serving.passed)
      served_history (inr h) = (passes_until c first seed h.1.events h.1.lost, h.1.passed)

  pub some_text : (world world' : W) (sink sink' : K) (c : Config) (first : Cache) (seed : List ℕ) (limit : ℕ) (status : Status) (core : Option Running)
      → Made world world' sink sink' c first seed limit status core → (text : List ℕ) × gained sink text sink'
  some_text world world' sink sink' c first seed limit status None m = ([], m.0.1)
  some_text world world' sink sink' c first seed limit status (Some core) m = served_text m.0
    where
      served_text : ServedSo history used_up broken gained world world' sink sink' [] c first seed limit status core → (text : List ℕ) × gained sink text sink'
      served_text (inl h) = (lines_of h.serving.events, h.written)
      served_text (inr h) = (lines_of h.1.events ++ h.1.front, h.1.written)
