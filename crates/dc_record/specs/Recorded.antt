-- A world whose events are recorded.
use Rattle.std.specs.Prelude.{◌≡◌, ◌<◌, ℕ, Bool, true, false, List, [], ◌∷◌, ◌++◌, flat_map, slice_index, Option, refl}
use Rattle.std.specs.List.{AllByRecursion}
use Rattle.std.proofs.Common.{◌∙◌, sym, ap, subst, append_assoc}
use Rattle.std.proofs.lemmas.List.{append-nil}
use Rattle.std.proofs.lemmas.Grind.{flat_map-append}
use Rattle.dc_model.specs.Event.{Event, Action}
use Rattle.dc_event.specs.Told.{BeginsWith, GainedFront}
use Rattle.dc_event.specs.Causes.{FailedLast, counted}
use Rattle.dc_event.specs.History.{Exchange, listened, asked, gathered, did, gave, ended, failed, bad, events_in, done_all, events-both, events-done}
use Rattle.dc_event.specs.declared.answers.Heard.{Heard}
use Rattle.dc_event.specs.declared.answers.Heard.TheVariants as heard
use Rattle.dc_script.specs.Recording.{event_line}
use Rattle.dc_script.specs.Fated.{Fated, Fated-none, Fated-both}

-- The world that is recorded, the sink, whether a write has failed, and how often the recorded world has.
pub record Recorder (W K : Type 0) : Type 0 where
  pub world : W
  pub sink : K
  pub failed : Bool
  pub faults : ℕ

-- The lines of events, in order.
abbrev pub lines_of : List Event → List ℕ
lines_of es = flat_map event_line es

-- The address of an event is of octets.
abbrev pub HasOctets : Event → Type 0
HasOctets e = (i : ℕ) → slice_index e.addr i < 256

-- What passes without the calls of `next`.
abbrev pub unasked : List Exchange → List Exchange
unasked [] = []
unasked (listened addr from well ∷ h) = listened addr from well ∷ unasked h
unasked (asked wake a ∷ h) = unasked h
unasked (gathered e ∷ h) = gathered e ∷ unasked h
unasked (did x ∷ h) = did x ∷ unasked h

-- How often a world has failed behind what passed: each call that failed counts.

abbrev pub count_in : Exchange → ℕ → ℕ
count_in (listened addr from true) n = n
count_in (listened addr from false) n = counted n
count_in (asked wake (gave e)) n = n
count_in (asked wake ended) n = n
count_in (asked wake failed) n = counted n
count_in (asked wake (bad k)) n = n
count_in (gathered e) n = n
count_in (did x) n = n

abbrev pub counts_in : List Exchange → ℕ → ℕ
counts_in [] n = n
counts_in (x ∷ h) n = counts_in h (count_in x n)

-- A write failed within a history: the inner world gave one more event, of whose line a front was written, and that call of `next` failed;
-- what came behind it had no event and asked the inner world for none.
pub record Stopped (h inner : List Exchange) (text : List ℕ) : Type 0 where
  pub before : List Exchange
  pub wake : Option ℕ
  pub event : Event
  pub after : List Exchange
  pub front : List ℕ
  pub told : h ≡ before ++ (asked wake failed ∷ after)
  pub inner_is : inner ≡ before ++ (asked wake (gave event) ∷ unasked after)
  pub begins : BeginsWith front (event_line event)
  pub text_is : text ≡ lines_of (events_in before) ++ front
  pub silent : events_in after ≡ []

-- A history as it is told, by whether a write had failed before and has failed behind it; what passed at the inner world; and the text
-- that was written: where none failed, the inner world's own history and the lines of its events.
abbrev pub Tells : Bool → Bool → (h inner : List Exchange) → List ℕ → Type 0
Tells false false h inner text = (inner ≡ h) × (text ≡ lines_of (events_in h))
Tells false true h inner text = Stopped h inner text
Tells true true h inner text = (inner ≡ unasked h) × (text ≡ []) × (events_in h ≡ [])
Tells true false h inner text = ⊥

-- This passed between two states. The inner world counted each of its calls that failed. Where a write failed, that call was the sink's last.
-- The addresses of the events are of octets.
pub record Passed {W K : Type 0} (history : W → List Exchange → W → Type 0) (faults : W → ℕ) (gained : K → List ℕ → K → Type 0) (refused : K → K → Type 0) (count : K → ℕ) (old : Recorder W K) (h : List Exchange)
    (new : Recorder W K) : Type 0 where
  pub inner : List Exchange
  pub text : List ℕ
  pub passed : history old.world inner new.world
  pub counts : faults new.world ≡ counts_in inner (faults old.world)
  pub written : gained old.sink text new.sink
  pub tells : Tells old.failed new.failed h inner text
  pub fated : Fated gained refused count old.failed new.failed old.sink new.sink
  pub octets : AllByRecursion HasOctets (events_in h)

-- These actions were done between two states.
pub record Acted {W K : Type 0} (acted : W → List Action → W → Type 0) (old : Recorder W K) (xs : List Action) (new : Recorder W K) : Type 0 where
  pub done : acted old.world xs new.world
  pub sink : new.sink ≡ old.sink
  pub failed_is : new.failed ≡ old.failed
  pub faults : new.faults ≡ old.faults

-- The line of an event was written, and no call of the sink failed; or a front of the line where one did, which was the last.
abbrev pub Wrote : {W K : Type 0} → (K → List ℕ → K → Type 0) → (K → K → Type 0) → (K → ℕ) → Heard → Event → (old new : Recorder W K) → Type 0
Wrote gained refused count heard.Event e old new =
    gained old.sink (event_line e) new.sink × (count new.sink ≡ count old.sink) × HasOctets e × (new ≡ record old { sink = new.sink })
Wrote gained refused count heard.Failed e old new =
    GainedFront gained old.sink (event_line e) new.sink × FailedLast gained refused count old.sink new.sink × (new ≡ record old { sink = new.sink; failed = true })
Wrote gained refused count heard.End e old new = ⊥
Wrote gained refused count (heard.Bad k) e old new = ⊥

-- Laws

lines_both : (g h : List Exchange) → lines_of (events_in (g ++ h)) ≡ lines_of (events_in g) ++ lines_of (events_in h)
lines_both g h = ap lines_of (events-both g h) ∙ flat_map-append event_line (events_in g) (events_in h)

unasked_both : (g h : List Exchange) → unasked (g ++ h) ≡ unasked g ++ unasked h
unasked_both [] h = refl
unasked_both (listened addr from well ∷ g) h = ap (λ (l : List Exchange). listened addr from well ∷ l) (unasked_both g h)
unasked_both (asked wake a ∷ g) h = unasked_both g h
unasked_both (gathered e ∷ g) h = ap (λ (l : List Exchange). gathered e ∷ l) (unasked_both g h)
unasked_both (did x ∷ g) h = ap (λ (l : List Exchange). did x ∷ l) (unasked_both g h)

pub counts_both : (g h : List Exchange) (n : ℕ) → counts_in (g ++ h) n ≡ counts_in h (counts_in g n)
counts_both [] h n = refl
counts_both (x ∷ g) h n = counts_both g h (count_in x n)

counts_done : (xs : List Action) (n : ℕ) → counts_in (done_all xs) n ≡ n
counts_done [] n = refl
counts_done (x ∷ xs) n = counts_done xs n

unasked_done : (xs : List Action) → unasked (done_all xs) ≡ done_all xs
unasked_done [] = refl
unasked_done (x ∷ xs) = ap (λ (l : List Exchange). did x ∷ l) (unasked_done xs)

none_both : (g h : List Exchange) → events_in g ≡ [] → events_in h ≡ [] → events_in (g ++ h) ≡ []
none_both g h p q = events-both g h ∙ (λ i. p i ++ q i)

pub tells_none : (f : Bool) → Tells f f [] [] []
tells_none false = (refl, refl)
tells_none true = (refl, refl, refl)

pub tells_both : (f g k : Bool) (h h' inner inner' : List Exchange) (text text' : List ℕ) → Tells f g h inner text → Tells g k h' inner' text' → Tells f k (h ++ h') (inner ++ inner') (text ++ text')
tells_both false false false h h' inner inner' text text' p q = ((λ i. p.0 i ++ q.0 i), (λ i. p.1 i ++ q.1 i) ∙ sym (lines_both h h'))
tells_both false false true h h' inner inner' text text' p q = record {
  before = h ++ q.before;
  wake = q.wake;
  event = q.event;
  after = q.after;
  front = q.front;
  told = ap (λ (l : List Exchange). h ++ l) q.told ∙ sym (append_assoc h q.before (asked q.wake failed ∷ q.after));
  inner_is = (λ i. p.0 i ++ q.inner_is i) ∙ sym (append_assoc h q.before (asked q.wake (gave q.event) ∷ unasked q.after));
  begins = q.begins;
  text_is = (λ i. p.1 i ++ q.text_is i) ∙ sym (append_assoc (lines_of (events_in h)) (lines_of (events_in q.before)) q.front) ∙ ap (λ (l : List ℕ). l ++ q.front) (sym (lines_both h q.before));
  silent = q.silent;
}
tells_both false true true h h' inner inner' text text' p q = record {
  before = p.before;
  wake = p.wake;
  event = p.event;
  after = p.after ++ h';
  front = p.front;
  told = ap (λ (l : List Exchange). l ++ h') p.told ∙ append_assoc p.before (asked p.wake failed ∷ p.after) h';
  inner_is =
      (λ i. p.inner_is i ++ q.0 i) ∙ append_assoc p.before (asked p.wake (gave p.event) ∷ unasked p.after) (unasked h')
      ∙ ap (λ (l : List Exchange). p.before ++ (asked p.wake (gave p.event) ∷ l)) (sym (unasked_both p.after h'));
  begins = p.begins;
  text_is = (λ i. p.text_is i ++ q.1 i) ∙ append-nil (lines_of (events_in p.before) ++ p.front);
  silent = none_both p.after h' p.silent q.2;
}
tells_both true true true h h' inner inner' text text' p q = ((λ i. p.0 i ++ q.0 i) ∙ sym (unasked_both h h'), (λ i. p.1 i ++ q.1 i), none_both h h' p.2 q.2)
tells_both false true false h h' inner inner' text text' p q = absurd q
tells_both true true false h h' inner inner' text text' p q = absurd q
tells_both true false k h h' inner inner' text text' p q = absurd p

tells_done : (f g : Bool) (xs : List Action) → g ≡ f → Tells f g (done_all xs) (done_all xs) []
tells_done false false xs e = (refl, ap lines_of (sym (events-done xs)))
tells_done true true xs e = (sym (unasked_done xs), refl, events-done xs)
tells_done false true xs e = cc
tells_done true false xs e = cc

octets_both : (es fs : List Event) → AllByRecursion HasOctets es → AllByRecursion HasOctets fs → AllByRecursion HasOctets (es ++ fs)
octets_both [] fs p q = q
octets_both (e ∷ es) fs p q = (p.0, octets_both es fs p.1 q)

-- Nothing was done to a sink.
fated_still : {K : Type 0} (gained : K → List ℕ → K → Type 0) (refused : K → K → Type 0) (count : K → ℕ) (f g : Bool) (old new : K) → g ≡ f → new ≡ old → Fated gained refused count f g old new
fated_still gained refused count false false old new e s = ap count s
fated_still gained refused count true true old new e s = s
fated_still gained refused count false true old new e s = cc
fated_still gained refused count true false old new e s = cc

module _ {W K : Type 0} (history : W → List Exchange → W → Type 0) (faults : W → ℕ) where
  pub Passed-none : (none : (a : W) → history a [] a) (gained : K → List ℕ → K → Type 0) (gained_none : (a : K) → gained a [] a) (refused : K → K → Type 0) (count : K → ℕ) (a : Recorder W K)
      → Passed history faults gained refused count a [] a
  Passed-none none gained gained_none refused count a = record {
    inner = [];
    text = [];
    passed = none a.world;
    counts = refl;
    written = gained_none a.sink;
    tells = tells_none a.failed;
    fated = Fated-none gained refused count a.failed a.sink;
    octets = tt;
  }

  pub Passed-both : (both : (a b c : W) (g h : List Exchange) → history a g b → history b h c → history a (g ++ h) c) (gained : K → List ℕ → K → Type 0)
      (gained_both : (a b c : K) (xs ys : List ℕ) → gained a xs b → gained b ys c → gained a (xs ++ ys) c) (refused : K → K → Type 0) (count : K → ℕ) (a b c : Recorder W K)
      (g h : List Exchange) → Passed history faults gained refused count a g b → Passed history faults gained refused count b h c → Passed history faults gained refused count a (g ++ h) c
  Passed-both both gained gained_both refused count a b c g h p q = record {
    inner = p.inner ++ q.inner;
    text = p.text ++ q.text;
    passed = both a.world b.world c.world p.inner q.inner p.passed q.passed;
    counts = q.counts ∙ ap (counts_in q.inner) p.counts ∙ sym (counts_both p.inner q.inner (faults a.world));
    written = gained_both a.sink b.sink c.sink p.text q.text p.written q.written;
    tells = tells_both a.failed b.failed c.failed g h p.inner q.inner p.text q.text p.tells q.tells;
    fated = Fated-both gained refused count gained_both a.failed b.failed c.failed a.sink b.sink c.sink p.text (λ e f. p.written) p.fated q.fated;
    octets = subst (λ es. AllByRecursion HasOctets es) (sym (events-both g h)) (octets_both (events_in g) (events_in h) p.octets q.octets);
  }

module _ {W K : Type 0} (acted : W → List Action → W → Type 0) where
  pub Acted-none : (none : (a : W) → acted a [] a) (a : Recorder W K) → Acted acted a [] a
  Acted-none none a = record { done = none a.world; sink = refl; failed_is = refl; faults = refl }

  pub Acted-both : (both : (a b c : W) (xs ys : List Action) → acted a xs b → acted b ys c → acted a (xs ++ ys) c) (a b c : Recorder W K) (xs ys : List Action)
      → Acted acted a xs b → Acted acted b ys c → Acted acted a (xs ++ ys) c
  Acted-both both a b c xs ys p q = record {
    done = both a.world b.world c.world xs ys p.done q.done;
    sink = q.sink ∙ p.sink;
    failed_is = q.failed_is ∙ p.failed_is;
    faults = q.faults ∙ p.faults;
  }

  pub Acted-passed : (history : W → List Exchange → W → Type 0) (passes : (a b : W) (xs : List Action) → acted a xs b → history a (done_all xs) b) (faults : W → ℕ)
      (still : (a b : W) (xs : List Action) → acted a xs b → faults b ≡ faults a) (gained : K → List ℕ → K → Type 0) (gained_none : (a : K) → gained a [] a) (refused : K → K → Type 0) (count : K → ℕ) (a b : Recorder W K) (xs : List Action) → Acted acted a xs b
      → Passed history faults gained refused count a (done_all xs) b
  Acted-passed history passes faults still gained gained_none refused count a b xs p = record {
    inner = done_all xs;
    text = [];
    passed = passes a.world b.world xs p.done;
    counts = still a.world b.world xs p.done ∙ sym (counts_done xs (faults a.world));
    written = subst (λ s. gained a.sink [] s) (sym p.sink) (gained_none a.sink);
    tells = tells_done a.failed b.failed xs p.failed_is;
    fated = fated_still gained refused count a.failed b.failed a.sink b.sink p.failed_is p.sink;
    octets = subst (λ es. AllByRecursion HasOctets es) (sym (events-done xs)) tt;
  }

  pub Acted-faults : (a b : Recorder W K) (xs : List Action) → Acted acted a xs b → b.faults ≡ a.faults
  Acted-faults a b xs p = p.faults
