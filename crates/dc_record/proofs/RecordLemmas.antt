-- What passes at a recorded world at one call.
use Rattle.std.specs.Prelude.{Result, Ok, Err}
use Rattle.std.specs.Result.{is_ok}
use Rattle.std.proofs.Common.{◌≡◌, ℕ, Bool, true, false, List, [], ◌∷◌, ◌++◌, Option, refl, sym, ap, ◌∙◌, subst, append_assoc}
use Rattle.std.proofs.lemmas.List.{append-nil}
use Rattle.dc_model.specs.Event.{Event}
use Rattle.dc_event.specs.History.{Exchange, listened, asked, gave, failed, answer_by, events_in}
use Rattle.dc_event.specs.Answers.{count_heard}
use Rattle.dc_event.specs.Causes.{FailedLast, count_by}
use Rattle.dc_event.specs.declared.answers.Heard.{Heard}
use Rattle.dc_event.specs.declared.answers.Heard.TheVariants as heard
use Rattle.dc_script.specs.EventText.{event_text, events_text}
use Rattle.dc_script.specs.Read.{end_text}
use Rattle.dc_script.specs.Recording.{event_line}
use Rattle.dc_script.specs.Fated.{Fated, Fated-none}
use Rattle.dc_record.specs.Recorded.{Recorder, Passed, Tells, Stopped, Wrote, lines_of, count_in}

-- What a call counts.

pub listen_counts : {T E : Type 0} (r : Result T E) (addr from : List ℕ) (n : ℕ) → count_by r n ≡ count_in (listened addr from (is_ok r)) n
listen_counts (Ok x) addr from n = refl
listen_counts (Err x) addr from n = refl

pub next_counts : (r : Heard) (wake : Option ℕ) (e : Event) (n : ℕ) → count_heard r n ≡ count_in (asked wake (answer_by r e)) n
next_counts heard.Event wake e n = refl
next_counts heard.End wake e n = refl
next_counts heard.Failed wake e n = refl
next_counts (heard.Bad k) wake e n = refl

module _ {W K : Type 0} (history : W → List Exchange → W → Type 0) (faults : W → ℕ) (gained : K → List ℕ → K → Type 0) (refused : K → K → Type 0) (count : K → ℕ) where
  tells_listened : (f : Bool) (addr from : List ℕ) (well : Bool) → Tells f f (listened addr from well ∷ []) (listened addr from well ∷ []) []
  tells_listened false addr from well = (refl, refl)
  tells_listened true addr from well = (refl, refl, refl)

  pub passed_listened : (none : (a : K) → gained a [] a) (old : Recorder W K) (w : W) (n : ℕ) (addr from : List ℕ) (well : Bool) → history old.world (listened addr from well ∷ []) w
      → faults w ≡ count_in (listened addr from well) (faults old.world) → Passed history faults gained refused count old (listened addr from well ∷ []) (record old { world = w; faults = n })
  passed_listened none old w n addr from well p k = record {
    inner = listened addr from well ∷ [];
    text = [];
    passed = p;
    counts = k;
    written = none old.sink;
    tells = tells_listened old.failed addr from well;
    fated = Fated-none gained refused count old.failed old.sink;
    octets = tt;
  }

  tells_well : (f g : Bool) (h inner : List Exchange) (text : List ℕ) → f ≡ false → g ≡ false → inner ≡ h → text ≡ lines_of (events_in h) → Tells f g h inner text
  tells_well false false h inner text e e' p q = (p, q)
  tells_well false true h inner text e e' p q = cc
  tells_well true g h inner text e e' p q = cc

  tells_stopped : (f g : Bool) (h inner : List Exchange) (text : List ℕ) → f ≡ false → g ≡ true → Stopped h inner text → Tells f g h inner text
  tells_stopped false true h inner text e e' s = s
  tells_stopped false false h inner text e e' s = cc
  tells_stopped true g h inner text e e' s = cc

  fated_well : (f g : Bool) (old new : K) → f ≡ false → g ≡ false → count new ≡ count old → Fated gained refused count f g old new
  fated_well false false old new e e' c = c
  fated_well false true old new e e' c = cc
  fated_well true g old new e e' c = cc

  fated_failed : (f g : Bool) (old new : K) → f ≡ false → g ≡ true → FailedLast gained refused count old new → Fated gained refused count f g old new
  fated_failed false true old new e e' last = last
  fated_failed false false old new e e' last = cc
  fated_failed true g old new e e' last = cc

  tells_failed : (f : Bool) (wake : Option ℕ) → f ≡ true → Tells f f (asked wake failed ∷ []) [] []
  tells_failed true wake e = (refl, refl, refl)
  tells_failed false wake e = cc

  -- An event was given, and its line was written, or a front of it.
  pub passed_event : (old new : Recorder W K) (w : W) (wake : Option ℕ) (e : Event) (r : Heard) → old.failed ≡ false → history old.world (asked wake (gave e) ∷ []) w → faults w ≡ faults old.world
      → Wrote gained refused count r e (record old { world = w }) new → Passed history faults gained refused count old (asked wake (answer_by r e) ∷ []) new
  passed_event old new w wake e heard.Event well p k q = record {
    inner = asked wake (gave e) ∷ [];
    text = event_line e;
    passed = subst (λ (v : W). history old.world (asked wake (gave e) ∷ []) v) (sym (ap (λ (r : Recorder W K). r.world) q.3)) p;
    counts = ap (λ (r : Recorder W K). faults r.world) q.3 ∙ k;
    written = q.0;
    tells = tells_well old.failed new.failed _ _ _ well (ap (λ (r : Recorder W K). r.failed) q.3 ∙ well) refl (sym (append-nil (event_line e)));
    fated = fated_well old.failed new.failed old.sink new.sink well (ap (λ (r : Recorder W K). r.failed) q.3 ∙ well) q.1;
    octets = (q.2, tt);
  }
  passed_event old new w wake e heard.Failed well p k q = record {
    inner = asked wake (gave e) ∷ [];
    text = q.0.0;
    passed = subst (λ (v : W). history old.world (asked wake (gave e) ∷ []) v) (sym (ap (λ (r : Recorder W K). r.world) q.2)) p;
    counts = ap (λ (r : Recorder W K). faults r.world) q.2 ∙ k;
    written = q.0.2;
    tells = tells_stopped old.failed new.failed _ _ _ well (ap (λ (r : Recorder W K). r.failed) q.2)
        (record { before = []; wake = wake; event = e; after = []; front = q.0.0; told = refl; inner_is = refl; begins = q.0.1; text_is = refl; silent = refl });
    fated = fated_failed old.failed new.failed old.sink new.sink well (ap (λ (r : Recorder W K). r.failed) q.2) q.1;
    octets = tt;
  }
  passed_event old new w wake e heard.End well p k q = absurd q
  passed_event old new w wake e (heard.Bad n) well p k q = absurd q

  -- No event was given.
  pub passed_none : (none : (a : K) → gained a [] a) (old : Recorder W K) (w : W) (wake : Option ℕ) (e : Event) (r : Heard) → (r ≡ heard.Event → ⊥) → old.failed ≡ false
      → history old.world (asked wake (answer_by r e) ∷ []) w → faults w ≡ count_in (asked wake (answer_by r e)) (faults old.world) → Passed history faults gained refused count old (asked wake (answer_by r e) ∷ []) (record old { world = w })
  passed_none none old w wake e heard.Event other well p c = absurd (other refl)
  passed_none none old w wake e heard.End other well p c =
      record { inner = _; text = []; passed = p; counts = c; written = none old.sink; tells = tells_well old.failed old.failed _ _ _ well well refl refl; fated = Fated-none gained refused count old.failed old.sink; octets = tt }
  passed_none none old w wake e heard.Failed other well p c =
      record { inner = _; text = []; passed = p; counts = c; written = none old.sink; tells = tells_well old.failed old.failed _ _ _ well well refl refl; fated = Fated-none gained refused count old.failed old.sink; octets = tt }
  passed_none none old w wake e (heard.Bad k) other well p c =
      record { inner = _; text = []; passed = p; counts = c; written = none old.sink; tells = tells_well old.failed old.failed _ _ _ well well refl refl; fated = Fated-none gained refused count old.failed old.sink; octets = tt }

  -- A write had failed before.
  pub passed_failed : (still : (a : W) → history a [] a) (none : (a : K) → gained a [] a) (old : Recorder W K) (n : ℕ) (wake : Option ℕ) → old.failed ≡ true
      → Passed history faults gained refused count old (asked wake failed ∷ []) (record old { faults = n })
  passed_failed still none old n wake e = record { inner = []; text = []; passed = still old.world; counts = refl; written = none old.sink; tells = tells_failed old.failed wake e; fated = Fated-none gained refused count old.failed old.sink; octets = tt }

  -- A write counts no fault of the world.
  pub wrote_faults : (old new : Recorder W K) (e : Event) (r : Heard) → Wrote gained refused count r e old new → new.faults ≡ old.faults
  wrote_faults old new e heard.Event q = ap (λ (r : Recorder W K). r.faults) q.3
  wrote_faults old new e heard.Failed q = ap (λ (r : Recorder W K). r.faults) q.2
  wrote_faults old new e heard.End q = absurd q
  wrote_faults old new e (heard.Bad k) q = absurd q

-- Lines of events with the line `end` behind them.
pub lines_end : (es : List Event) → lines_of es ++ end_text ≡ events_text es
lines_end [] = refl
lines_end (e ∷ es) =
    append_assoc (event_line e) (lines_of es) end_text ∙ append_assoc (event_text e) (10 ∷ []) (lines_of es ++ end_text) ∙ ap (λ (l : List ℕ). event_text e ++ (10 ∷ l)) (lines_end es)
