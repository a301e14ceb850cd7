-- A world over another one, of which calls of given numbers fail. The calls of `listen` and `next` are counted together, from 1.
use Rattle.std.specs.Prelude.{◌≡◌, ℕ, ◌+◌, ◌-◌, ◌^◌, ◌==◌, min, cond, Bool, true, false, List, [], ◌∷◌, ◌++◌, take, Option, refl}
use Rattle.std.proofs.Common.{sym, ap, ◌∙◌, subst}
use Rattle.std.specs.List.{list_any}
use Rattle.dc_model.specs.Event.{Action}
use Rattle.dc_event.specs.Causes.{counted}
use Rattle.dc_event.specs.History.{Answer, failed, Exchange, listened, asked, gathered, did, done_all}

-- The inner world, the numbers of the calls that are to fail, how many calls were made, how many of them failed so, and the wakes of the first
-- 64 calls of `next`, the first one first. The counts stand still at 2^64 - 1.
pub record Faulty (W : Type 0) : Type 0 where
  pub world : W
  pub fails : List ℕ
  pub calls : ℕ
  pub missed : ℕ
  pub wakes : List (Option ℕ)

-- All faults: those of the inner world and those that are its own.
abbrev pub faults_of : {W : Type 0} → (W → ℕ) → Faulty W → ℕ
faults_of faults w = min (faults w.world + w.missed) (2 ^ 64 - 1)

-- Whether the call of this number is to fail.
abbrev pub is_named : List ℕ → ℕ → Bool
is_named fails number = list_any (λ n. n == number) fails

-- The number of calls behind an exchange.
abbrev pub calls_by : ℕ → Exchange → ℕ
calls_by calls (listened addr send_from well) = counted calls
calls_by calls (asked wake a) = counted calls
calls_by calls (gathered e) = calls
calls_by calls (did x) = calls

-- Whether an exchange behind so many calls is one that is to fail.
abbrev pub fails_at : List ℕ → ℕ → Exchange → Bool
fails_at fails calls (listened addr send_from well) = is_named fails (counted calls)
fails_at fails calls (asked wake a) = is_named fails (counted calls)
fails_at fails calls (gathered e) = false
fails_at fails calls (did x) = false

-- An exchange is a call that failed.
abbrev pub IsFailed : Exchange → Type 0
IsFailed (listened addr send_from well) = well ≡ false
IsFailed (asked wake a) = a ≡ failed
IsFailed (gathered e) = ⊥
IsFailed (did x) = ⊥

abbrev pub FailsWhere : Bool → Exchange → Type 0
FailsWhere true x = IsFailed x
FailsWhere false x = Unit {0}

-- One more wake, of which the first 64 are kept.
abbrev pub with_wake : List (Option ℕ) → Option ℕ → List (Option ℕ)
with_wake wakes wake = take 64 (wakes ++ wake ∷ [])

abbrev pub wakes_by : List (Option ℕ) → Exchange → List (Option ℕ)
wakes_by wakes (listened addr send_from well) = wakes
wakes_by wakes (asked wake a) = with_wake wakes wake
wakes_by wakes (gathered e) = wakes
wakes_by wakes (did x) = wakes

-- The same of a whole history: how many calls were made and how many failed, the wakes that are kept, and what passed between the inner
-- world and this one, which is all but the calls that failed.

abbrev pub calls_in : ℕ → List Exchange → ℕ
calls_in calls [] = calls
calls_in calls (x ∷ h) = calls_in (calls_by calls x) h

abbrev pub missed_in : List ℕ → ℕ → ℕ → List Exchange → ℕ
missed_in fails calls missed [] = missed
missed_in fails calls missed (x ∷ h) = missed_in fails (calls_by calls x) (cond (fails_at fails calls x) (counted missed) missed) h

abbrev pub wakes_kept : List (Option ℕ) → List Exchange → List (Option ℕ)
wakes_kept wakes [] = wakes
wakes_kept wakes (x ∷ h) = wakes_kept (wakes_by wakes x) h

abbrev pub reached : List ℕ → ℕ → List Exchange → List Exchange
reached fails calls [] = []
reached fails calls (x ∷ h) = cond (fails_at fails calls x) (reached fails (calls_by calls x) h) (x ∷ reached fails (calls_by calls x) h)

-- Each call that is to fail did.
abbrev pub HaveFailed : List ℕ → ℕ → List Exchange → Type 0
HaveFailed fails calls [] = Unit {0}
HaveFailed fails calls (x ∷ h) = FailsWhere (fails_at fails calls x) x × HaveFailed fails (calls_by calls x) h

-- This passed between the world and its user.
pub record FaultyPassed {W : Type 0} (history : W → List Exchange → W → Type 0) (old : Faulty W) (h : List Exchange) (new : Faulty W) : Type 0 where
  pub within : history old.world (reached old.fails old.calls h) new.world
  pub failures : HaveFailed old.fails old.calls h
  pub fails : new.fails ≡ old.fails
  pub calls : new.calls ≡ calls_in old.calls h
  pub missed : new.missed ≡ missed_in old.fails old.calls old.missed h
  pub wakes : new.wakes ≡ wakes_kept old.wakes h

-- These actions were done: the inner world did them.
pub record FaultyActed {W : Type 0} (acted : W → List Action → W → Type 0) (old : Faulty W) (xs : List Action) (new : Faulty W) : Type 0 where
  pub within : acted old.world xs new.world
  pub same : new ≡ record old { world = new.world }

-- Of two histories one behind the other.

calls-both : (calls : ℕ) (g h : List Exchange) → calls_in calls (g ++ h) ≡ calls_in (calls_in calls g) h
calls-both calls [] h = refl
calls-both calls (x ∷ g) h = calls-both (calls_by calls x) g h

missed-both : (fails : List ℕ) (calls missed : ℕ) (g h : List Exchange)
    → missed_in fails calls missed (g ++ h) ≡ missed_in fails (calls_in calls g) (missed_in fails calls missed g) h
missed-both fails calls missed [] h = refl
missed-both fails calls missed (x ∷ g) h = missed-both fails (calls_by calls x) (cond (fails_at fails calls x) (counted missed) missed) g h

wakes-both : (wakes : List (Option ℕ)) (g h : List Exchange) → wakes_kept wakes (g ++ h) ≡ wakes_kept (wakes_kept wakes g) h
wakes-both wakes [] h = refl
wakes-both wakes (x ∷ g) h = wakes-both (wakes_by wakes x) g h

one_more : (b : Bool) (x : Exchange) (all front rest : List Exchange) → all ≡ front ++ rest → cond b all (x ∷ all) ≡ cond b front (x ∷ front) ++ rest
one_more true x all front rest e = e
one_more false x all front rest e = ap (λ l. x ∷ l) e

reached-both : (fails : List ℕ) (calls : ℕ) (g h : List Exchange) → reached fails calls (g ++ h) ≡ reached fails calls g ++ reached fails (calls_in calls g) h
reached-both fails calls [] h = refl
reached-both fails calls (x ∷ g) h = one_more (fails_at fails calls x) x _ _ _ (reached-both fails (calls_by calls x) g h)

failures-both : (fails : List ℕ) (calls : ℕ) (g h : List Exchange) → HaveFailed fails calls g → HaveFailed fails (calls_in calls g) h → HaveFailed fails calls (g ++ h)
failures-both fails calls [] h p q = q
failures-both fails calls (x ∷ g) h p q = (p.0, failures-both fails (calls_by calls x) g h p.1 q)

-- Of actions alone.

calls-done : (calls : ℕ) (xs : List Action) → calls_in calls (done_all xs) ≡ calls
calls-done calls [] = refl
calls-done calls (x ∷ xs) = calls-done calls xs

missed-done : (fails : List ℕ) (calls missed : ℕ) (xs : List Action) → missed_in fails calls missed (done_all xs) ≡ missed
missed-done fails calls missed [] = refl
missed-done fails calls missed (x ∷ xs) = missed-done fails calls missed xs

wakes-done : (wakes : List (Option ℕ)) (xs : List Action) → wakes_kept wakes (done_all xs) ≡ wakes
wakes-done wakes [] = refl
wakes-done wakes (x ∷ xs) = wakes-done wakes xs

reached-done : (fails : List ℕ) (calls : ℕ) (xs : List Action) → reached fails calls (done_all xs) ≡ done_all xs
reached-done fails calls [] = refl
reached-done fails calls (x ∷ xs) = ap (λ l. did x ∷ l) (reached-done fails calls xs)

failures-done : (fails : List ℕ) (calls : ℕ) (xs : List Action) → HaveFailed fails calls (done_all xs)
failures-done fails calls [] = tt
failures-done fails calls (x ∷ xs) = (tt, failures-done fails calls xs)

-- The relation of a whole history.

pub FaultyPassed-none : {W : Type 0} (history : W → List Exchange → W → Type 0) → ((a : W) → history a [] a) → (a : Faulty W) → FaultyPassed history a [] a
FaultyPassed-none history none a = record { within = none a.world; failures = tt; fails = refl; calls = refl; missed = refl; wakes = refl }

pub FaultyPassed-both : {W : Type 0} (history : W → List Exchange → W → Type 0)
    → ((a b c : W) (g h : List Exchange) → history a g b → history b h c → history a (g ++ h) c)
    → (a b c : Faulty W) (g h : List Exchange) → FaultyPassed history a g b → FaultyPassed history b h c → FaultyPassed history a (g ++ h) c
FaultyPassed-both {W} history both a b c g h p q =
    let second : history b.world (reached a.fails (calls_in a.calls g) h) c.world =
    subst (λ n. history b.world (reached a.fails n h) c.world) p.calls (subst (λ f. history b.world (reached f b.calls h) c.world) p.fails q.within) in
    let failures : HaveFailed a.fails (calls_in a.calls g) h =
    subst (λ n. HaveFailed a.fails n h) p.calls (subst (λ f. HaveFailed f b.calls h) p.fails q.failures) in
    record {
      within = subst (λ l. history a.world l c.world) (sym (reached-both a.fails a.calls g h)) (both a.world b.world c.world _ _ p.within second);
      failures = failures-both a.fails a.calls g h p.failures failures;
      fails = q.fails ∙ p.fails;
      calls = q.calls ∙ ap (λ n. calls_in n h) p.calls ∙ sym (calls-both a.calls g h);
      missed = q.missed ∙ ap (λ f. missed_in f b.calls b.missed h) p.fails ∙ ap (λ n. missed_in a.fails n b.missed h) p.calls
          ∙ ap (λ n. missed_in a.fails (calls_in a.calls g) n h) p.missed ∙ sym (missed-both a.fails a.calls a.missed g h);
      wakes = q.wakes ∙ ap (λ l. wakes_kept l h) p.wakes ∙ sym (wakes-both a.wakes g h);
    }

-- Actions

module _ {W : Type 0} (acted : W → List Action → W → Type 0) where
  pub FaultyActed-none : ((a : W) → acted a [] a) → (a : Faulty W) → FaultyActed acted a [] a
  FaultyActed-none none a = record { within = none a.world; same = refl }

  pub FaultyActed-both : ((a b c : W) (xs ys : List Action) → acted a xs b → acted b ys c → acted a (xs ++ ys) c)
      → (a b c : Faulty W) (xs ys : List Action) → FaultyActed acted a xs b → FaultyActed acted b ys c → FaultyActed acted a (xs ++ ys) c
  FaultyActed-both both a b c xs ys p q = record {
    within = both a.world b.world c.world xs ys p.within q.within;
    same = q.same ∙ ap (λ (w : Faulty W). record w { world = c.world }) p.same;
  }

  pub FaultyActed-passed : (history : W → List Exchange → W → Type 0) → ((a b : W) (xs : List Action) → acted a xs b → history a (done_all xs) b)
      → (a b : Faulty W) (xs : List Action) → FaultyActed acted a xs b → FaultyPassed history a (done_all xs) b
  FaultyActed-passed history passes a b xs p = record {
    within = subst (λ l. history a.world l b.world) (sym (reached-done a.fails a.calls xs)) (passes a.world b.world xs p.within);
    failures = failures-done a.fails a.calls xs;
    fails = ap {A = Faulty W} (λ w. w.fails) p.same;
    calls = ap {A = Faulty W} (λ w. w.calls) p.same ∙ sym (calls-done a.calls xs);
    missed = ap {A = Faulty W} (λ w. w.missed) p.same ∙ sym (missed-done a.fails a.calls a.missed xs);
    wakes = ap {A = Faulty W} (λ w. w.wakes) p.same ∙ sym (wakes-done a.wakes xs);
  }

  pub FaultyActed-faults : (faults : W → ℕ) → ((a b : W) (xs : List Action) → acted a xs b → faults b ≡ faults a)
      → (a b : Faulty W) (xs : List Action) → FaultyActed acted a xs b → faults_of faults b ≡ faults_of faults a
  FaultyActed-faults faults same a b xs p =
      let missed : b.missed ≡ a.missed = ap {A = Faulty W} (λ w. w.missed) p.same in
      let inner : faults b.world ≡ faults a.world = same a.world b.world xs p.within in
      rw (missed, inner) refl
