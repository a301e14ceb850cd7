-- Calls of a world of which given ones fail.
use Rattle.std.proofs.Common.{◌≡◌, ℕ, ◌<◌, ◌≤◌, ◌==◌, zero, suc, Bool, true, false, cond, List, [], ◌∷◌, ◌++◌, length, take, refl, sym, ap, ◌∙◌, subst, arith, take_all, length-append, length-take, append_assoc, Option}
use Rattle.std.proofs.Math.Seq.{take-append_seam}
use Rattle.std.proofs.lemmas.Grind.{common_steps}
use Rattle.std.proofs.lemmas.List.{append-nil}
use Rattle.dc_event.specs.Causes.{counted}
use Rattle.dc_model.specs.Event.{Event}
use Rattle.dc_event.specs.History.{Answer, failed, Exchange, listened, asked, gathered, gathered_by, did, event_by, events_in, actions_in, wakes_in}
use Rattle.dc_script.specs.Faulty.{Faulty, FaultyPassed, is_named, calls_by, fails_at, IsFailed, FailsWhere, with_wake, wakes_by, wakes_kept, reached, HaveFailed}

-- Those that failed hide neither events nor actions.

hidden : (b : Bool) (x : Exchange) (h l : List Exchange) → FailsWhere b x → events_in l ≡ events_in h → events_in (cond b l (x ∷ l)) ≡ events_in (x ∷ h)
hidden true (listened addr send_from well) h l f e = e
hidden true (asked wake a) h l f e = rw f e
hidden true (gathered v) h l f e = absurd f
hidden true (did x) h l f e = absurd f
hidden false (listened addr send_from well) h l f e = e
hidden false (asked wake a) h l f e = ap (λ k. event_by a ++ k) e
hidden false (gathered v) h l f e = ap (λ k. v ∷ k) e
hidden false (did x) h l f e = e

pub events-reached : (fails : List ℕ) (calls : ℕ) (h : List Exchange) → HaveFailed fails calls h → events_in (reached fails calls h) ≡ events_in h
events-reached fails calls [] f = refl
events-reached fails calls (x ∷ h) f = hidden (fails_at fails calls x) x h _ f.0 (events-reached fails (calls_by calls x) h f.1)

undone : (b : Bool) (x : Exchange) (h l : List Exchange) → FailsWhere b x → actions_in l ≡ actions_in h → actions_in (cond b l (x ∷ l)) ≡ actions_in (x ∷ h)
undone true (listened addr send_from well) h l f e = e
undone true (asked wake a) h l f e = e
undone true (gathered v) h l f e = absurd f
undone true (did x) h l f e = absurd f
undone false (listened addr send_from well) h l f e = e
undone false (asked wake a) h l f e = e
undone false (gathered v) h l f e = e
undone false (did x) h l f e = ap (λ k. x ∷ k) e

pub actions-reached : (fails : List ℕ) (calls : ℕ) (h : List Exchange) → HaveFailed fails calls h → actions_in (reached fails calls h) ≡ actions_in h
actions-reached fails calls [] f = refl
actions-reached fails calls (x ∷ h) f = undone (fails_at fails calls x) x h _ f.0 (actions-reached fails (calls_by calls x) h f.1)

-- One call: it failed, or it reached the inner world.

missed_one : {W : Type 0} (history : W → List Exchange → W → Type 0) → ((a : W) → history a [] a) → (old : Faulty W) (x : Exchange) (named : Bool) → fails_at old.fails old.calls x ≡ named
    → named ≡ true → IsFailed x → calls_by old.calls x ≡ counted old.calls
    → FaultyPassed history old (x ∷ []) (record old { calls = counted old.calls; missed = counted old.missed; wakes = wakes_by old.wakes x })
missed_one history none old x named at is why calls = record {
  within = subst (λ b. history old.world (cond b [] (x ∷ [])) old.world) (sym (at ∙ is)) (none old.world);
  failures = (subst (λ b. FailsWhere b x) (sym (at ∙ is)) why, tt);
  fails = refl;
  calls = sym calls;
  missed = ap (λ b. cond b (counted old.missed) old.missed) (sym (at ∙ is));
  wakes = refl;
}

reached_one : {W : Type 0} (history : W → List Exchange → W → Type 0) (old : Faulty W) (world : W) (x : Exchange) (named : Bool) → fails_at old.fails old.calls x ≡ named
    → named ≡ false → history old.world (x ∷ []) world → calls_by old.calls x ≡ counted old.calls
    → FaultyPassed history old (x ∷ []) (record old { world = world; calls = counted old.calls; wakes = wakes_by old.wakes x })
reached_one history old world x named at is passed calls = record {
  within = subst (λ b. history old.world (cond b [] (x ∷ [])) world) (sym (at ∙ is)) passed;
  failures = (subst (λ b. FailsWhere b x) (sym (at ∙ is)) tt, tt);
  fails = refl;
  calls = sym calls;
  missed = ap (λ b. cond b (counted old.missed) old.missed) (sym (at ∙ is));
  wakes = refl;
}

module _ {W : Type 0} (history : W → List Exchange → W → Type 0) where
  pub listen_missed : ((a : W) → history a [] a) → (old new : Faulty W) (addr send_from : List ℕ) (named : Bool) → named ≡ is_named old.fails (counted old.calls) → named ≡ true
      → new ≡ record old { calls = counted old.calls; missed = cond named (counted old.missed) old.missed } → FaultyPassed history old (listened addr send_from false ∷ []) new
  listen_missed none old new addr send_from named at is e =
      let missed : new ≡ record old { calls = counted old.calls; missed = counted old.missed } = e ∙ ap (λ b. record old { calls = counted old.calls; missed = cond b (counted old.missed) old.missed }) is in
      subst (λ (w : Faulty W). FaultyPassed history old (listened addr send_from false ∷ []) w) (sym missed)
      (missed_one history none old (listened addr send_from false) named (sym at) is refl refl)

  pub listen_reached : (old mid inside : Faulty W) (world : W) (addr send_from : List ℕ) (well named : Bool) → named ≡ is_named old.fails (counted old.calls) → named ≡ false
      → mid ≡ record old { calls = counted old.calls; missed = cond named (counted old.missed) old.missed } → inside ≡ mid
      → history inside.world (listened addr send_from well ∷ []) world → FaultyPassed history old (listened addr send_from well ∷ []) (record inside { world = world })
  listen_reached old mid inside world addr send_from well named at is e f h =
      let counts : inside ≡ record old { calls = counted old.calls } = f ∙ e ∙ ap (λ b. record old { calls = counted old.calls; missed = cond b (counted old.missed) old.missed }) is in
      let whole : record inside { world = world } ≡ record old { world = world; calls = counted old.calls } = ap (λ (w : Faulty W). record w { world = world }) counts in
      let inner : inside.world ≡ old.world = ap {A = Faulty W} (λ w. w.world) counts in
      subst (λ (w : Faulty W). FaultyPassed history old (listened addr send_from well ∷ []) w) (sym whole)
      (reached_one history old world (listened addr send_from well) named (sym at) is (subst (λ w. history w (listened addr send_from well ∷ []) world) inner h) refl)

  pub next_missed : ((a : W) → history a [] a) → (old mid new : Faulty W) (wake : Option ℕ) (named : Bool) → mid ≡ record old { wakes = with_wake old.wakes wake }
      → named ≡ is_named mid.fails (counted mid.calls) → named ≡ true
      → new ≡ record mid { calls = counted mid.calls; missed = cond named (counted mid.missed) mid.missed } → FaultyPassed history old (asked wake failed ∷ []) new
  next_missed none old mid new wake named keeps at is e =
      let named_old : named ≡ is_named old.fails (counted old.calls) = at ∙ ap (λ (w : Faulty W). is_named w.fails (counted w.calls)) keeps in
      let missed : new ≡ record old { calls = counted old.calls; missed = counted old.missed; wakes = with_wake old.wakes wake } =
      e ∙ ap (λ b. record mid { calls = counted mid.calls; missed = cond b (counted mid.missed) mid.missed }) is
      ∙ ap (λ (w : Faulty W). record w { calls = counted w.calls; missed = counted w.missed }) keeps in
      subst (λ (w : Faulty W). FaultyPassed history old (asked wake failed ∷ []) w) (sym missed)
      (missed_one history none old (asked wake failed) named (sym named_old) is refl refl)

  pub next_reached : (old mid last inside : Faulty W) (world : W) (wake : Option ℕ) (a : Answer) (named : Bool) → mid ≡ record old { wakes = with_wake old.wakes wake }
      → named ≡ is_named mid.fails (counted mid.calls) → named ≡ false
      → last ≡ record mid { calls = counted mid.calls; missed = cond named (counted mid.missed) mid.missed } → inside ≡ last
      → history inside.world (asked wake a ∷ []) world → FaultyPassed history old (asked wake a ∷ []) (record inside { world = world })
  next_reached old mid last inside world wake a named keeps at is e f h =
      let named_old : named ≡ is_named old.fails (counted old.calls) = at ∙ ap (λ (w : Faulty W). is_named w.fails (counted w.calls)) keeps in
      let counts : inside ≡ record old { calls = counted old.calls; wakes = with_wake old.wakes wake } =
      f ∙ e ∙ ap (λ b. record mid { calls = counted mid.calls; missed = cond b (counted mid.missed) mid.missed }) is
      ∙ ap (λ (w : Faulty W). record w { calls = counted w.calls }) keeps in
      let whole : record inside { world = world } ≡ record old { world = world; calls = counted old.calls; wakes = with_wake old.wakes wake } =
      ap (λ (w : Faulty W). record w { world = world }) counts in
      let inner : inside.world ≡ old.world = ap {A = Faulty W} (λ w. w.world) counts in
      subst (λ (w : Faulty W). FaultyPassed history old (asked wake a ∷ []) w) (sym whole)
      (reached_one history old world (asked wake a) named (sym named_old) is (subst (λ w. history w (asked wake a ∷ []) world) inner h) refl)

  -- A further event comes from the inner world.

  more_within : (old : Faulty W) (world : W) (b : Bool) (e : Event) → history old.world (gathered_by b e) world → FaultyPassed history old (gathered_by b e) (record old { world = world })
  more_within old world true e h = record { within = h; failures = (tt, tt); fails = refl; calls = refl; missed = refl; wakes = refl }
  more_within old world false e h = record { within = h; failures = tt; fails = refl; calls = refl; missed = refl; wakes = refl }

  pub more_reached : (old inside : Faulty W) (world : W) (b : Bool) (e : Event) → inside ≡ old → history inside.world (gathered_by b e) world
      → FaultyPassed history old (gathered_by b e) (record inside { world = world })
  more_reached old inside world b e is h = subst (λ (w : Faulty W). FaultyPassed history w (gathered_by b e) (record inside { world = world })) is (more_within inside world b e h)

-- One more wake, of at most 64.

pub wake_fits : (wakes : List (Option ℕ)) (wake : Option ℕ) (full : Bool) → full ≡ (length wakes == 64) → full ≡ false → length wakes ≤ 64 → wakes ++ wake ∷ [] ≡ with_wake wakes wake
wake_fits wakes wake full is room most =
    let few : length wakes < 64 = grind (arith, common_steps, is, room, most) in
    sym (take_all 64 (wakes ++ wake ∷ []) (omega (arith, few, length-append wakes (wake ∷ []))))

pub wake_over : (wakes : List (Option ℕ)) (wake : Option ℕ) (full : Bool) → full ≡ (length wakes == 64) → full ≡ true → wakes ≡ with_wake wakes wake
wake_over wakes wake full is over =
    let all : length wakes ≡ 64 = grind (arith, common_steps, is, over) in
    sym (ap (λ n. take n (wakes ++ wake ∷ [])) (sym all) ∙ take-append_seam wakes (wake ∷ []))

-- The wakes that are kept are the first 64.

take_twice : {A : Type 0} (n : ℕ) (xs ys : List A) → take n (take n xs ++ ys) ≡ take n (xs ++ ys)
take_twice zero xs ys = refl
take_twice (suc n) [] ys = refl
take_twice (suc n) (x ∷ xs) ys = ap (λ l. x ∷ l) (take_twice n xs ys)

one_wake : (wakes : List (Option ℕ)) (wake : Option ℕ) (more : List (Option ℕ)) → take 64 (with_wake wakes wake ++ more) ≡ take 64 (wakes ++ wake ∷ more)
one_wake wakes wake more = take_twice 64 (wakes ++ wake ∷ []) more ∙ ap (λ l. take 64 l) (append_assoc wakes (wake ∷ []) more)

pub wakes-kept : (wakes : List (Option ℕ)) (h : List Exchange) → length wakes ≤ 64 → wakes_kept wakes h ≡ take 64 (wakes ++ wakes_in h)
wakes-kept wakes [] few = sym (ap (λ l. take 64 l) (append-nil wakes) ∙ take_all 64 wakes few)
wakes-kept wakes (listened addr send_from well ∷ h) few = wakes-kept wakes h few
wakes-kept wakes (asked wake a ∷ h) few =
    let still : length (with_wake wakes wake) ≤ 64 = omega (arith, length-take 64 (wakes ++ wake ∷ [])) in
    wakes-kept (with_wake wakes wake) h still ∙ one_wake wakes wake (wakes_in h)
wakes-kept wakes (gathered e ∷ h) few = wakes-kept wakes h few
wakes-kept wakes (did x ∷ h) few = wakes-kept wakes h few
