-- One core makes its step alone.
use Rattle.std.proofs.Common.{◌≡◌, ℕ, zero, suc, ◌+◌, ◌^◌, ◌<◌, ◌≤◌, Bool, true, false, List, [], ◌∷◌, ◌++◌, length, slice_set, slice_index_or, refl, sym, ◌∙◌, ap, subst, arith}
use Rattle.std.proofs.lemmas.List.{append-nil}
use Rattle.dc_model.specs.Event.{Action}
use Rattle.dc_engine.specs.Automaton.{Automaton}
use Rattle.dc_split.specs.Routing.{all_outer}
use Rattle.dc_split.specs.Round.{done_by}
use Rattle.dc_shard.specs.declared.bay.Bay.{Bay}
use Rattle.dc_shard.specs.Bays.{given_if, outs_of, states_of, Stepped, SteppedEach, AreFree, one_if, count_given, MayStep, MayStepEach}
use Rattle.dc_shard.specs.Taped.{Taped, Gains, Gains-none, blank}
use Rattle.dc_shard.specs.Rounds.{AreBlank, AreWhole, Cleared, held_at, played_by}
use Rattle.dc_shard.specs.Acting.{ActsInOrder, ActsAlone}
use Rattle.dc_shard.proofs.BayLemmas.{held_is}

-- Places of a list.

set_at : {A : Type 0} (xs : List A) (i : ℕ) (a d : A) → i < length xs → slice_index_or (slice_set xs i a) i d ≡ a
set_at [] i a d l = absurd (omega (arith, l))
set_at (x ∷ xs) zero a d l = refl
set_at (x ∷ xs) (suc i) a d l = set_at xs i a d (omega (arith, l))

pub set_len : {A : Type 0} (xs : List A) (i : ℕ) (a : A) → length (slice_set xs i a) ≡ length xs
set_len [] i a = refl
set_len (x ∷ xs) zero a = refl
set_len (x ∷ xs) (suc i) a = ap suc (set_len xs i a)

pub any_default : {A : Type 0} (xs : List A) (i : ℕ) (d e : A) → i < length xs → slice_index_or xs i d ≡ slice_index_or xs i e
any_default [] i d e l = absurd (omega (arith, l))
any_default (x ∷ xs) zero d e l = refl
any_default (x ∷ xs) (suc i) d e l = any_default xs i d e (omega (arith, l))

pub empty_length : {A : Type 0} (xs : List A) → length xs ≡ 0 → xs ≡ []
empty_length [] e = refl
empty_length (x ∷ xs) e = absurd (omega (arith, e))

pub given_any : {E O : Type 0} (bs : List (Bay E O)) (i : ℕ) (x e : Bay E O) → i < length bs → x ≡ slice_index_or bs i e → x.given ≡ true → (d : Bay E O) → (slice_index_or bs i d).given ≡ true
given_any bs i x e l is given d = ap (λ b. b.given) (any_default bs i d e l ∙ sym is) ∙ given

-- A bay that was given an event is the only one, where there is one.

at_least : {E O : Type 0} (bs : List (Bay E O)) (i : ℕ) (d : Bay E O) → i < length bs → (slice_index_or bs i d).given ≡ true → 1 ≤ count_given bs
at_least [] i d l g = absurd (omega (arith, l))
at_least (x ∷ xs) zero d l g = let one : one_if x.given ≡ 1 = ap one_if g in omega (arith, one)
at_least (x ∷ xs) (suc i) d l g = omega (arith, at_least xs i d (omega (arith, l)) g)

not_given : (b : Bool) → one_if b ≡ 0 → b ≡ false
not_given true e = absurd (omega (arith, e))
not_given false e = refl

none_given : {E O : Type 0} (bs : List (Bay E O)) → count_given bs ≡ 0 → AreFree bs
none_given [] e = tt
none_given (x ∷ xs) e = (not_given x.given (omega (arith, e)), none_given xs (omega (arith, e)))

module _ {E S : Type 0} (m : Automaton S) (state : E → S) where
  still : (cores core : ℕ) (b : Bay E Taped) → b.given ≡ false → Stepped Gains m state cores core b b
  unfolding done_by
  still cores core b e =
      let same : done_by m (state b.core) (given_if b.given b.inbox b.draws) ≡ record { state = state b.core; actions = [] } = ap (λ g. done_by m (state b.core) (given_if g b.inbox b.draws)) e in
      record {
        moved = sym (ap (λ x. x.state) same);
        free = e;
        acts = subst (λ xs. Gains b.out (all_outer cores core xs) b.out) (sym (ap (λ x. x.actions) same)) (Gains-none b.out);
      }

  all_still : (cores from : ℕ) (bs : List (Bay E Taped)) → AreFree bs → SteppedEach Gains m state cores from bs bs
  all_still cores from [] h = tt
  all_still cores from (x ∷ xs) h = (still cores from x h.0, all_still cores (from + 1) xs h.1)

  one_moves : (cores from i : ℕ) (bs : List (Bay E Taped)) (b : Bay E Taped) → i < length bs → count_given bs ≡ 1
      → ((d : Bay E Taped) → (slice_index_or bs i d).given ≡ true) → ((d : Bay E Taped) → Stepped Gains m state cores (from + i) (slice_index_or bs i d) b)
      → SteppedEach Gains m state cores from bs (slice_set bs i b)
  one_moves cores from i [] b l count given moves = absurd (omega (arith, l))
  one_moves cores from zero (x ∷ xs) b l count given moves =
      let here : from + 0 ≡ from = omega arith in
      let one : one_if x.given ≡ 1 = ap one_if (given x) in
      (subst (λ n. Stepped Gains m state cores n x b) here (moves x), all_still cores (from + 1) xs (none_given xs (omega (arith, count, one))))
  one_moves cores from (suc i) (x ∷ xs) b l count given moves =
      let there : from + suc i ≡ from + 1 + i = omega arith in
      let some = at_least xs i x (omega (arith, l)) (given x) in (
        still cores from x (not_given x.given (omega (arith, count, some))),
        one_moves cores (from + 1) i xs b (omega (arith, l)) (omega (arith, count, some)) given (λ d. subst (λ n. Stepped Gains m state cores n (slice_index_or xs i d) b) there (moves d)),
      )

  -- The tape that the core would have kept.
  abbrev taped : (cores core : ℕ) (old new : Bay E Taped) → Bay E Taped
  taped cores core old new = record new { out = record { short = false; actions = all_outer cores core (m.actions (state old.core) old.inbox old.draws) } }

  whole_set : (bs : List (Bay E Taped)) (i : ℕ) (b : Bay E Taped) → AreBlank (outs_of bs) → b.out.short ≡ false → AreWhole (outs_of (slice_set bs i b))
  whole_set [] i b h e = tt
  whole_set (x ∷ xs) zero b h e = (e, all_whole xs h.1)
    where
      all_whole : (bs : List (Bay E Taped)) → AreBlank (outs_of bs) → AreWhole (outs_of bs)
      all_whole [] h = tt
      all_whole (x ∷ xs) h = (ap (λ t. t.short) h.0, all_whole xs h.1)
  whole_set (x ∷ xs) (suc i) b h e = (ap (λ t. t.short) h.0, whole_set xs i b h.1 e)

  cleared_still : (bs : List (Bay E Taped)) → AreBlank (outs_of bs) → Cleared bs bs
  cleared_still [] h = tt
  cleared_still (x ∷ xs) h = (ap (λ t. record x { out = t }) h.0, cleared_still xs h.1)

  cleared_set : (bs : List (Bay E Taped)) (i : ℕ) (b c : Bay E Taped) → AreBlank (outs_of bs) → c ≡ record b { out = blank } → Cleared (slice_set bs i b) (slice_set bs i c)
  cleared_set [] i b c h e = tt
  cleared_set (x ∷ xs) zero b c h e = (e, cleared_still xs h.1)
  cleared_set (x ∷ xs) (suc i) b c h e = (ap (λ t. record x { out = t }) h.0, cleared_set xs i b c h.1 e)

  blank_at : (bs : List (Bay E Taped)) (i : ℕ) (d : Bay E Taped) → i < length bs → AreBlank (outs_of bs) → (slice_index_or bs i d).out ≡ blank
  blank_at [] i d l h = absurd (omega (arith, l))
  blank_at (x ∷ xs) zero d l h = h.0
  blank_at (x ∷ xs) (suc i) d l h = blank_at xs i d (omega (arith, l)) h.1

  moved_by : (cores core : ℕ) (old b : Bay E Taped) → old.given ≡ true → old.out ≡ blank → state b.core ≡ m.next (state old.core) old.inbox old.draws → b.given ≡ false
      → Stepped Gains m state cores core old (taped cores core old b)
  unfolding done_by
  moved_by cores core old b given out moved free =
      let same : done_by m (state old.core) (given_if old.given old.inbox old.draws) ≡ record { state = m.next (state old.core) old.inbox old.draws; actions = m.actions (state old.core) old.inbox old.draws } =
      ap (λ g. done_by m (state old.core) (given_if g old.inbox old.draws)) given in
      record {
        moved = moved ∙ sym (ap (λ x. x.state) same);
        free = free;
        acts = λ e. (ap (λ t. t.short) out, ap (λ xs. all_outer cores core xs) (sym (ap (λ x. x.actions) same)) ∙ ap (λ t. t.actions ++ all_outer cores core (done_by m (state old.core) (given_if old.given old.inbox old.draws)).actions) (sym out));
      }

  pub alone_acts : {W : Type 0} (acted : W → List Action → W → Type 0) (core : ℕ) (old : List (Bay E Taped)) (b : Bay E Taped) (before after : W)
      → core < length old → count_given old ≡ 1 → AreBlank (outs_of old) → ((d : Bay E Taped) → (slice_index_or old core d).given ≡ true)
      → ((d : Bay E Taped) → ActsAlone acted m state (length old) core (slice_index_or old core d) b before after)
      → ActsInOrder acted m state (core ∷ []) old (slice_set old core b) before after
  alone_acts acted core [] b before after l count none given acts = absurd (omega (arith, l))
  alone_acts acted core (x ∷ xs) b before after l count none given acts =
      let bs = x ∷ xs in
      let at = slice_index_or bs core x in
      let cores = length bs in
      let t = taped cores core at b in
      let free = (acts x).free in
      let out = (acts x).out ∙ blank_at bs core x l none in
      let held : played_by (outs_of (slice_set bs core t)) (core ∷ []) ≡ t.out.actions =
      append-nil (held_at core (outs_of (slice_set bs core t))) ∙ held_is (slice_set bs core t) core x (subst (λ n. core < n) (sym (set_len bs core t)) l) ∙ ap (λ y. y.out.actions) (set_at bs core t x l) in
      record {
        taped = slice_set bs core t;
        stepped = one_moves cores 0 core bs t l count given (λ d. moves d);
        whole = whole_set bs core t none refl;
        acts = subst (λ ys. acted before ys after) (sym held) (acts x).acts;
        cleared = cleared_set bs core t b none (ap (λ o. record b { out = o }) out);
      }
    where
      moves : (d : Bay E Taped) → Stepped Gains m state (length (x ∷ xs)) (0 + core) (slice_index_or (x ∷ xs) core d) (taped (length (x ∷ xs)) core (slice_index_or (x ∷ xs) core x) b)
      moves d =
          let at = slice_index_or (x ∷ xs) core x in
          let here : core ≡ 0 + core = omega arith in
          subst (λ n. Stepped Gains m state (length (x ∷ xs)) n (slice_index_or (x ∷ xs) core d) (taped (length (x ∷ xs)) core at b)) here
          (subst (λ o. Stepped Gains m state (length (x ∷ xs)) core o (taped (length (x ∷ xs)) core at b)) (any_default (x ∷ xs) core x d l)
          (moved_by (length (x ∷ xs)) core at b (given x) (blank_at (x ∷ xs) core x l none) (acts x).moved (acts x).free))

  pub may_at : (n : ℕ) (bs : List (Bay E Taped)) (i : ℕ) (d : Bay E Taped) → i < length bs → MayStepEach m n (states_of state bs) → MayStep m n (state (slice_index_or bs i d).core)
  may_at n [] i d l h = absurd (omega (arith, l))
  may_at n (x ∷ xs) zero d l h = h.0
  may_at n (x ∷ xs) (suc i) d l h = may_at n xs i d (omega (arith, l)) h.1

  pub may_here : (bs : List (Bay E Taped)) (i : ℕ) (x d : Bay E Taped) → i < length bs → x ≡ slice_index_or bs i d → MayStepEach m 1 (states_of state bs) → m.handled (state x.core) + 1 ≤ 2 ^ 60
  may_here bs i x d l is h = subst (λ b. m.handled (state b.core) + 1 ≤ 2 ^ 60) (sym is) (may_at 1 bs i d l h)

  pub alone_here : {W : Type 0} (acted : W → List Action → W → Type 0) (bs : List (Bay E Taped)) (i : ℕ) (x e new : Bay E Taped) (cores : ℕ) (before after : W) → i < length bs → x ≡ slice_index_or bs i e
      → cores ≡ length bs → ActsAlone acted m state cores i x new before after → (d : Bay E Taped) → ActsAlone acted m state (length bs) i (slice_index_or bs i d) new before after
  alone_here acted bs i x e new cores before after l is n acts d =
      subst (λ k. ActsAlone acted m state k i (slice_index_or bs i d) new before after) n
      (subst (λ o. ActsAlone acted m state cores i o new before after) (is ∙ any_default bs i e d l) acts)
