-- One event more is handed out.
use Rattle.std.proofs.Common.{◌≡◌, ◌≢◌, ℕ, zero, suc, ◌+◌, ◌<◌, true, false, cond, ◌==◌, List, [], ◌∷◌, ◌++◌, length, slice_set, slice_index_or, refl, sym, ◌∙◌, ap, arith}
use Rattle.std.proofs.lemmas.Bool.Decides.{nat_tests}
use Rattle.std.specs.declared.option.Option.{Option}
use Rattle.std.specs.declared.option.Option.TheVariants.{None, Some}
use Rattle.dc_model.specs.Event.{Event, tick}
use Rattle.dc_engine.specs.Automaton.{Automaton}
use Rattle.dc_split.specs.Routing.{inner}
use Rattle.dc_split.specs.Split.{route}
use Rattle.dc_split.specs.Round.{Given, Hand, hands_of, given_to, givens_from, IsFree, AreApart, NoTick, TickFirst}
use Rattle.dc_shard.specs.Rounds.{cores_in, MayJoin}

same_place : (n k : ℕ) → n ≡ k → (n == k) ≡ true
same_place n k h = grind (arith, nat_tests)

other_place : (n k : ℕ) → n ≢ k → (n == k) ≡ false
other_place n k h = grind (arith, nat_tests)

-- What a core was handed, where one hand more comes last

last_here : (core : ℕ) (hs : List Hand) (h : Hand) → given_to core hs ≡ None → h.core ≡ core → given_to core (hs ++ h ∷ []) ≡ Some h.given
unfolding given_to
last_here core [] h none is = ap (λ t. cond t (Some h.given) None) (same_place h.core core is)
last_here core (x ∷ hs) h none is = elim (x.core == core) as (λ b. (x.core == core) ≡ b → given_to core (x ∷ (hs ++ h ∷ [])) ≡ Some h.given) [
  | true ↦ λ e. let no : Some x.given ≡ None = sym (ap (λ t. cond t (Some x.given) (given_to core hs)) e) ∙ none in cc
  | false ↦ λ e.
      let behind : given_to core hs ≡ None = sym (ap (λ t. cond t (Some x.given) (given_to core hs)) e) ∙ none in
      ap (λ t. cond t (Some x.given) (given_to core (hs ++ h ∷ []))) e ∙ last_here core hs h behind is
] refl

last_there : (core : ℕ) (hs : List Hand) (h : Hand) → h.core ≢ core → given_to core (hs ++ h ∷ []) ≡ given_to core hs
unfolding given_to
last_there core [] h away = ap (λ t. cond t (Some h.given) None) (other_place h.core core away)
last_there core (x ∷ hs) h away = ap (λ g. cond (x.core == core) (Some x.given) g) (last_there core hs h away)

-- What each core was handed

module _ {S : Type 0} where
  skip_last : (j : ℕ) (hs : List Hand) (h : Hand) (ss : List S) → h.core < j → givens_from j (hs ++ h ∷ []) ss ≡ givens_from j hs ss
  unfolding givens_from
  skip_last j hs h [] l = refl
  skip_last j hs h (s ∷ ss) l = λ i. last_there j hs h (λ e. omega (arith, e, l)) i ∷ skip_last (j + 1) hs h ss (omega (arith, l)) i

  givens_last_from : (j c : ℕ) (hs : List Hand) (h : Hand) (ss : List S) → c < length ss → h.core ≡ j + c → given_to h.core hs ≡ None
      → givens_from j (hs ++ h ∷ []) ss ≡ slice_set (givens_from j hs ss) c (Some h.given)
  unfolding givens_from
  givens_last_from j c hs h [] l at none = absurd (omega (arith, l))
  givens_last_from j zero hs h (s ∷ ss) l at none =
      let here : h.core ≡ j = omega (arith, at) in
      let free : given_to j hs ≡ None = ap (λ n. given_to n hs) (sym here) ∙ none in
      λ i. last_here j hs h free here i ∷ skip_last (j + 1) hs h ss (omega (arith, here)) i
  givens_last_from j (suc c) hs h (s ∷ ss) l at none =
      λ i. last_there j hs h (λ e. omega (arith, e, at)) i ∷ givens_last_from (j + 1) c hs h ss (omega (arith, l)) (omega (arith, at)) none i

  pub givens_last : (hs : List Hand) (h : Hand) (ss : List S) → h.core < length ss → given_to h.core hs ≡ None → givens_from 0 (hs ++ h ∷ []) ss ≡ slice_set (givens_from 0 hs ss) h.core (Some h.given)
  givens_last hs h ss l none = givens_last_from 0 h.core hs h ss l (omega arith) none

  givens_at_from : (j c : ℕ) (hs : List Hand) (ss : List S) (g : Option Given) → c < length ss → slice_index_or (givens_from j hs ss) c g ≡ given_to (j + c) hs
  unfolding givens_from
  givens_at_from j c hs [] g l = absurd (omega (arith, l))
  givens_at_from j zero hs (s ∷ ss) g l = let here : j ≡ j + 0 = omega arith in ap (λ n. given_to n hs) here
  givens_at_from j (suc c) hs (s ∷ ss) g l =
      let there : j + 1 + c ≡ j + suc c = omega arith in
      givens_at_from (j + 1) c hs ss g (omega (arith, l)) ∙ ap (λ n. given_to n hs) there

  pub givens_at : (c : ℕ) (hs : List Hand) (ss : List S) (g : Option Given) → c < length ss → slice_index_or (givens_from 0 hs ss) c g ≡ given_to c hs
  givens_at c hs ss g l = let same : 0 + c ≡ c = omega arith in givens_at_from 0 c hs ss g l ∙ ap (λ n. given_to n hs) same

-- A core that was handed nothing is free, and may be handed an event

pub none_free : (core : ℕ) (hs : List Hand) → given_to core hs ≡ None → IsFree core hs
unfolding given_to
none_free core [] none = tt
none_free core (x ∷ hs) none = elim (x.core == core) as (λ b. (x.core == core) ≡ b → IsFree core (x ∷ hs)) [
  | true ↦ λ e. absurd (some_none (sym (ap (λ t. cond t (Some x.given) (given_to core hs)) e) ∙ none))
  | false ↦ λ e. (
    λ same. absurd (true_false (sym (same_place x.core core same) ∙ e)),
    none_free core hs (sym (ap (λ t. cond t (Some x.given) (given_to core hs)) e) ∙ none),
  )
] refl
  where
    some_none : {g : Given} → Some g ≡ None → ⊥
    some_none e = cc

    true_false : true ≡ false → ⊥
    true_false e = cc

free_last : (core : ℕ) (hs : List Hand) (h : Hand) → IsFree core hs → h.core ≢ core → IsFree core (hs ++ h ∷ [])
free_last core [] h free away = (away, tt)
free_last core (x ∷ hs) h free away = (free.0, free_last core hs h free.1 away)

pub apart_last : (hs : List Hand) (h : Hand) → AreApart hs → IsFree h.core hs → AreApart (hs ++ h ∷ [])
apart_last [] h apart free = (tt, tt)
apart_last (x ∷ hs) h apart free = (free_last x.core hs h apart.0 (λ e. free.0 (sym e)), apart_last hs h apart.1 free.1)

no_tick_last : (es : List Event) (e : Event) → NoTick es → e.kind ≢ tick → NoTick (es ++ e ∷ [])
no_tick_last [] e h away = (away, tt)
no_tick_last (x ∷ es) e h away = (h.0, no_tick_last es e h.1 away)

pub first_last : (es : List Event) (e : Event) → TickFirst es → MayJoin es e → TickFirst (es ++ e ∷ [])
first_last [] e h may = tt
first_last (x ∷ es) e h may = no_tick_last es e h may

-- Hands of one event more

pub hands_last : {S : Type 0} (m : Automaton S) (ss : List S) (words : ℕ → List ℕ) (n : ℕ) (es : List Event) (e : Event)
    → hands_of m ss words n (es ++ e ∷ []) ≡ hands_of m ss words n es ++ record { core = route m ss e; given = record { event = inner (length ss) e; words = words (n + length es) } } ∷ []
unfolding hands_of
hands_last m ss words n [] e = let here : n ≡ n + 0 = omega arith in ap (λ k. record { core = route m ss e; given = record { event = inner (length ss) e; words = words k } } ∷ []) here
hands_last m ss words n (x ∷ es) e =
    let there : n + 1 + length es ≡ n + length (x ∷ es) = omega arith in
    ap (λ hs. record { core = route m ss x; given = record { event = inner (length ss) x; words = words n } } ∷ hs)
    (hands_last m ss words (n + 1) es e
    ∙ ap (λ k. hands_of m ss words (n + 1) es ++ record { core = route m ss e; given = record { event = inner (length ss) e; words = words k } } ∷ []) there)

pub cores_last : (hs : List Hand) (h : Hand) → cores_in (hs ++ h ∷ []) ≡ cores_in hs ++ h.core ∷ []
cores_last [] h = refl
cores_last (x ∷ hs) h = ap (λ cs. x.core ∷ cs) (cores_last hs h)
