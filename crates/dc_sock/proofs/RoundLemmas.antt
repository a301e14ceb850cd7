-- Sources that are passed over, and calls in their turn.
use Rattle.std.specs.Prelude.{◌≡◌, ◌≤◌, ◌-◌, ◌^◌, ℕ, Bool, List, [], ◌∷◌, ◌++◌, refl}
use Rattle.std.proofs.Common.{inl, inr, sym, subst, ◌∙◌, ap, arith}
use Rattle.std.proofs.lemmas.Bool.Decides.{eqb_tells}
use Rattle.std.specs.declared.option.Option.{Option}
use Rattle.std.specs.declared.option.Option.TheVariants.{Some}
use Rattle.slab.specs.Slab.{Slab}
use Rattle.dc_system.specs.Call.{Call}
use Rattle.dc_system.specs.Call as call
use Rattle.dc_sock.specs.declared.link.Link.{Link}
use Rattle.dc_sock.specs.declared.seat.Seat.{Seat}
use Rattle.dc_sock.specs.Edge.{Edge, IsLate, IsVacant, PassesOver, Passes, QuietCall, QuietStep, Quiet}
use Rattle.dc_sock.specs.Place.{place_at, token_at}
use Rattle.dc_sock.specs.Ready.{Watched, without_token}
use Rattle.dc_sock.specs.Round.{Round, Takes, TakesOrTries, InTurn}

-- Only what is looked at in turn changes.
pub passes_same : (a b : Edge) → Passes a b → b ≡ record a { round = b.round }
passes_same a b p = p.1.1 ∙ ap (λ (r : Round). record a { round = r }) (sym (ap (λ (e : Edge). e.round) p.1.1))

pub no_pass : (a : Edge) → Passes a a
no_pass a = ([], (refl, refl))

over_both : (hears : Bool) (seats : List Seat) (links : Slab Link) (ts us : List ℕ) (w mid after : Watched) → PassesOver hears seats links ts w mid → PassesOver hears seats links us mid after → PassesOver hears seats links (ts ++ us) w after
over_both hears seats links [] us w mid after p q = subst (λ (x : Watched). PassesOver hears seats links us x after) p q
over_both hears seats links (t ∷ ts) us w mid after p q = (p.0, (p.1.0, over_both hears seats links ts us (without_token w) mid after p.1.1 q))

pub pass_both : (a m b : Edge) → Passes a m → Passes m b → Passes a b
pass_both a m b p q = (
  p.0 ++ q.0,
  (
    over_both a.hears a.seats a.links p.0 q.0 a.round.watch m.round.watch b.round.watch p.1.0
        (subst (λ (x : Edge). PassesOver x.hears x.seats x.links q.0 m.round.watch b.round.watch) p.1.1 q.1.0),
    q.1.1 ∙ ap (λ (x : Edge). record x { round = record x.round { watch = b.round.watch } }) p.1.1,
  ),
)

-- One source is passed over.
pub passed_over : (a b : Edge) (r : Round) (token : ℕ) → Takes a.round token r → IsVacant a.hears a.seats a.links (place_at token) → b ≡ record a { round = b.round } → b.round ≡ r → Passes a b
passed_over a b r token t v e q =
    let w : b.round.watch ≡ without_token a.round.watch = ap (λ (x : Round). x.watch) (q ∙ t.1) in (
      token ∷ [],
      (
        (t.0, (v, w)),
        e ∙ ap (λ (x : Round). record a { round = x }) (q ∙ (t.1 ∙ ap (λ (x : Watched). record a.round { watch = x }) (sym w))),
      ),
    )

module _ (wake : Option ℕ) where
  -- Quiet calls behind sources that are passed over.
  pub quiet_behind : (a m b : Edge) (xs : List Call) → Passes a m → Quiet wake m xs b → Quiet wake a xs b
  quiet_behind a m b [] p q = pass_both a m b p q
  quiet_behind a m b (x ∷ xs) p q = (q.0, ((q.1.0.0, (pass_both a m q.1.0.0 p q.1.0.1.0, q.1.0.1.1)), q.1.1))

  -- A quiet call in its turn.
  pub step_quiet : (a : Edge) (x : Call) (b : Edge) → QuietCall wake a x b → InTurn (IsLate a) a.round x b.round → QuietStep wake a x b
  step_quiet a x b q i = (a, (no_pass a, (q, i)))

  pub one_quiet : (a : Edge) (x : Call) (b : Edge) → QuietCall wake a x b → InTurn (IsLate a) a.round x b.round → Quiet wake a (x ∷ []) b
  one_quiet a x b q i = (b, (step_quiet a x b q i, no_pass b))

  -- The clock is read where all that is ready was asked for.
  pub now_step : (a : Edge) (answer : Option ℕ) → a.round.asking ≡ 0 → QuietStep wake a (call.now answer) (record a { clock = answer })
  now_step a answer asked = step_quiet a (call.now answer) (record a { clock = answer }) refl (asked, refl)

-- A source is taken as its token.
pub takes_here : (before r after : Round) (socket token : ℕ) → socket ≡ token → Takes before token r → after ≡ r → Takes before socket after
takes_here before r after socket token s t q = (t.0 ∙ ap (λ (n : ℕ). Some n) (sym s), q ∙ t.1)

-- Only the listener is tried out of turn.
pub in_turn : {late : Type 0} (before r : Round) (token : ℕ) → (token ≡ 1 → ⊥) → TakesOrTries late before token r → Takes before token r
in_turn {late} before r token far t = elim t [
  | inl taken ↦ taken
  | inr tried ↦ absurd (far tried.1.0)
]

-- The token of the source of a token.
pub token_again : (token : ℕ) → token ≤ 2 ^ 64 - 1 → token_at (place_at token) ≡ token
token_again token few = elim (eqb_tells token 0) [
  | inl here ↦ rw here.1 refl
  | inr away ↦ elim (eqb_tells token 1) [
    | inl one ↦ rw one.1 refl
    | inr far ↦ grind (arith)
  ]
]
