-- What passes between the simulated world and its user.
use Rattle.std.specs.Prelude.{◌≡◌, true, List, [], ◌∷◌, ◌++◌, refl}
use Rattle.std.proofs.Common.{◌∙◌, ap, sym, subst}
use Rattle.std.specs.declared.option.Option.{Option}
use Rattle.std.specs.declared.option.Option.TheVariants.{Some, None}
use Rattle.dc_model.specs.Event.{Action}
use Rattle.dc_event.specs.History.{Answer, gave, ended, failed, bad, Exchange, listened, asked, gathered, done_all}
use Rattle.dc_event.specs.History as history
use Rattle.dc_simulation.specs.World.{World, Given, next, did, did_all}

-- These actions were done.
abbrev pub Acts : World → List Action → World → Type 0
Acts old as' new = new ≡ did_all as' old

pub Acts-none : (a : World) → Acts a [] a
unfolding did_all
Acts-none a = refl

all_both : (xs ys : List Action) (w : World) → did_all (xs ++ ys) w ≡ did_all ys (did_all xs w)
unfolding did_all
all_both [] ys w = refl
all_both (x ∷ xs) ys w = all_both xs ys (did x w)

pub Acts-both : (a b c : World) (xs ys : List Action) → Acts a xs b → Acts b ys c → Acts a (xs ++ ys) c
Acts-both a b c xs ys p q = q ∙ ap (λ (w : World). did_all ys w) p ∙ sym (all_both xs ys a)

-- What an answer to a question for an event says, where the definition gives this.
abbrev pub Says : Answer → Option Given → (old new : World) → Type 0
Says (gave e) given old new = given ≡ Some (record { event = e; world = new })
Says ended given old new = (given ≡ None) × (new ≡ old)
Says failed given old new = ⊥
Says (bad line) given old new = ⊥

-- One exchange. It listens everywhere, and gives no two events at once.
abbrev pub Does : Exchange → (old new : World) → Type 0
Does (listened addr send_from well) old new = (well ≡ true) × (new ≡ old)
Does (asked wake a) old new = Says a (next wake old) old new
Does (gathered e) old new = ⊥
Does (history.did a) old new = new ≡ did a old

-- And others behind it.
abbrev pub Passed : World → List Exchange → World → Type 0
Passed old [] new = new ≡ old
Passed old (x ∷ xs) new = (between : World) × (Does x old between × Passed between xs new)

pub Passed-none : (a : World) → Passed a [] a
Passed-none a = refl

pub Passed-both : (a b c : World) (xs ys : List Exchange) → Passed a xs b → Passed b ys c → Passed a (xs ++ ys) c
Passed-both a b c [] ys p q = subst (λ (w : World). Passed w ys c) p q
Passed-both a b c (x ∷ xs) ys p q = (p.0, (p.1.0, Passed-both p.0 b c xs ys p.1.1 q))

pub Passed-acts : (a b : World) (xs : List Action) → Acts a xs b → Passed a (done_all xs) b
unfolding did_all
Passed-acts a b [] h = h
Passed-acts a b (x ∷ xs) h = (did x a, (refl, Passed-acts (did x a) b xs h))
