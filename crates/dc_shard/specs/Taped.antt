-- Actions that are kept in memory.
use Rattle.std.specs.Prelude.{◌≡◌, Bool, false, List, [], ◌++◌}
use Rattle.std.proofs.Common.{sym, ◌∙◌, ap, append_assoc}
use Rattle.std.proofs.lemmas.List.{append-nil}
use Rattle.dc_model.specs.Event.{Action}

-- A tape: whether it wanted for memory, and the actions that it holds. Where it did, they aren't all.
pub record Taped : Type 0 where
  pub short : Bool
  pub actions : List Action

-- A tape that holds nothing.
abbrev pub blank : Taped
blank = record { short = false; actions = [] }

-- These actions were given to a tape. Where it isn't short, it holds them behind those before.
abbrev pub Gains : Taped → List Action → Taped → Type 0
Gains old actions new = new.short ≡ false → (old.short ≡ false) × (new.actions ≡ old.actions ++ actions)

pub Gains-none : (a : Taped) → Gains a [] a
Gains-none a e = (e, sym (append-nil a.actions))

pub Gains-both : (a b c : Taped) (xs ys : List Action) → Gains a xs b → Gains b ys c → Gains a (xs ++ ys) c
Gains-both a b c xs ys p q e =
    let second = q e in
    let first = p second.0 in
    (first.0, second.1 ∙ ap (λ l. l ++ ys) first.1 ∙ append_assoc a.actions xs ys)
