-- The row of the next server name, case by case.
use Rattle.std.proofs.Common.{◌≡◌, ℕ, Bool, ◌+◌, ◌-◌, subst, ◌≤◌, ◌<◌, true, false, List, [], ◌∷◌, length, refl, sym, ap, ◌∙◌, arith}
use Rattle.std.specs.Prelude.{if◌then◌else◌, nat_le}
use Rattle.std.proofs.lemmas.Bool.{le-leb, lt-leb}
use Rattle.dc_model.specs.Name.{Name}
use Rattle.dc_model.specs.Message.{kind_a}
use Rattle.dc_model.specs.Line.{line_tx}
use Rattle.dc_model.specs.Transmission.{Occasion, started}
use Rattle.dc_model.specs.Places.{all_empty}
use Rattle.dc_model.specs.Draws.{shuffled}
use Rattle.dc_machine.specs.Query.{Frame, Query, top, top_of, below, level_of, wanted_of, name_of, with_places, raised, with_hosts}
use Rattle.dc_machine.specs.Turn.{Setting, State, goes, row, next_row, next_by, ask_row, at_next, at_look, at_servfail}

by_hosts : (g : Setting) (s : State) (hosts : List Name) → (top_of s.query).hosts ≡ hosts → row g at_next s ≡ next_by hosts g s
unfolding row next_row
by_hosts g s hosts e = ap (λ x. next_by x g s) e

-- No server is known.
pub next_fails : (g : Setting) (s : State) → (top_of s.query).hosts ≡ [] → all_empty (top_of s.query).places ≡ true → row g at_next s ≡ goes s.query [] at_servfail
unfolding next_by
next_fails g s h e = by_hosts g s [] h ∙ rw e refl

-- The servers are asked.
pub next_asks : (g : Setting) (s : State) → (top_of s.query).hosts ≡ [] → all_empty (top_of s.query).places ≡ false → row g at_next s ≡ ask_row g s (shuffled g.draws (top_of s.query).places)
unfolding next_by
next_asks g s h e = by_hosts g s [] h ∙ rw e refl

top_counts : (fs : List Frame) → 0 < length fs → length (below fs) + 1 ≡ length fs
unfolding below
top_counts [] h = absurd (omega arith)
top_counts (f ∷ fs) h = omega arith

-- The frames stay as many.
levels_stay : (q q' : Query) (hosts : List Name) → q' ≡ with_hosts q hosts → 0 < length q.frames → length q'.frames ≡ length q.frames
levels_stay q q' hosts e h = ap (λ (x : Query). length x.frames) e ∙ omega (arith, top_counts q.frames h)

-- A name is left out.
pub next_leaves : (g : Setting) (s : State) (name : Name) (hosts : List Name) (q : Query) → (top_of s.query).hosts ≡ name ∷ hosts → q ≡ with_hosts s.query hosts → 0 < length s.query.frames → 5 ≤ length q.frames
    → row g at_next s ≡ goes (with_hosts s.query hosts) [] at_next
unfolding next_by
next_leaves g s name hosts q h e some k = by_hosts g s (name ∷ hosts) h ∙ rw (le-leb 5 (length s.query.frames) (omega (arith, levels_stay s.query q hosts e some))) refl

-- A name has a frame of its own.
pub next_raises : (g : Setting) (s : State) (name : Name) (hosts : List Name) (q : Query) → (top_of s.query).hosts ≡ name ∷ hosts → q ≡ with_hosts s.query hosts → 0 < length s.query.frames → length q.frames < 5
    → row g at_next s ≡ goes (raised (with_hosts s.query hosts) name) [] at_look
unfolding next_by
next_raises g s name hosts q h e some k = by_hosts g s (name ∷ hosts) h ∙ rw (lt-leb 5 (length s.query.frames) (omega (arith, levels_stay s.query q hosts e some))) refl

-- What is asked stays, where the places are put in another order.
pub record AsksSame (q' q : Query) : Type 0 where
  pub level : level_of q' ≡ level_of q
  pub wanted : wanted_of q' ≡ wanted_of q
  pub name : name_of q' ≡ name_of q
  pub control : (top_of q').control ≡ (top_of q).control

placed_same : (q : Query) (places : List (List ℕ)) → 0 < length q.frames → AsksSame (with_places q places) q
unfolding top
placed_same q places h =
    let e : length (with_places q places).frames ≡ length q.frames = omega (arith, top_counts q.frames h) in
    record {
      level = ap (λ n. n - 1) e;
      wanted = ap (λ n. if nat_le n 1 then q.request.kind else kind_a) e;
      name = refl;
      control = refl;
    }

pub asks_same : (q q' : Query) (places : List (List ℕ)) → 0 < length q.frames → q' ≡ with_places q places → AsksSame q' q
asks_same q q' places h e = subst (λ x. AsksSame x q) (sym e) (placed_same q places h)

-- The attempt is that of the same question.
pub started_same : (name name' : Name) (kind kind' : ℕ) (recursive : Bool) (servers servers' : List (List ℕ)) (o : Occasion) → name ≡ name' → kind ≡ kind' → servers ≡ servers'
    → started name kind recursive servers o ≡ started name' kind' recursive servers' o
started_same name name' kind kind' recursive servers servers' o e f h = rw (e, f, h) refl

pub line_same : (n n' kind kind' : ℕ) (name name' control control' : Name) (servers servers' : List (List ℕ)) → n ≡ n' → kind ≡ kind' → name ≡ name' → control ≡ control' → servers ≡ servers'
    → line_tx n kind name control servers ≡ line_tx n' kind' name' control' servers'
line_same n n' kind kind' name name' control control' servers servers' d e f h i = rw (d, e, f, h, i) refl
