-- Words one after another.
use Rattle.std.proofs.Common.{◌≡◌, ℕ, ◌+◌, false, true≢false, List, [], ◌∷◌, ◌++◌, length, refl, ap, sym, ◌∙◌, subst, arith, append_assoc, add-zero}
use Rattle.std.specs.declared.option.Option.{Option}
use Rattle.std.specs.declared.option.Option.TheVariants.{None, Some}
use Rattle.dc_model.specs.Message.{Message, message_of}
use Rattle.dc_model.specs.Event.{Event, Action}
use Rattle.dc_model.specs.Transmission.{Progress, waiting, packet, failed, no_port, Accepted}
use Rattle.dc_engine.specs.Automaton.{state_after, GoesOn}
use Rattle.dc_event.specs.History.{Exchange, asked, gave, done_all}
use Rattle.dc_lookup.specs.Words.{Tool, Job}
use Rattle.dc_lookup.specs.Asking.{Asking, ask_step, ask_wake, is_over_by}
use Rattle.dc_lookup.specs.Lookup.{Lookup, Stage, asking, ended, Ending, complete, unanswered, portless, unreadable, written, goes_to, opened, shown_of, led_by, look_step, look_by, looked_by, has_ended, look_wake, lookup_after, WentOn}
use Rattle.dc_serve.specs.Serve.{each_passes}
use Rattle.dc_stub.specs.Stub.{Stub, stub_machine}
use Rattle.dc_stub.specs.Look.{look_passes}

-- A lookup that asks.
abbrev pub at_asking : Asking → List Job → Lookup → Lookup
at_asking a jobs l = record l { stage = asking a jobs }

-- A lookup behind a word's events.
abbrev pub behind_word : Tool → Asking → List Job → Lookup → Lookup
behind_word tool a jobs l = led_by a.stands tool a jobs l

pub not_over : (stands : Option Progress) (tool : Tool) (a : Asking) (jobs : List Job) (l : Lookup) → is_over_by stands ≡ false → led_by stands tool a jobs l ≡ at_asking a jobs l
unfolding led_by
not_over None tool a jobs l h = refl
not_over (Some (waiting t)) tool a jobs l h = refl
not_over (Some (packet p)) tool a jobs l h = absurd (true≢false h)
not_over (Some failed) tool a jobs l h = absurd (true≢false h)
not_over (Some no_port) tool a jobs l h = absurd (true≢false h)

module _ (tool : Tool) (words : ℕ → List ℕ) (jobs : List Job) (l : Lookup) where
  step_is : (a : Asking) (e : Event) (draws : List ℕ)
      → (look_step tool (at_asking a jobs l) e draws ≡ record { lookup = behind_word tool (ask_step a e draws).asking jobs (at_asking a jobs l); actions = (ask_step a e draws).actions })
  unfolding look_step look_by
  step_is a e draws = refl

  led_same : (stands : Option Progress) (a b : Asking) → led_by stands tool b jobs (at_asking a jobs l) ≡ led_by stands tool b jobs l
  unfolding led_by
  led_same None a b = refl
  led_same (Some (waiting t)) a b = refl
  led_same (Some (packet p)) a b = shown_same (message_of p.packet) p a b
    where
      shown_same : (m : Option Message) (p : Accepted) (a b : Asking) → shown_of m tool p b jobs (at_asking a jobs l) ≡ shown_of m tool p b jobs l
      shown_same None p a b = refl
      shown_same (Some m) p a b = refl
  led_same (Some failed) a b = refl
  led_same (Some no_port) a b = refl

  next_is : (a : Asking) (e : Event) (draws : List ℕ) → (look_step tool (at_asking a jobs l) e draws).lookup ≡ behind_word tool (ask_step a e draws).asking jobs l
  next_is a e draws = ap (λ (x : Rattle.dc_lookup.specs.Lookup.Looked). x.lookup) (step_is a e draws) ∙ led_same (ask_step a e draws).asking.stands a (ask_step a e draws).asking

  acts_is : (a : Asking) (e : Event) (draws : List ℕ) → (look_step tool (at_asking a jobs l) e draws).actions ≡ (ask_step a e draws).actions
  acts_is a e draws = ap (λ (x : Rattle.dc_lookup.specs.Lookup.Looked). x.actions) (step_is a e draws)

  -- The events of a word are those of its question.
  pub record Same (n : ℕ) (now : Lookup) (s : Stub) (es : List Event) : Type 0 where
    pub state : lookup_after tool words n now es ≡ behind_word tool (state_after stub_machine words n s es).asking jobs l
    pub passes : look_passes tool words n now es ≡ each_passes stub_machine words n s es
    pub went_on : WentOn tool words n now es

  -- From a stage that is led to by the question's.
  pub same_from : (n : ℕ) (s : Stub) (es : List Event) → GoesOn stub_machine words n s es → Same n (behind_word tool s.asking jobs l) s es
  unfolding lookup_after look_passes WentOn
  same_from n s [] on = record { state = refl; passes = refl; went_on = tt }
  same_from n s (e ∷ es) on =
      let from : Lookup = behind_word tool s.asking jobs l in
      let asks_on : behind_word tool s.asking jobs l ≡ at_asking s.asking jobs l = not_over s.asking.stands tool s.asking jobs l on.0 in
      let t = stub_machine.next s e (words n) in
      let later : Same (n + 1) (behind_word tool t.asking jobs l) t es = same_from (n + 1) t es on.1 in
      let moved : (look_step tool (behind_word tool s.asking jobs l) e (words n)).lookup ≡ behind_word tool t.asking jobs l =
      ap (λ (x : Lookup). (look_step tool x e (words n)).lookup) asks_on ∙ next_is s.asking e (words n) in
      let acted : (look_step tool (behind_word tool s.asking jobs l) e (words n)).actions ≡ (ask_step s.asking e (words n)).actions =
      ap (λ (x : Lookup). (look_step tool x e (words n)).actions) asks_on ∙ acts_is s.asking e (words n) in
      record {
        state = ap (λ (x : Lookup). lookup_after tool words (n + 1) x es) moved ∙ later.state;
        passes =
            ap (λ (x : Lookup). asked (look_wake from) (gave e) ∷ (done_all (look_step tool from e (words n)).actions ++ look_passes tool words (n + 1) x es)) moved
            ∙ ap (λ (x : List Action). asked (look_wake from) (gave e) ∷ (done_all x ++ look_passes tool words (n + 1) (behind_word tool t.asking jobs l) es)) acted
            ∙ ap (λ (x : Lookup). asked (look_wake x) (gave e) ∷ (done_all (ask_step s.asking e (words n)).actions ++ look_passes tool words (n + 1) (behind_word tool t.asking jobs l) es)) asks_on
            ∙ ap (λ (x : List Exchange). asked (ask_wake s.asking) (gave e) ∷ (done_all (ask_step s.asking e (words n)).actions ++ x)) later.passes;
        went_on = (ap (λ (x : Lookup). has_ended x) asks_on, subst (λ (x : Lookup). WentOn tool words (n + 1) x es) (sym moved) later.went_on);
      }

-- Events behind others
module _ (tool : Tool) (words : ℕ → List ℕ) where
  pub after_more : (n : ℕ) (l : Lookup) (es fs : List Event) → lookup_after tool words n l (es ++ fs) ≡ lookup_after tool words (n + length es) (lookup_after tool words n l es) fs
  unfolding lookup_after
  after_more n l [] fs = rw add-zero refl
  after_more n l (e ∷ es) fs =
      let q : n + 1 + length es ≡ n + length (e ∷ es) = omega arith in
      rw (← q) (after_more (n + 1) (look_step tool l e (words n)).lookup es fs)

  pub passes_more : (n : ℕ) (l : Lookup) (es fs : List Event)
      → look_passes tool words n l (es ++ fs) ≡ look_passes tool words n l es ++ look_passes tool words (n + length es) (lookup_after tool words n l es) fs
  unfolding lookup_after look_passes
  passes_more n l [] fs = rw add-zero refl
  passes_more n l (e ∷ es) fs =
      let q : n + 1 + length es ≡ n + length (e ∷ es) = omega arith in
      rw (append_assoc, ← q) (ap (λ x. asked (look_wake l) (gave e) ∷ (done_all (look_step tool l e (words n)).actions ++ x)) (passes_more (n + 1) (look_step tool l e (words n)).lookup es fs))

  pub went_more : (n : ℕ) (l : Lookup) (es fs : List Event) → WentOn tool words n l es → WentOn tool words (n + length es) (lookup_after tool words n l es) fs
      → WentOn tool words n l (es ++ fs)
  unfolding lookup_after WentOn
  went_more n l [] fs on more = let z : n + 0 ≡ n = omega arith in subst (λ k. WentOn tool words k l fs) z more
  went_more n l (e ∷ es) fs on more =
      let q : n + length (e ∷ es) ≡ n + 1 + length es = omega arith in
      (on.0, went_more (n + 1) (look_step tool l e (words n)).lookup es fs on.1 (subst (λ k. WentOn tool words k (lookup_after tool words (n + 1) (look_step tool l e (words n)).lookup es) fs) q more))
