-- A machine follows what passes.
use Rattle.std.proofs.Common.{◌≡◌, ℕ, suc, ◌+◌, List, [], ◌∷◌, ◌++◌, length, refl, sym, ◌∙◌, ap, subst, arith, add-zero, append_assoc}
use Rattle.std.proofs.lemmas.List.{append-nil}
use Rattle.dc_model.specs.Event.{Event, Action}
use Rattle.dc_engine.specs.Automaton.{Automaton, state_after, actions_of}
use Rattle.dc_event.specs.History.{gave, ended, failed, bad, Exchange, listened, asked, gathered, did, done_all, events_in, actions_in}
use Rattle.dc_shard.specs.Follows.{Point, heard, heard_all, Follows}
use Rattle.dc_shard.specs.Rounds.{gathered_all}

module _ {S : Type 0} (m : Automaton S) (words : ℕ → List ℕ) where
  pub follows_both : (p q r : Point S) (g h : List Exchange) → Follows m words p g q → Follows m words q h r → Follows m words p (g ++ h) r
  unfolding Follows
  follows_both p q r [] h a b = subst (λ x. Follows m words x h r) a b
  follows_both p q r (listened addr send_from well ∷ g) h a b = absurd a
  follows_both p q r (asked wake (gave e) ∷ g) h a b = (a.0, (a.1.0, follows_both (heard m words p e) q r g h a.1.1 b))
  follows_both p q r (asked wake ended ∷ g) h a b = absurd a
  follows_both p q r (asked wake failed ∷ g) h a b = absurd a
  follows_both p q r (asked wake (bad line) ∷ g) h a b = absurd a
  follows_both p q r (gathered e ∷ g) h a b = follows_both (heard m words p e) q r g h a b
  follows_both p q r (did x ∷ g) h a b = (a.0, (a.1.0, follows_both (record p { due = a.0 }) q r g h a.1.1 b))

  pub follows_done : (n : ℕ) (s : S) (xs ys : List Action) → Follows m words (record { number = n; state = s; due = xs ++ ys }) (done_all xs) (record { number = n; state = s; due = ys })
  unfolding Follows
  follows_done n s [] ys = refl
  follows_done n s (x ∷ xs) ys = (xs ++ ys, (refl, follows_done n s xs ys))

  pub follows_gathered : (p : Point S) (es : List Event) → Follows m words p (gathered_all es) (heard_all m words p es)
  unfolding Follows
  follows_gathered p [] = refl
  follows_gathered p (e ∷ es) = follows_gathered (heard m words p e) es

  heard_append : (p : Point S) (xs ys : List Event) → heard_all m words p (xs ++ ys) ≡ heard_all m words (heard_all m words p xs) ys
  heard_append p [] ys = refl
  heard_append p (x ∷ xs) ys = heard_append (heard m words p x) xs ys

  heard_is : (n : ℕ) (s : S) (due : List Action) (es : List Event)
      → heard_all m words (record { number = n; state = s; due = due }) es ≡ record { number = n + length es; state = state_after m words n s es; due = due ++ actions_of m words n s es }
  heard_is n s due [] =
      let number : n ≡ n + 0 = omega arith in
      λ i. record { number = number i; state = s; due = sym (append-nil due) i }
  heard_is n s due (e ∷ es) =
      let number : n + 1 + length es ≡ n + length (e ∷ es) = omega arith in
      let t = m.next s e (words n) in
      heard_is (n + 1) t (due ++ m.actions s e (words n)) es
      ∙ (λ i. record { number = number i; state = state_after m words (n + 1) t es; due = append_assoc due (m.actions s e (words n)) (actions_of m words (n + 1) t es) i })

  -- Behind a round the actions of its events are done; those of an event that is held over are due next.
  pub follows_round : (n : ℕ) (s : S) (xs ys : List Event)
      → Follows m words (heard_all m words (record { number = n; state = s; due = [] }) (xs ++ ys)) (done_all (actions_of m words n s xs))
      (heard_all m words (record { number = n + length xs; state = state_after m words n s xs; due = [] }) ys)
  follows_round n s xs ys =
      let first : Point S = record { number = n; state = s; due = [] } in
      let k = n + length xs in
      let t = state_after m words n s xs in
      let acts = actions_of m words n s xs in
      let before : heard_all m words first (xs ++ ys) ≡ record { number = k + length ys; state = state_after m words k t ys; due = acts ++ actions_of m words k t ys } =
      heard_append first xs ys ∙ ap (λ p. heard_all m words p ys) (heard_is n s [] xs) ∙ heard_is k t acts ys in
      let after : heard_all m words (record { number = k; state = t; due = [] }) ys ≡ record { number = k + length ys; state = state_after m words k t ys; due = actions_of m words k t ys } =
      heard_is k t [] ys in
      subst (λ p. Follows m words p (done_all acts) (heard_all m words (record { number = k; state = t; due = [] }) ys)) (sym before)
      (subst (λ q. Follows m words (record { number = k + length ys; state = state_after m words k t ys; due = acts ++ actions_of m words k t ys }) (done_all acts) q) (sym after)
      (follows_done (k + length ys) (state_after m words k t ys) acts (actions_of m words k t ys)))

  -- As many events were handed out as the numbers say.
  pub follows_number : (p q : Point S) (h : List Exchange) → Follows m words p h q → q.number ≡ p.number + length (events_in h)
  unfolding Follows
  follows_number p q [] a = ap (λ x. x.number) a ∙ sym (add-zero p.number)
  follows_number p q (listened addr send_from well ∷ h) a = absurd a
  follows_number p q (asked wake (gave e) ∷ h) a = follows_number (heard m words p e) q h a.1.1 ∙ one_more p.number (events_in h)
    where
      one_more : (n : ℕ) (es : List Event) → n + 1 + length es ≡ n + suc (length es)
      one_more n es = omega arith
  follows_number p q (asked wake ended ∷ h) a = absurd a
  follows_number p q (asked wake failed ∷ h) a = absurd a
  follows_number p q (asked wake (bad line) ∷ h) a = absurd a
  follows_number p q (gathered e ∷ h) a = follows_number (heard m words p e) q h a ∙ further p.number (events_in h)
    where
      further : (n : ℕ) (es : List Event) → n + 1 + length es ≡ n + suc (length es)
      further n es = omega arith
  follows_number p q (did x ∷ h) a = follows_number (record p { due = a.0 }) q h a.1.1

  pub heard_number : (p : Point S) (es : List Event) → (heard_all m words p es).number ≡ p.number + length es
  heard_number p [] = sym (add-zero p.number)
  heard_number p (e ∷ es) = heard_number (heard m words p e) es ∙ next p.number es
    where
      next : (n : ℕ) (es : List Event) → n + 1 + length es ≡ n + suc (length es)
      next n es = omega arith

  -- Events, and others behind them.

  pub state_append : (n : ℕ) (s : S) (xs ys : List Event) → state_after m words n s (xs ++ ys) ≡ state_after m words (n + length xs) (state_after m words n s xs) ys
  state_append n s [] ys = ap (λ k. state_after m words k s ys) (sym (add-zero n))
  state_append n s (x ∷ xs) ys =
      let number : n + 1 + length xs ≡ n + length (x ∷ xs) = omega arith in
      state_append (n + 1) (m.next s x (words n)) xs ys ∙ ap (λ k. state_after m words k (state_after m words (n + 1) (m.next s x (words n)) xs) ys) number

  pub actions_append : (n : ℕ) (s : S) (xs ys : List Event) → actions_of m words n s (xs ++ ys) ≡ actions_of m words n s xs ++ actions_of m words (n + length xs) (state_after m words n s xs) ys
  actions_append n s [] ys = ap (λ k. actions_of m words k s ys) (sym (add-zero n))
  actions_append n s (x ∷ xs) ys =
      let number : n + 1 + length xs ≡ n + length (x ∷ xs) = omega arith in
      let t = m.next s x (words n) in
      ap (λ l. m.actions s x (words n) ++ l)
      (actions_append (n + 1) t xs ys ∙ ap (λ k. actions_of m words (n + 1) t xs ++ actions_of m words k (state_after m words (n + 1) t xs) ys) number)
      ∙ sym (append_assoc (m.actions s x (words n)) (actions_of m words (n + 1) t xs) (actions_of m words (n + length (x ∷ xs)) (state_after m words (n + 1) t xs) ys))

  -- The state of a point is that behind the events which were handed out.
  pub follows_comes : (p q : Point S) (h : List Exchange) → Follows m words p h q → q.state ≡ state_after m words p.number p.state (events_in h)
  unfolding Follows
  follows_comes p q [] a = ap (λ x. x.state) a
  follows_comes p q (listened addr send_from well ∷ h) a = absurd a
  follows_comes p q (asked wake (gave e) ∷ h) a = follows_comes (heard m words p e) q h a.1.1
  follows_comes p q (asked wake ended ∷ h) a = absurd a
  follows_comes p q (asked wake failed ∷ h) a = absurd a
  follows_comes p q (asked wake (bad line) ∷ h) a = absurd a
  follows_comes p q (gathered e ∷ h) a = follows_comes (heard m words p e) q h a
  follows_comes p q (did x ∷ h) a = follows_comes (record p { due = a.0 }) q h a.1.1

  -- What was done, with what is still due, is what was due and the actions of the events.
  pub follows_does : (p q : Point S) (h : List Exchange) → Follows m words p h q → actions_in h ++ q.due ≡ p.due ++ actions_of m words p.number p.state (events_in h)
  unfolding Follows
  follows_does p q [] a = ap (λ x. x.due) a ∙ sym (append-nil p.due)
  follows_does p q (listened addr send_from well ∷ h) a = absurd a
  follows_does p q (asked wake (gave e) ∷ h) a = follows_does (heard m words p e) q h a.1.1 ∙ append_assoc p.due (m.actions p.state e (words p.number)) _
  follows_does p q (asked wake ended ∷ h) a = absurd a
  follows_does p q (asked wake failed ∷ h) a = absurd a
  follows_does p q (asked wake (bad line) ∷ h) a = absurd a
  follows_does p q (gathered e ∷ h) a = follows_does (heard m words p e) q h a ∙ append_assoc p.due (m.actions p.state e (words p.number)) _
  follows_does p q (did x ∷ h) a =
      ap (λ l. x ∷ l) (follows_does (record p { due = a.0 }) q h a.1.1) ∙ ap (λ l. l ++ actions_of m words p.number p.state (events_in h)) (sym a.1.0)
