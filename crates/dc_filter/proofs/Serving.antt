-- What the engine hears is what the filter hears.
use Rattle.std.proofs.Common.{◌≡◌, ℕ, ◌+◌, ◌≤◌, ◌⊎◌, inl, inr, arith, length, Bool, true, false, true≢false, List, [], ◌∷◌, ◌++◌, refl, ap, sym, ◌∙◌, subst}
use Rattle.std.specs.Prelude.{not}
use Rattle.dc_model.specs.Event.{Event}
use Rattle.dc_engine.specs.Automaton.{GoesOn}
use Rattle.dc_event.specs.History.{Exchange, asked, gave, done_all}
use Rattle.dc_lookup.specs.Filter.{Filter, Filtered, settled, filter_step, filter_after, filter_wake, FilterWentOn, hear_step, is_empty, is_waiting_at, waits_for_front, Progressed, fresh, asked as is_asked, done, Slot}
use Rattle.dc_lookup.specs.Laws.{IsSettled, IsWaiting, FrontWaits}
use Rattle.dc_lookup.proofs.FilterLemmas.{settled_stays}
use Rattle.dc_filter.specs.Sifter.{Sifter, filter_with, alone, has_heard, sifter_machine}
use Rattle.dc_filter.specs.Serving.{filter_passes, IsServed}
use Rattle.dc_filter.proofs.PlaceLemmas.{spread, hear_with, length_kept}

unless : (b : Bool) → not b ≡ false → b ≡ true
unless true h = refl
unless false h = absurd (true≢false h)

waiting_by : (at : Progressed) → is_waiting_at at ≡ true → IsWaiting at
waiting_by (fresh n) h = tt
waiting_by (is_asked a) h = tt
waiting_by (done text) h = absurd (true≢false (sym h))

front_by : (q : List Slot) → waits_for_front q ≡ true → FrontWaits q
front_by [] h = tt
front_by (s ∷ ss) h = waiting_by s.at h

not_empty : (q : List Slot) → waits_for_front q ≡ true → is_empty q ≡ false
not_empty [] h = absurd (true≢false (sym h))
not_empty (s ∷ ss) h = refl

end_by : (unread : List (List ℕ)) (room m n : ℕ) → n ≡ m → (unread ≡ []) ⊎ (room ≤ m) → (unread ≡ []) ⊎ (room ≤ n)
end_by unread room m n h (inl k) = inl k
end_by unread room m n h (inr k) = inr (omega (arith, h, k))

-- A settled filter stays so while its front waits.
settled_next : (s : Sifter) (written : List ℕ) (unread : List (List ℕ)) (e : Event) (draws : List ℕ) → IsSettled (filter_with s written unread)
    → waits_for_front (hear_step (alone s) e draws).filter.queue ≡ true → IsSettled (filter_with (has_heard (hear_step (alone s) e draws) s) written unread)
settled_next s written unread e draws h on = record {
  front = front_by (hear_step (alone s) e draws).filter.queue on;
  most = omega (arith, h.most, length_kept s e draws);
  end = end_by unread s.room (length s.queue) (length (hear_step (alone s) e draws).filter.queue) (length_kept s e draws) h.end;
}

-- What passes at one event.
abbrev passed_by : (words : ℕ → List ℕ) (n : ℕ) → Filter → Event → List Event → Filtered → List Exchange
passed_by words n f e es x = asked (filter_wake f) (gave e) ∷ (done_all x.actions ++ filter_passes words (n + 1) (settled x.filter) es)

pub served : (words : ℕ → List ℕ) (n : ℕ) (s : Sifter) (written : List ℕ) (unread : List (List ℕ)) (es : List Event)
    → IsSettled (filter_with s written unread) → GoesOn sifter_machine words n s es → IsServed words n s written unread es
unfolding filter_passes filter_step filter_after filter_wake FilterWentOn
served words n s written unread [] h on = record { passed = refl; state = sym (settled_stays (filter_with s written unread) h); went_on = tt; stays = λ on. h; many = refl; room = refl }
served words n s written unread (e ∷ []) h on =
    let f : Filter = filter_with s written unread in
    let step : hear_step f e (words n) ≡ spread s written unread (hear_step (alone s) e (words n)) = hear_with s written unread e (words n) in
    record {
      passed = sym (ap (λ (x : Filtered). passed_by words n f e [] x) step);
      state = ap (λ (x : Filtered). settled x.filter) step;
      went_on = (not_empty s.queue (unless (waits_for_front s.queue) on.0), tt);
      stays = λ now. settled_next s written unread e (words n) h now;
      many = length_kept s e (words n);
      room = refl;
    }
served words n s written unread (e ∷ d ∷ es) h on =
    let f : Filter = filter_with s written unread in
    let x : Filtered = hear_step (alone s) e (words n) in
    let t : Sifter = has_heard x s in
    let g : Filter = filter_with t written unread in
    let step : hear_step f e (words n) ≡ spread s written unread x = hear_with s written unread e (words n) in
    let so : IsSettled g = settled_next s written unread e (words n) h (unless (waits_for_front t.queue) on.1.0) in
    let same : settled g ≡ g = settled_stays g so in
    let more = served words (n + 1) t written unread (d ∷ es) so on.1 in
    record {
      passed =
          ap (λ (l : List Exchange). asked (filter_wake f) (gave e) ∷ (done_all x.actions ++ l)) more.passed
          ∙ sym (ap (λ (y : Filter). asked (filter_wake f) (gave e) ∷ (done_all x.actions ++ filter_passes words (n + 1) y (d ∷ es))) same)
          ∙ sym (ap (λ (y : Filtered). passed_by words n f e (d ∷ es) y) step);
      state =
          ap (λ (y : Filtered). filter_after words (n + 1) (settled y.filter) (d ∷ es)) step
          ∙ ap (λ (y : Filter). filter_after words (n + 1) y (d ∷ es)) same ∙ more.state;
      went_on = (
        not_empty s.queue (unless (waits_for_front s.queue) on.0),
        subst (λ (y : Filtered). FilterWentOn words (n + 1) (settled y.filter) (d ∷ es)) (sym step) (subst (λ (y : Filter). FilterWentOn words (n + 1) y (d ∷ es)) (sym same) more.went_on),
      );
      stays = more.stays;
      many = more.many ∙ length_kept s e (words n);
      room = more.room;
    }
