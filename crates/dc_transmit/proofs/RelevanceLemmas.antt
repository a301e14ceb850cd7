-- Which packets are relevant.
use Rattle.std.proofs.Common.{◌≡◌, ℕ, ◌≤◌, ◌<◌, ◌≢◌, true, false, ◌&&◌, nat_le, nat_eq, List, length, Option, Some, None, sym, ◌∙◌, ap}
use Rattle.dc_model.specs.Name.{same}
use Rattle.dc_model.specs.Message.{u16_at, question_of, QuestionRead, class_in}
use Rattle.dc_model.specs.Transmission.{Attempt, asks_for, is_relevant}
use Rattle.dc_transmit.proofs.TestLemmas.{leb_below, leb_above, eq_no, eq_yes, and_left_no, and_right_no}

pub relevant_short : (a : Attempt) (bytes : List ℕ) → length bytes < 12 → is_relevant a bytes ≡ false
unfolding is_relevant
relevant_short a bytes h = and_left_no (nat_le 12 (length bytes)) (nat_eq (u16_at bytes 0) a.id && asks_for a (question_of bytes)) (leb_below 12 (length bytes) h)

pub relevant_other : (a : Attempt) (bytes : List ℕ) (id : ℕ) → id ≡ u16_at bytes 0 → id ≢ a.id → is_relevant a bytes ≡ false
unfolding is_relevant
relevant_other a bytes id e h =
    and_right_no (nat_le 12 (length bytes)) (nat_eq (u16_at bytes 0) a.id && asks_for a (question_of bytes))
    (and_left_no (nat_eq (u16_at bytes 0) a.id) (asks_for a (question_of bytes)) (ap (λ k. nat_eq k a.id) (sym e) ∙ eq_no id a.id h))

pub relevant_asked : (a : Attempt) (bytes : List ℕ) (id : ℕ) (q : Option QuestionRead) → 12 ≤ length bytes → id ≡ u16_at bytes 0 → id ≡ a.id → q ≡ question_of bytes
    → is_relevant a bytes ≡ asks_for a q
unfolding is_relevant
relevant_asked a bytes id q l e h k =
    ap (λ b. b && (nat_eq (u16_at bytes 0) a.id && asks_for a (question_of bytes))) (leb_above 12 (length bytes) l)
    ∙ (ap (λ b. b && asks_for a (question_of bytes)) (ap (λ n. nat_eq n a.id) (sym e) ∙ eq_yes id a.id h)
    ∙ ap (λ x. asks_for a x) (sym k))

pub asks_other : (a : Attempt) (q : QuestionRead) → same q.question.name a.name ≡ false → false ≡ asks_for a (Some q)
unfolding asks_for
asks_other a q h = sym (and_left_no (same q.question.name a.name) (nat_eq q.question.kind a.kind && nat_eq q.question.class class_in) h)

asks_same : (a : Attempt) (q : QuestionRead) → same q.question.name a.name ≡ true → asks_for a (Some q) ≡ (nat_eq q.question.kind a.kind && nat_eq q.question.class class_in)
unfolding asks_for
asks_same a q h = ap (λ b. b && (nat_eq q.question.kind a.kind && nat_eq q.question.class class_in)) h

pub asks_kind : (a : Attempt) (q : QuestionRead) → same q.question.name a.name ≡ true → q.question.kind ≡ a.kind → nat_eq q.question.class class_in ≡ asks_for a (Some q)
asks_kind a q h k = sym (asks_same a q h ∙ ap (λ b. b && nat_eq q.question.class class_in) (eq_yes q.question.kind a.kind k))

pub asks_other_kind : (a : Attempt) (q : QuestionRead) → same q.question.name a.name ≡ true → q.question.kind ≢ a.kind → nat_eq q.question.kind a.kind ≡ asks_for a (Some q)
asks_other_kind a q h k =
    let no : nat_eq q.question.kind a.kind ≡ false = eq_no q.question.kind a.kind k in
    no ∙ sym (asks_same a q h ∙ ap (λ b. b && nat_eq q.question.class class_in) no)

pub relevant_none : (a : Attempt) (bytes : List ℕ) (id : ℕ) → 12 ≤ length bytes → id ≡ u16_at bytes 0 → id ≡ a.id → None ≡ question_of bytes → false ≡ is_relevant a bytes
unfolding asks_for
relevant_none a bytes id l e h k = sym (relevant_asked a bytes id None l e h k)
