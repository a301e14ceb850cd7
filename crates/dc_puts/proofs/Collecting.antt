-- The numbers of the first records of class IN.
use Rattle.std.proofs.Common.{◌≡◌, ℕ, ◌+◌, ◌<◌, ◌≤◌, true, false, cond, [], ◌∷◌, ◌++◌, length, take, refl, ◌∙◌, ap, arith}
use Rattle.std.proofs.lemmas.List.{take_more, take_all, length-take-le, append-nil}
use Rattle.dc_model.specs.Message.{Message, is_in}
use Rattle.dc_marks.specs.Places.{no_record, record_in}
use Rattle.dc_puts.specs.Order.{places_from}
use Rattle.dc_puts.proofs.Sorting.{places_more}

pub collect_more : (m : Message) (i : ℕ) → i < length m.records → places_from 0 (take (i + 1) m.records) ≡ places_from 0 (take i m.records) ++ cond (is_in (record_in m i)) (i ∷ []) []
collect_more m i h =
    let e : 0 + length (take i m.records) ≡ i = omega (arith, length-take-le i m.records (omega arith)) in
    ap (places_from 0) (take_more m.records i no_record h) ∙ places_more 0 (take i m.records) (record_in m i) ∙ ap (λ n. places_from 0 (take i m.records) ++ cond (is_in (record_in m i)) (n ∷ []) []) e

pub collect_in : (m : Message) (i : ℕ) → i < length m.records → is_in (record_in m i) ≡ true → places_from 0 (take (i + 1) m.records) ≡ places_from 0 (take i m.records) ++ i ∷ []
collect_in m i h e = collect_more m i h ∙ ap (λ b. places_from 0 (take i m.records) ++ cond b (i ∷ []) []) e

pub collect_out : (m : Message) (i : ℕ) → i < length m.records → is_in (record_in m i) ≡ false → places_from 0 (take (i + 1) m.records) ≡ places_from 0 (take i m.records)
collect_out m i h e = collect_more m i h ∙ ap (λ b. places_from 0 (take i m.records) ++ cond b (i ∷ []) []) e ∙ append-nil (places_from 0 (take i m.records))

pub collect_none : places_from 0 [] ≡ []
unfolding places_from
collect_none = refl

pub collect_all : (m : Message) (n : ℕ) → length m.records ≤ n → places_from 0 (take n m.records) ≡ places_from 0 m.records
collect_all m n h = ap (places_from 0) (take_all n m.records h)

pub ruleset collecting = (collect_in, collect_out, collect_none, collect_all)
