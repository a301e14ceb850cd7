use Rattle.std.proofs.Common.{◌≡◌, ℕ, ◌<◌, ◌++◌, List, [], ◌∷◌, length, ap, sym, ◌∙◌, subst, arith, append_assoc}
use Rattle.std.specs.Prelude.{slice_index}
use Rattle.std.proofs.lemmas.List.{append-nil}
use Rattle.std.proofs.lemmas.Bool.Decides.{nat_tests}
use Rattle.dc_model.specs.Event.{Action}
use Rattle.dc_model.specs.Message.{Record}
use Rattle.dc_marks.specs.Places.{record_in}
use Rattle.dc_puts.specs.Order.{records_in}
use Rattle.dc_puts.specs.Held.{Holds}
use Rattle.dc_puts.specs.Told.{lines_for, items_for}
use Rattle.dc_puts.proofs.Telling.{records_next, sound_next, some_next, nil_is, lines_next, items_next, lines_none, items_none}
use Rattle.dc_puts.proofs.group.gather.Goals as goal

pub loop-rest-preserved : goal.loop-rest-preserved
loop-rest-preserved g c =
    let rest : List ℕ = c.loop-rest.rest.now in
    let more : List ℕ = c.behind-rest.result.now in
    let r : Record = record_in c.args.message.now (slice_index rest 0) in
    let s = c.args.shared.now in
    let some : 0 < length rest = grind (arith, nat_tests) in
    let recs : records_in c.args.message.now rest ≡ r ∷ records_in c.args.message.now more = records_next c.args.message.now rest more some c.behind-rest.ensures in
    record {
      sound = sound_next c.args.message.now rest more some c.behind-rest.ensures c.loop-rest.invariant.sound;
      some = some_next c.loop-rest.some c.take-counts.result s.kind r (records_in c.args.message.now more) (records_in c.args.message.now rest) _ c.take-counts.ensures.counts recs c.loop-rest.invariant.some;
      acts = λ after h. c.loop-rest.invariant.acts after
          (subst (λ (ls : List Action). g.O.Effects.acted c.loop-rest.out ls after) (sym (ap (lines_for s.server s.ttl s.kind s.owner) recs ∙ lines_next s.server s.ttl s.kind s.owner r (records_in c.args.message.now more)))
          (g.met.O.Effects.acted_both _ _ _ _ _ c.take-counts.ensures.acts h));
      body = λ xs h.
          let b = c.loop-rest.invariant.body xs h in (
            b.0 ++ items_for s.kind (r ∷ []),
            c.take-counts.ensures.body b.0 b.1,
            append_assoc b.0 (items_for s.kind (r ∷ [])) (items_for s.kind (records_in c.args.message.now more))
                ∙ ap (λ ys. b.0 ++ ys) (sym (ap (items_for s.kind) recs ∙ items_next s.kind r (records_in c.args.message.now more))) ∙ b.2,
          );
    }

pub returns-clause-acts : goal.returns-clause-acts
returns-clause-acts g c =
    let s = c.args.shared.now in
    let e : c.loop-rest.rest.now ≡ [] = nil_is c.loop-rest.rest.now (grind (arith, nat_tests)) in
    c.loop-rest.invariant.acts c.loop-rest.out
    (subst (λ (ls : List Action). g.O.Effects.acted c.loop-rest.out ls c.loop-rest.out) (sym (ap (λ is. lines_for s.server s.ttl s.kind s.owner (records_in c.args.message.now is)) e ∙ lines_none s.server s.ttl s.kind s.owner)) (g.met.O.Effects.acted_none _))

pub returns-clause-body : goal.returns-clause-body
returns-clause-body g c = λ xs h.
    let s = c.args.shared.now in
    let e : c.loop-rest.rest.now ≡ [] = nil_is c.loop-rest.rest.now (grind (arith, nat_tests)) in
    let b = c.loop-rest.invariant.body xs h in
    subst (Holds c.loop-rest.body) (sym (append-nil b.0) ∙ ap (λ ys. b.0 ++ ys) (sym (ap (λ is. items_for s.kind (records_in c.args.message.now is)) e ∙ items_none s.kind)) ∙ b.2) b.1
