use Rattle.std.proofs.Common.{◌≡◌, ℕ, Bool, true, List, refl, sym, subst, inl, inr}
use Rattle.std.proofs.lemmas.Bool.{false≢true}
use Rattle.dc_event.specs.Causes.{Fares}
use Rattle.dc_status.specs.Faults.{fault_of, sink_well}
use Rattle.dc_keep.proofs.save.save_where_ended.Goals as goal

-- All calls went well.
fares_well : {S : Type 0} (gained : S → List ℕ → S → Type 0) (refused : S → S → Type 0) (faults : S → ℕ) (well : Bool) (old new : S) → well ≡ true → faults new ≡ faults old → Fares gained refused faults well old new
fares_well gained refused faults well old new e h = subst (λ b. Fares gained refused faults b old new) (sym e) h

pub returns-then-not-has_ended-clause-leaves : goal.returns-then-not-has_ended-clause-leaves
returns-then-not-has_ended-clause-leaves g c =
    inr (inr (record { other = λ e. false≢true (c.if-not-has_ended.ensures.1 e); same = refl; nothing = g.met.O.Sink.gained_none _ }))

pub returns-then-not-has_ended-clause-fares : goal.returns-then-not-has_ended-clause-fares
returns-then-not-has_ended-clause-fares g c =
    fares_well g.O.Sink.gained g.O.Sink.refused g.O.Sink.faults (sink_well (fault_of c.args.status)) c.args.image.now c.args.image.now c.requires.unsaved refl

pub returns-in-Whole-clause-leaves : goal.returns-in-Whole-clause-leaves
returns-in-Whole-clause-leaves g c = inl (record { well = c.if-not-has_ended.ensures.0 refl; same = refl; saves = c.in-Whole.ensures.saves })

pub returns-in-Whole-clause-fares : goal.returns-in-Whole-clause-fares
returns-in-Whole-clause-fares g c =
    fares_well g.O.Sink.gained g.O.Sink.refused g.O.Sink.faults (sink_well (fault_of c.args.status)) c.args.image.now c.save_image.new.sink c.requires.unsaved c.in-Whole.ensures.fares

pub returns-in-Failed-clause-leaves : goal.returns-in-Failed-clause-leaves
returns-in-Failed-clause-leaves g c = inr (inl (record { well = c.if-not-has_ended.ensures.0 refl; fault = refl; saves = c.in-Failed.ensures.saves }))
