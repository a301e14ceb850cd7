use Rattle.std.proofs.Common.{◌≡◌, ℕ, List, ◌++◌, Option, Some, None, Bor, sym, ap, ◌∙◌}
use Rattle.std.specs.Prelude.{option_map}
use Rattle.dc_event.specs.Causes.{failed_behind}
use Rattle.dc_sieve.proofs.FlushLemmas.{one_flushed, all_flushed, part_flushed}
use Rattle.dc_sieve.proofs.settle.flush.Goals as goal

pub returns-in_default-clause-flushed : goal.returns-in_default-clause-flushed
returns-in_default-clause-flushed g c =
    all_flushed g.K.Sink.gained g.K.Sink.faults c.args.engine.now c.args.sink.now c.lines.engine c.lines.sink c.lines.invariant
    (sym c.front.ensures ∙ ap (λ (x : Option (Bor (List ℕ))). option_map (λ (b : Bor (List ℕ)). b.now) x) c.in_default.is)

pub returns-in-Failed-clause-flushed : goal.returns-in-Failed-clause-flushed
returns-in-Failed-clause-flushed g c =
    part_flushed g.K.Sink.gained g.K.Sink.faults g.met.K.Sink.gained_both c.args.engine.now c.args.sink.now c.lines.engine c.lines.sink c.put_all.new.sink c.in-Some.text.now c.lines.invariant
    (sym c.front.ensures ∙ ap (λ (x : Option (Bor (List ℕ))). option_map (λ (b : Bor (List ℕ)). b.now) x) c.in-Some.is) c.in-Failed.ensures.whole

pub returns-in-Failed-clause-fares : goal.returns-in-Failed-clause-fares
returns-in-Failed-clause-fares g c =
    let f = c.lines.invariant in
    failed_behind g.K.Sink.gained g.met.K.Sink.gained_both g.K.Sink.refused g.K.Sink.faults c.args.sink.now c.lines.sink c.put_all.new.sink f.text f.told f.well c.in-Failed.ensures.fares

pub lines-preserved : goal.lines-preserved
lines-preserved g c =
    one_flushed g.K.Sink.gained g.K.Sink.faults g.met.K.Sink.gained_both c.args.engine.now c.args.sink.now c.lines.engine c.lines.sink c.put_all.new.sink c.in-Some.text.now c.drop_front.new.self c.lines.invariant
    (sym c.front.ensures ∙ ap (λ (x : Option (Bor (List ℕ))). option_map (λ (b : Bor (List ℕ)). b.now) x) c.in-Some.is) c.in-Taken.ensures.whole.1 c.in-Taken.ensures.fares c.drop_front.ensures
