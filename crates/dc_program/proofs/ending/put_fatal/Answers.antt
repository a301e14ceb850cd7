use Rattle.std.proofs.Common.{[], ◌∷◌, ◌++◌, codes}
use Rattle.dc_program.specs.Texts.{fatal}
use Rattle.dc_program.proofs.Putting.{went_then, went_not}
use Rattle.dc_program.proofs.ending.put_fatal.Goals as goal

pub returns-then-not-put : goal.returns-then-not-put
unfolding fatal
returns-then-not-put g c =
    let w = went_not g.K.Sink.gained g.K.Sink.refused g.K.Sink.faults _ _ (codes "dnscache: fatal: ") (c.args.words.now ++ (c.args.about.now ++ (10 ∷ []))) c.if-not-put.ensures.puts c.if-not-put.ensures.fares in
    record { puts = w.puts; fares = w.fares }

pub returns-then-not-put-2 : goal.returns-then-not-put-2
unfolding fatal
returns-then-not-put-2 g c =
    let w = went_then g.K.Sink.gained g.met.K.Sink.gained_both g.K.Sink.refused g.K.Sink.faults _ _ _ _ (codes "dnscache: fatal: ") (c.args.words.now ++ (c.args.about.now ++ (10 ∷ []))) c.if-not-put.ensures.puts c.if-not-put.ensures.fares
    (went_not g.K.Sink.gained g.K.Sink.refused g.K.Sink.faults _ _ c.args.words.now (c.args.about.now ++ (10 ∷ [])) c.if-not-put-2.ensures.puts c.if-not-put-2.ensures.fares) in
    record { puts = w.puts; fares = w.fares }

pub returns-then-not-put-3 : goal.returns-then-not-put-3
unfolding fatal
returns-then-not-put-3 g c =
    let w = went_then g.K.Sink.gained g.met.K.Sink.gained_both g.K.Sink.refused g.K.Sink.faults _ _ _ _ (codes "dnscache: fatal: ") (c.args.words.now ++ (c.args.about.now ++ (10 ∷ []))) c.if-not-put.ensures.puts c.if-not-put.ensures.fares
    (went_then g.K.Sink.gained g.met.K.Sink.gained_both g.K.Sink.refused g.K.Sink.faults _ _ _ _ c.args.words.now (c.args.about.now ++ (10 ∷ [])) c.if-not-put-2.ensures.puts c.if-not-put-2.ensures.fares
    (went_not g.K.Sink.gained g.K.Sink.refused g.K.Sink.faults _ _ c.args.about.now (10 ∷ []) c.if-not-put-3.ensures.puts c.if-not-put-3.ensures.fares)) in
    record { puts = w.puts; fares = w.fares }

pub returns : goal.returns
unfolding fatal
returns g c =
    let w = went_then g.K.Sink.gained g.met.K.Sink.gained_both g.K.Sink.refused g.K.Sink.faults _ _ _ _ (codes "dnscache: fatal: ") (c.args.words.now ++ (c.args.about.now ++ (10 ∷ []))) c.if-not-put.ensures.puts c.if-not-put.ensures.fares
    (went_then g.K.Sink.gained g.met.K.Sink.gained_both g.K.Sink.refused g.K.Sink.faults _ _ _ _ c.args.words.now (c.args.about.now ++ (10 ∷ [])) c.if-not-put-2.ensures.puts c.if-not-put-2.ensures.fares
    (went_then g.K.Sink.gained g.met.K.Sink.gained_both g.K.Sink.refused g.K.Sink.faults _ _ _ _ c.args.about.now (10 ∷ []) c.if-not-put-3.ensures.puts c.if-not-put-3.ensures.fares
    (record { puts = c.put-4.ensures.puts; fares = c.put-4.ensures.fares }))) in
    record { puts = w.puts; fares = w.fares }
