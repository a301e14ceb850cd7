use Rattle.std.proofs.Common.{◌≡◌, ◌++◌, ◌∷◌, [], ◌<◌, ◌≤◌, ◌+◌, ℕ, List, length, true, false, true≢false, sym, ap, ◌∙◌, arith}
use Rattle.dc_event.specs.Causes.{failed_behind}
use Rattle.dc_lookup.specs.Filter.{read}
use Rattle.dc_sieve.proofs.GoingLemmas.{with_queue}
use Rattle.dc_sieve.proofs.SettleLemmas.{settling_begins, flush_step, front_waits, read_step, room_by, settled_full, settled_end, settled_unread, settled_unwritten, settled_long}
use Rattle.dc_sieve.proofs.settle.settle.Goals as goal

pub settling-init : goal.settling-init
settling-init g c = settling_begins g.S.Source.took g.S.Source.left g.K.Sink.gained g.S.Source.faults g.K.Sink.faults g.met.S.Source.took_both g.met.K.Sink.gained_both c.args.engine.now c.args.input.now c.args.source.now c.args.sink.now (g.met.S.Source.took_none c.args.source.now) (g.met.K.Sink.gained_none c.args.sink.now) c.requires.within c.requires.few c.requires.end

pub returns-in-Failed-clause-settled : goal.returns-in-Failed-clause-settled
returns-in-Failed-clause-settled g c = settled_unwritten g.S.Source.took g.S.Source.left g.K.Sink.gained g.S.Source.faults g.K.Sink.faults g.met.S.Source.took_both g.met.K.Sink.gained_both c.args.engine.now c.args.input.now c.args.source.now c.args.sink.now c.settling.engine c.settling.input c.settling.source c.settling.sink c.flush.new.sink c.flush.new.engine c.settling.invariant c.in-Failed.ensures.flushed

pub returns-in-Failed-clause-few : goal.returns-in-Failed-clause-few
returns-in-Failed-clause-few g c = c.settling.invariant.few

pub returns-in-Failed-clause-end : goal.returns-in-Failed-clause-end
returns-in-Failed-clause-end g c = λ e. (c.settling.invariant.end e).1

pub returns-in-Failed-clause-source : goal.returns-in-Failed-clause-source
returns-in-Failed-clause-source g c = c.settling.invariant.read_well

pub returns-in-Failed-clause-sink : goal.returns-in-Failed-clause-sink
returns-in-Failed-clause-sink g c =
    let f = c.settling.invariant in
    failed_behind g.K.Sink.gained g.met.K.Sink.gained_both g.K.Sink.refused g.K.Sink.faults c.args.sink.now c.settling.sink c.flush.new.sink f.text f.told f.put_well c.in-Failed.ensures.fares

pub returns-then-not-room-clause-settled : goal.returns-then-not-room-clause-settled
returns-then-not-room-clause-settled g c =
    let k = flush_step g.S.Source.took g.S.Source.left g.K.Sink.gained g.S.Source.faults g.K.Sink.faults g.met.S.Source.took_both g.met.K.Sink.gained_both c.args.engine.now c.args.input.now c.args.source.now c.args.sink.now c.settling.engine c.settling.input c.settling.source c.settling.sink c.flush.new.sink c.flush.new.engine c.settling.invariant c.in-Taken.ensures.flushed.0 c.in-Taken.ensures.flushed.1 c.in-Taken.ensures.fares in
    let w = front_waits g.S.Source.took g.S.Source.left g.K.Sink.gained g.S.Source.faults g.K.Sink.faults g.met.S.Source.took_both g.met.K.Sink.gained_both c.args.engine.now c.args.input.now c.args.source.now c.args.sink.now c.settling.engine c.flush.new.engine c.in-Taken.ensures.flushed.1 in
    settled_full g.S.Source.took g.S.Source.left g.K.Sink.gained g.S.Source.faults g.K.Sink.faults g.met.S.Source.took_both g.met.K.Sink.gained_both c.args.engine.now c.args.input.now c.args.source.now c.args.sink.now c.flush.new.engine c.settling.input c.settling.source c.flush.new.sink c.room.result k w c.room.ensures c.if-not-room.true

pub returns-then-not-room-clause-few : goal.returns-then-not-room-clause-few
returns-then-not-room-clause-few g c = c.settling.invariant.few

pub returns-then-not-room-clause-end : goal.returns-then-not-room-clause-end
returns-then-not-room-clause-end g c = λ e. (c.settling.invariant.end e).1

pub returns-then-not-room-clause-source : goal.returns-then-not-room-clause-source
returns-then-not-room-clause-source g c = c.settling.invariant.read_well

pub returns-then-not-room-clause-sink : goal.returns-then-not-room-clause-sink
returns-then-not-room-clause-sink g c = c.in-Taken.ensures.fares ∙ c.settling.invariant.put_well

pub next-requires : goal.next-requires
next-requires g c = record { end = c.settling.invariant.end }

pub add-requires-clause-room : goal.add-requires-clause-room
add-requires-clause-room g c = room_by g.S.Source.took g.S.Source.left g.K.Sink.gained g.S.Source.faults g.K.Sink.faults g.met.S.Source.took_both g.met.K.Sink.gained_both c.args.engine.now c.args.input.now c.args.source.now c.args.sink.now c.room.result (length c.flush.new.engine.queue) c.flush.new.engine.room c.room.ensures c.if-not-room.false

pub add-requires-clause-most : goal.add-requires-clause-most
add-requires-clause-most g c =
    let r = c.in-Line.ensures.reads.2 in
    omega (arith, r.short, ap (λ (x : List ℕ). length x) c.line.ensures)

pub settling-smaller : goal.settling-smaller
settling-smaller g c =
    let r = c.in-Line.ensures.reads.2 in
    omega (arith, r.few, r.count)

pub settling-preserved : goal.settling-preserved
settling-preserved g c =
    let k = flush_step g.S.Source.took g.S.Source.left g.K.Sink.gained g.S.Source.faults g.K.Sink.faults g.met.S.Source.took_both g.met.K.Sink.gained_both c.args.engine.now c.args.input.now c.args.source.now c.args.sink.now c.settling.engine c.settling.input c.settling.source c.settling.sink c.flush.new.sink c.flush.new.engine c.settling.invariant c.in-Taken.ensures.flushed.0 c.in-Taken.ensures.flushed.1 c.in-Taken.ensures.fares in
    let w = front_waits g.S.Source.took g.S.Source.left g.K.Sink.gained g.S.Source.faults g.K.Sink.faults g.met.S.Source.took_both g.met.K.Sink.gained_both c.args.engine.now c.args.input.now c.args.source.now c.args.sink.now c.settling.engine c.flush.new.engine c.in-Taken.ensures.flushed.1 in
    let room = room_by g.S.Source.took g.S.Source.left g.K.Sink.gained g.S.Source.faults g.K.Sink.faults g.met.S.Source.took_both g.met.K.Sink.gained_both c.args.engine.now c.args.input.now c.args.source.now c.args.sink.now c.room.result (length c.flush.new.engine.queue) c.flush.new.engine.room c.room.ensures c.if-not-room.false in
    let e = c.in-Line.ensures in
    read_step g.S.Source.took g.S.Source.left g.K.Sink.gained g.S.Source.faults g.K.Sink.faults g.met.S.Source.took_both g.met.K.Sink.gained_both c.args.engine.now c.args.input.now c.args.source.now c.args.sink.now c.flush.new.engine c.settling.input c.settling.source c.next.new.source c.flush.new.sink e.reads.0 c.next.new.self c.add.new.self k w room e.reads.1 e.fares e.reads.2 e.few
    (c.add.ensures ∙ ap (λ (l : List ℕ). with_queue c.flush.new.engine (c.flush.new.engine.queue ++ (read l ∷ []))) c.line.ensures)

pub returns-in-End-clause-settled : goal.returns-in-End-clause-settled
returns-in-End-clause-settled g c =
    let k = flush_step g.S.Source.took g.S.Source.left g.K.Sink.gained g.S.Source.faults g.K.Sink.faults g.met.S.Source.took_both g.met.K.Sink.gained_both c.args.engine.now c.args.input.now c.args.source.now c.args.sink.now c.settling.engine c.settling.input c.settling.source c.settling.sink c.flush.new.sink c.flush.new.engine c.settling.invariant c.in-Taken.ensures.flushed.0 c.in-Taken.ensures.flushed.1 c.in-Taken.ensures.fares in
    let w = front_waits g.S.Source.took g.S.Source.left g.K.Sink.gained g.S.Source.faults g.K.Sink.faults g.met.S.Source.took_both g.met.K.Sink.gained_both c.args.engine.now c.args.input.now c.args.source.now c.args.sink.now c.settling.engine c.flush.new.engine c.in-Taken.ensures.flushed.1 in
    let e = c.in-End.ensures in
    settled_end g.S.Source.took g.S.Source.left g.K.Sink.gained g.S.Source.faults g.K.Sink.faults g.met.S.Source.took_both g.met.K.Sink.gained_both c.args.engine.now c.args.input.now c.args.source.now c.args.sink.now c.flush.new.engine c.settling.input c.settling.source c.next.new.source c.flush.new.sink e.reads.0 c.next.new.self k w e.reads.1 e.reads.2

pub returns-in-End-clause-few : goal.returns-in-End-clause-few
returns-in-End-clause-few g c = c.next.ensures.few

pub returns-in-End-clause-end : goal.returns-in-End-clause-end
returns-in-End-clause-end g c = λ e. c.in-End.ensures.reads.2.end

pub returns-in-End-clause-source : goal.returns-in-End-clause-source
returns-in-End-clause-source g c = c.in-End.ensures.fares ∙ c.settling.invariant.read_well

pub returns-in-End-clause-sink : goal.returns-in-End-clause-sink
returns-in-End-clause-sink g c = c.in-Taken.ensures.fares ∙ c.settling.invariant.put_well

pub returns-in-Long-clause-settled : goal.returns-in-Long-clause-settled
returns-in-Long-clause-settled g c =
    let k = flush_step g.S.Source.took g.S.Source.left g.K.Sink.gained g.S.Source.faults g.K.Sink.faults g.met.S.Source.took_both g.met.K.Sink.gained_both c.args.engine.now c.args.input.now c.args.source.now c.args.sink.now c.settling.engine c.settling.input c.settling.source c.settling.sink c.flush.new.sink c.flush.new.engine c.settling.invariant c.in-Taken.ensures.flushed.0 c.in-Taken.ensures.flushed.1 c.in-Taken.ensures.fares in
    let w = front_waits g.S.Source.took g.S.Source.left g.K.Sink.gained g.S.Source.faults g.K.Sink.faults g.met.S.Source.took_both g.met.K.Sink.gained_both c.args.engine.now c.args.input.now c.args.source.now c.args.sink.now c.settling.engine c.flush.new.engine c.in-Taken.ensures.flushed.1 in
    let room = room_by g.S.Source.took g.S.Source.left g.K.Sink.gained g.S.Source.faults g.K.Sink.faults g.met.S.Source.took_both g.met.K.Sink.gained_both c.args.engine.now c.args.input.now c.args.source.now c.args.sink.now c.room.result (length c.flush.new.engine.queue) c.flush.new.engine.room c.room.ensures c.if-not-room.false in
    let e = c.in-Long.ensures in
    settled_long g.S.Source.took g.S.Source.left g.K.Sink.gained g.S.Source.faults g.K.Sink.faults g.met.S.Source.took_both g.met.K.Sink.gained_both c.args.engine.now c.args.input.now c.args.source.now c.args.sink.now c.flush.new.engine c.settling.input c.settling.source c.next.new.source c.flush.new.sink e.reads.0 c.next.new.self c.in-Long.number k w room e.reads.1 e.reads.2.0 e.reads.2.1 e.reads.2.2

pub returns-in-Long-clause-few : goal.returns-in-Long-clause-few
returns-in-Long-clause-few g c = c.next.ensures.few

pub returns-in-Long-clause-end : goal.returns-in-Long-clause-end
returns-in-Long-clause-end g c = c.in-Long.ensures.reads.2.3

pub returns-in-Long-clause-source : goal.returns-in-Long-clause-source
returns-in-Long-clause-source g c = c.in-Long.ensures.fares ∙ c.settling.invariant.read_well

pub returns-in-Long-clause-sink : goal.returns-in-Long-clause-sink
returns-in-Long-clause-sink g c = c.in-Taken.ensures.fares ∙ c.settling.invariant.put_well

pub returns-in-Failed-next-clause-settled : goal.returns-in-Failed-next-clause-settled
returns-in-Failed-next-clause-settled g c =
    let k = flush_step g.S.Source.took g.S.Source.left g.K.Sink.gained g.S.Source.faults g.K.Sink.faults g.met.S.Source.took_both g.met.K.Sink.gained_both c.args.engine.now c.args.input.now c.args.source.now c.args.sink.now c.settling.engine c.settling.input c.settling.source c.settling.sink c.flush.new.sink c.flush.new.engine c.settling.invariant c.in-Taken.ensures.flushed.0 c.in-Taken.ensures.flushed.1 c.in-Taken.ensures.fares in
    let e = c.in-Failed-next.ensures in
    settled_unread g.S.Source.took g.S.Source.left g.K.Sink.gained g.S.Source.faults g.K.Sink.faults g.met.S.Source.took_both g.met.K.Sink.gained_both c.args.engine.now c.args.input.now c.args.source.now c.args.sink.now c.flush.new.engine c.settling.input c.settling.source c.next.new.source c.flush.new.sink e.reads.0 c.next.new.self k e.reads.1 e.reads.2.0

pub returns-in-Failed-next-clause-few : goal.returns-in-Failed-next-clause-few
returns-in-Failed-next-clause-few g c = c.next.ensures.few

pub returns-in-Failed-next-clause-end : goal.returns-in-Failed-next-clause-end
returns-in-Failed-next-clause-end g c = λ e. absurd (true≢false (sym e ∙ c.in-Failed-next.ensures.reads.2.2))

pub returns-in-Failed-next-clause-source : goal.returns-in-Failed-next-clause-source
returns-in-Failed-next-clause-source g c =
    let f = c.settling.invariant in
    failed_behind g.S.Source.took g.met.S.Source.took_both g.S.Source.refused g.S.Source.faults c.args.source.now c.settling.source c.next.new.source f.more f.taken f.read_well c.in-Failed-next.ensures.fares

pub returns-in-Failed-next-clause-sink : goal.returns-in-Failed-next-clause-sink
returns-in-Failed-next-clause-sink g c = c.in-Taken.ensures.fares ∙ c.settling.invariant.put_well
