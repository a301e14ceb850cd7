use Rattle.std.proofs.Common.{◌≡◌, ◌-◌, suc, arith, sym, ◌∙◌, ap, slice_index_or, drop, length, ◌<◌}
use Rattle.dc_model.specs.Cache.{Entry}
use Rattle.dc_store.specs.Lists.{entries}
use Rattle.dc_store.specs.Found.{look_up}
use Rattle.dc_store.specs.declared.plain.Record.{Record}
use Rattle.dc_store.proofs.Find.{look_hit, missed, passed, entries_step, entry_at, payload_step, same_bucket, other_bucket}
use Rattle.dc_store.proofs.plain.find_in.Goals as goal
use Rattle.dc_store.proofs.plain.find_in.Goals.{then-bucket_of-bucket+else-eq+else-seen-eq101, else-bucket_of-bucket}

none : Record
none = record { key_len = 0; body_len = 0; expiry = 0 }

pub returns-then-eq : goal.returns-then-eq
unfolding none
returns-then-eq c = λ size h.
    let l = c.loop-record in
    let i : l.record-index < length c.args.records.now = omega arith in
    let n : 101 - l.seen ≡ suc (100 - l.seen) = omega arith in
    let s = entries_step c.args.records.now none c.args.bytes.now l.record-index l.at i in
    let e : Entry = entry_at (slice_index_or c.args.records.now l.record-index none) l.at c.args.bytes.now in
    sym (look_hit (100 - l.seen) size c.args.key.now e _
    (same_bucket size _ _ e.key c.args.key.now (c.bucket_of.ensures size h) (c.bucket_of-bucket.ensures size h) c.if-bucket_of-bucket.true)
    (sym c.eq.ensures ∙ c.if-eq.true))
    ∙ ap (look_up (suc (100 - l.seen)) size c.args.key.now) (sym s)
    ∙ ap (λ k. look_up k size c.args.key.now (entries (drop l.record-index c.args.records.now) (drop l.at c.args.bytes.now))) (sym n)
    ∙ l.invariant.same size h

pub returns-then-seen-eq101 : goal.returns-then-seen-eq101
unfolding none
returns-then-seen-eq101 c = λ size h.
    let l = c.loop-record in
    let i : l.record-index < length c.args.records.now = omega arith in
    let n : 101 - l.seen ≡ 1 = omega arith in
    let e : Entry = entry_at (slice_index_or c.args.records.now l.record-index none) l.at c.args.bytes.now in
    missed c.args.records.now none c.args.bytes.now l.record-index l.at size c.args.key.now _ i 0
    (ap (λ k. look_up k size c.args.key.now (entries (drop l.record-index c.args.records.now) (drop l.at c.args.bytes.now))) (sym n) ∙ l.invariant.same size h)
    (same_bucket size _ _ e.key c.args.key.now (c.bucket_of.ensures size h) (c.bucket_of-bucket.ensures size h) c.if-bucket_of-bucket.true)
    (sym c.eq.ensures ∙ c.if-eq.false)

pub loop-record-preserved : goal.loop-record-preserved
unfolding none
loop-record-preserved c =
    let l = c.loop-record in
    let i : l.record-index < length c.args.records.now = omega arith in
    let p = payload_step c.args.records.now none l.record-index i in
    let e : Entry = entry_at (slice_index_or c.args.records.now l.record-index none) l.at c.args.bytes.now in
    elim c.if-bucket_of-bucket.branch [
      | then-bucket_of-bucket+else-eq+else-seen-eq101 w ↦
          let n : 101 - l.seen ≡ suc (101 - c.if-bucket_of-bucket.seen) = omega arith in
          record {
            seen = omega arith;
            block = omega arith;
            same = λ size h. rw w.at-is (missed c.args.records.now none c.args.bytes.now l.record-index l.at size c.args.key.now _ i (101 - c.if-bucket_of-bucket.seen)
                (ap (λ k. look_up k size c.args.key.now (entries (drop l.record-index c.args.records.now) (drop l.at c.args.bytes.now))) (sym n) ∙ l.invariant.same size h)
                (same_bucket size _ _ e.key c.args.key.now (c.bucket_of.ensures size h) (c.bucket_of-bucket.ensures size h) w.if-bucket_of-bucket.true)
                (sym w.eq.ensures ∙ w.if-eq.false));
          }
      | else-bucket_of-bucket w ↦
          record {
            seen = omega arith;
            block = omega arith;
            same = λ size h. rw (w.at-is, w.seen-is) (passed c.args.records.now none c.args.bytes.now l.record-index l.at size c.args.key.now _ i (101 - l.seen)
                (l.invariant.same size h)
                (other_bucket size _ _ e.key c.args.key.now (c.bucket_of.ensures size h) (c.bucket_of-bucket.ensures size h) w.if-bucket_of-bucket.false));
          }
    ]
