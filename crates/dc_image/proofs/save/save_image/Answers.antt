use Rattle.std.proofs.Common.{◌++◌}
use Rattle.dc_event.specs.Causes.{failed_behind}
use Rattle.dc_image.proofs.SaveLemmas.{made, front_behind, front_before}
use Rattle.dc_image.proofs.save.save_image.Goals as goal

pub returns-in-Failed-clause-saves : goal.returns-in-Failed-clause-saves
returns-in-Failed-clause-saves g c = (
  c.head_of-head.result ++ c.image-block.result.now,
  made c.image-block.result.now c.args.store.now c.marks.result c.head_of-head.result c.image-block.ensures c.marks.ensures c.head_of-head.ensures,
  front_before g.O.Sink.gained g.met.O.Sink.gained_both _ _ c.head_of-head.result c.image-block.result.now c.in-Failed.ensures.whole,
)

pub returns-in-Taken-clause-saves : goal.returns-in-Taken-clause-saves
returns-in-Taken-clause-saves g c = (
  c.head_of-head.result ++ c.image-block.result.now,
  made c.image-block.result.now c.args.store.now c.marks.result c.head_of-head.result c.image-block.ensures c.marks.ensures c.head_of-head.ensures,
  g.met.O.Sink.gained_both _ _ _ c.head_of-head.result c.image-block.result.now c.in_default.ensures.whole.1 c.in-Taken.ensures.whole.1,
)

pub returns-in-Failed-put_all-clause-saves : goal.returns-in-Failed-put_all-clause-saves
returns-in-Failed-put_all-clause-saves g c = (
  c.head_of-head.result ++ c.image-block.result.now,
  made c.image-block.result.now c.args.store.now c.marks.result c.head_of-head.result c.image-block.ensures c.marks.ensures c.head_of-head.ensures,
  front_behind g.O.Sink.gained g.met.O.Sink.gained_both _ _ _ c.head_of-head.result c.image-block.result.now c.in_default.ensures.whole.1 c.in-Failed-put_all.ensures.whole,
)

pub returns-in-Failed-put_all-clause-fares : goal.returns-in-Failed-put_all-clause-fares
returns-in-Failed-put_all-clause-fares g c =
    failed_behind g.O.Sink.gained g.met.O.Sink.gained_both g.O.Sink.refused g.O.Sink.faults _ _ _ c.head_of-head.result c.in_default.ensures.whole.1 c.in_default.ensures.fares
    c.in-Failed-put_all.ensures.fares
