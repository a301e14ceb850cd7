use Rattle.dc_writer.proofs.Writing.{wrote_as}
use Rattle.dc_show.proofs.PartLemmas.{mx_some, mx_none}
use Rattle.dc_show.proofs.show.write_exchanges.Goals as goal

pub returns-then-has_answers-clause-wrote : goal.returns-then-has_answers-clause-wrote
returns-then-has_answers-clause-wrote g c = wrote_as _ _ g.met.K.Sink.gained_both (mx_some c.args.name.now c.args.message.now (c.has_answers.ensures.some c.if-has_answers.true)) c.write_each.ensures.wrote

pub returns-else-has_answers-clause-wrote : goal.returns-else-has_answers-clause-wrote
returns-else-has_answers-clause-wrote g c = wrote_as _ _ g.met.K.Sink.gained_both (mx_none c.args.name.now c.args.message.now (c.has_answers.ensures.none c.if-has_answers.false)) c.write_mx.ensures.wrote
