use Rattle.std.proofs.Common.{◌∙◌, ap, arith}
use Rattle.dc_model.specs.Message as model
use Rattle.dc_packet.proofs.MessageLemmas.{rows_length, row_is, data_here, data_reads, data_within}
use Rattle.dc_packet.proofs.message.Message.«data».Goals as goal

pub rr-rr-requires : goal.rr-rr-requires
rr-rr-requires c = omega (arith, c.requires, rows_length _ _ _ c.self.invariant.0 c.self.view_is)

pub data_at-requires-clause-within : goal.data_at-requires-clause-within
data_at-requires-clause-within c = data_within _ _ _ _ (row_is _ _ c.args.self.now c.args.i c.rr-rr.result c.self.invariant.0 c.self.view_is c.rr-rr.ensures)

pub unreachable-requires : goal.unreachable-requires
unreachable-requires c =
    data_reads _ _ _ _ (row_is _ _ c.args.self.now c.args.i c.rr-rr.result c.self.invariant.0 c.self.view_is c.rr-rr.ensures)
    (c.in-None.ensures ∙ ap (λ f. model.body_at c.self.inside.packet.now f c.rr-rr.result.at c.rr-rr.result.len) c.form_of.ensures)

pub returns : goal.returns
returns c =
    data_here _ _ _ _ _ (row_is _ _ c.args.self.now c.args.i c.rr-rr.result c.self.invariant.0 c.self.view_is c.rr-rr.ensures)
    (c.in-Some.ensures ∙ ap (λ f. model.body_at c.self.inside.packet.now f c.rr-rr.result.at c.rr-rr.result.len) c.form_of.ensures)
