use Rattle.std.proofs.Common.{arith, sym, ◌∙◌}
use Rattle.std.specs.Prelude.{slice_index}
use Rattle.dc_model.specs.Message.{Record}
use Rattle.dc_marks.specs.Places.{record_in}
use Rattle.dc_puts.proofs.Walking.{low_is, pair_is, run_one, run_more}
use Rattle.dc_puts.proofs.walk.run_len.Goals as goal

pub is_of-requires : goal.is_of-requires
is_of-requires c = low_is c.owner_at-owner.result (record_in c.args.message.now (slice_index c.args.rest.now 0)).owner c.owner_at-owner.ensures

pub loop-n-init : goal.loop-n-init
loop-n-init c = record { least = omega arith; most = omega arith; own = run_one c.args.message.now c.args.rest.now c.requires }

pub loop-n-preserved : goal.loop-n-preserved
loop-n-preserved c =
    let r : Record = record_in c.args.message.now (slice_index c.args.rest.now 0) in
    record {
      least = omega arith;
      most = omega arith;
      own = run_more c.args.message.now c.args.rest.now c.loop-n.n (omega arith) c.loop-n.invariant.own
          (c.is_of.ensures.yes c.if-not-is_of.false ∙ pair_is r c.kind_at-kind.result c.owner_at-owner.result c.kind_at-kind.ensures c.owner_at-owner.ensures);
    }

pub returns-then-not-is_of-clause-run : goal.returns-then-not-is_of-clause-run
returns-then-not-is_of-clause-run c =
    let r : Record = record_in c.args.message.now (slice_index c.args.rest.now 0) in
    record {
      own = c.loop-n.invariant.own;
      next = λ h e. c.is_of.ensures.no c.if-not-is_of.true (e ∙ sym (pair_is r c.kind_at-kind.result c.owner_at-owner.result c.kind_at-kind.ensures c.owner_at-owner.ensures));
    }

pub returns-clause-run : goal.returns-clause-run
returns-clause-run c = record { own = c.loop-n.invariant.own; next = λ h e. absurd (omega arith) }
