use Rattle.std.proofs.Common.{Some, Err, ◌∙◌, ap, subst, arith}
use Rattle.std.proofs.lemmas.Bool.{lt-ltb, le-ltb}
use Rattle.dc_script.specs.Heads.{HeadIs, head_at}
use Rattle.dc_audit.proofs.ChunkLemmas.{if_ok_then}
use Rattle.dc_audit.proofs.VerdictLemmas.{of_other, of_large, of_compared, pieces_few}
use Rattle.dc_audit.proofs.script.verdict.Goals as goal

pub returns-in-Err-Bad : goal.returns-in-Err-Bad
returns-in-Err-Bad c =
    rw c.in-Err-Bad.field-0-is
    (of_other c.args.script.now c.args.recorded.now c.in-Err-Bad.line
    (subst (λ e. HeadIs (Err e) c.args.script.now (Some c.read_head.new.source)) c.in-Err-Bad.field-0-is (c.in-Err-Bad.ensures.exact c.args.script.now (ap Some c.new-source.ensures))))

pub too_large-requires-clause-few : goal.too_large-requires-clause-few
too_large-requires-clause-few c =
    let head = c.in-Ok.head in
    pieces_few c.args.script.now (head_at head) head.lines head.rest.rest c.read_head.new.source (c.in-Ok.ensures.exact c.args.script.now (ap Some c.new-source.ensures)) (omega (arith, c.if-script-ge-MOST_BYTES.false))

pub returns-then-head-gt-MOST_SIZE : goal.returns-then-head-gt-MOST_SIZE
returns-then-head-gt-MOST_SIZE c =
    let head = c.in-Ok.head in
    c.too_large.ensures ∙ of_large c.args.script.now c.args.recorded.now (head_at head) head.lines head.rest.rest c.read_head.new.source
    (c.in-Ok.ensures.exact c.args.script.now (ap Some c.new-source.ensures)) (lt-ltb 10000000 head.config.size c.if-head-gt-MOST_SIZE.true)

pub compared_run-requires-clause-few : goal.compared_run-requires-clause-few
compared_run-requires-clause-few c =
    let head = c.in-Ok.head in
    pieces_few c.args.script.now (head_at head) head.lines head.rest.rest c.read_head.new.source (c.in-Ok.ensures.exact c.args.script.now (ap Some c.new-source.ensures)) (omega (arith, c.if-script-ge-MOST_BYTES.false))

pub returns : goal.returns
returns c =
    let head = c.in-Ok.head in
    let is = of_compared c.args.script.now c.args.recorded.now (head_at head) head.lines head.rest.rest c.read_head.new.source
    (c.in-Ok.ensures.exact c.args.script.now (ap Some c.new-source.ensures)) (le-ltb 10000000 head.config.size c.if-head-gt-MOST_SIZE.false) in
    if_ok_then c.compared_run.result _ _ c.compared_run.ensures (λ v e. e ∙ is)
