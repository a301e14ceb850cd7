use Rattle.std.proofs.Common.{Ok, Err}
use Rattle.std.proofs.lemmas.Result.{err_from_is_err_and}
use Rattle.dc_script.proofs.HeadLemmas.{head_told, lines_fail}
use Rattle.dc_script.proofs.head.read_head.Goals as goal

pub returns-in_err-lines-clause-exact : goal.returns-in_err-lines-clause-exact
returns-in_err-lines-clause-exact g c =
    let head = c.in_err-lines.ensures.head in
    let p = err_from_is_err_and c.from_residual-in_err-lines.result c.from_residual-in_err-lines.ensures.1 in
    rw (p.1, p.2)
    (head_told g.S.Source.took g.S.Source.left g.met.S.Source.took_left (Err _) _ _ head.0 head.1 (lines_fail _ _ _ head.0 _ head.2))

pub returns-clause-exact : goal.returns-clause-exact
returns-clause-exact g c =
    let head = c.in_ok-lines.ensures.head in
    head_told g.S.Source.took g.S.Source.left g.met.S.Source.took_left (Ok (record {
      config = c.read_lines.new.setup.config;
      seed = c.read_lines.new.setup.seed;
      lines = c.in_ok-lines.lines;
      version = c.read_lines.new.setup.version;
      rest = c.read_lines.new.rest;
    })) _ _ head.0 head.1 head.2
