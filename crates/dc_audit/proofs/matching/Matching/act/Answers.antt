use Rattle.std.proofs.Common.{sym, ◌∙◌, ap}
use Rattle.dc_script.specs.Written.{text_of-one}
use Rattle.dc_script.specs.View.{action_of}
use Rattle.dc_audit.specs.Matched.{matched}
use Rattle.dc_audit.proofs.matching.Matching.act.Goals as goal

pub returns : goal.returns
returns c = c.in-Taken.ensures.put.0 ∙ ap (λ t. matched t c.args.self.now) (sym (text_of-one (action_of c.args.action)))
