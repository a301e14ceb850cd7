use Rattle.std.proofs.Common.{sym, ◌∙◌, ap}
use Rattle.dc_text.specs.Parts.{parts_left}
use Rattle.dc_text.proofs.Splitting.{first_part, only_part}
use Rattle.dc_text.proofs.parts.Parts.next_part.Goals as goal

pub returns-in-Some : goal.returns-in-Some
returns-in-Some c =
    let found = c.in-Some.ensures in
    sym c.self.view_is ∙ ap (parts_left c.self.inside.separator) c.in_ok-text.was
    ∙ first_part c.self.inside.separator c.in_ok-text.text.now c.in-Some.at found.0.high found.0.before found.1

pub returns-in-None : goal.returns-in-None
returns-in-None c =
    sym c.self.view_is ∙ ap (parts_left c.self.inside.separator) c.in_ok-text.was ∙ only_part c.self.inside.separator c.in_ok-text.text.now c.in-None.ensures
