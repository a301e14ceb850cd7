use Rattle.std.proofs.Common.{◌≡◌, ◌++◌, refl, sym, ◌∙◌, ap}
use Rattle.dc_script.specs.Head.{head_step}
use Rattle.dc_script.specs.Heads.{stage_of, head_in}
use Rattle.dc_script.proofs.HeadLemmas.{read_off, count_off, read_begun, read_refused, read_open, read_stopped, read_long, none_follows, fewer_ahead}
use Rattle.dc_script.specs.Head.{going}
use Rattle.dc_script.proofs.head.read_line.Goals as goal

pub returns-in-Going-clause-reads : goal.returns-in-Going-clause-reads
returns-in-Going-clause-reads g c =
    let found = c.in-Found.ensures.found in
    let old = c.args.setup.now in
    let new = c.read.new.self in
    let line = c.next_line.new.self.line in
    let step : head_step (stage_of old.stage) (head_in old) line ≡ going (stage_of new.stage) (head_in new) = sym (ap (head_step (stage_of old.stage) (head_in old)) c.line.ensures) ∙ c.in-Going.ensures in (
      found.0,
      found.1.taken,
      (
        read_off (stage_of old.stage) (head_in old) c.args.rest.now.rest found.0 line c.next_line.new.self.rest found.1.finds.0 found.1.finds.1 _ step,
        count_off c.args.rest.now.rest found.0 line c.next_line.new.self.rest found.1.finds.0 found.1.finds.1,
        fewer_ahead _ _ _ _ line step,
      ),
    )

pub returns-in-Begun-clause-reads : goal.returns-in-Begun-clause-reads
returns-in-Begun-clause-reads g c =
    let found = c.in-Found.ensures.found in
    let old = c.args.setup.now in
    let step = sym (ap (head_step (stage_of old.stage) (head_in old)) c.line.ensures) ∙ c.in-Begun.ensures in (
      found.0,
      found.1.taken,
      read_begun (stage_of old.stage) (head_in old) _ c.args.rest.now.rest found.0 c.next_line.new.self.line c.next_line.new.self.rest found.1.finds.0 found.1.finds.1 step,
    )

pub returns-in-Refused-clause-reads : goal.returns-in-Refused-clause-reads
returns-in-Refused-clause-reads g c =
    let found = c.in-Found.ensures.found in
    let old = c.args.setup.now in
    let step = sym (ap (head_step (stage_of old.stage) (head_in old)) c.line.ensures) ∙ c.in-Refused.ensures in (
      found.0,
      found.1.taken,
      λ tail left. read_refused (stage_of old.stage) (head_in old) c.args.rest.now.rest found.0 c.next_line.new.self.line c.next_line.new.self.rest found.1.finds.0 found.1.finds.1 step tail,
    )

pub returns-in-TooLong-clause-reads : goal.returns-in-TooLong-clause-reads
returns-in-TooLong-clause-reads g c =
    let found = c.in-TooLong.ensures.found in
    let old = c.args.setup.now in (
      found.0,
      found.1.taken,
      λ tail left. read_long (stage_of old.stage) (head_in old) c.args.rest.now.rest found.0 (c.args.rest.now.rest ++ found.0) 131201 refl refl found.1.finds.1 found.1.finds.2 tail,
    )

pub returns-in-Ended-clause-reads : goal.returns-in-Ended-clause-reads
returns-in-Ended-clause-reads g c =
    let found = c.in-Ended.ensures.found in
    let old = c.args.setup.now in (
      found.0,
      found.1.taken,
      λ tail left. read_open (stage_of old.stage) (head_in old) c.args.rest.now.rest found.0 (c.args.rest.now.rest ++ found.0) tail refl found.1.finds.1 (none_follows _ tail found.1.finds.2 left),
    )

pub returns-in-Failed-clause-reads : goal.returns-in-Failed-clause-reads
returns-in-Failed-clause-reads g c =
    let found = c.in-Failed.ensures.found in
    let old = c.args.setup.now in
    (found.0, found.1.taken, read_stopped (stage_of old.stage) (head_in old) c.args.rest.now.rest found.0 (c.args.rest.now.rest ++ found.0) refl found.1.finds.1)
