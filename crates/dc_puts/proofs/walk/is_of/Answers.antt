use Rattle.std.proofs.Common.{◌==◌, ◌&&◌, ap, Bool}
use Rattle.dc_marks.specs.Places.{record_in}
use Rattle.dc_puts.proofs.Walking.{test_yes, test_no}
use Rattle.dc_puts.proofs.walk.is_of.Goals as goal

pub returns-clause-yes : goal.returns-clause-yes
returns-clause-yes c =
    test_yes (record_in c.args.message.now c.args.i) c.kind_at.result c.args.kind c.owner_at.result c.args.owner.now ((c.kind_at.result == c.args.kind) && c.same.result) c.kind_at.ensures c.owner_at.ensures c.requires
    (ap (λ (x : Bool). (c.kind_at.result == c.args.kind) && x) c.same.ensures)

pub returns-clause-no : goal.returns-clause-no
returns-clause-no c =
    test_no (record_in c.args.message.now c.args.i) c.kind_at.result c.args.kind c.owner_at.result c.args.owner.now ((c.kind_at.result == c.args.kind) && c.same.result) c.kind_at.ensures c.owner_at.ensures c.requires
    (ap (λ (x : Bool). (c.kind_at.result == c.args.kind) && x) c.same.ensures)
