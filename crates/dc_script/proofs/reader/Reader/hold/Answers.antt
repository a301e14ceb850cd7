use Rattle.dc_script.proofs.Furthering.{held_unread, held_none}
use Rattle.dc_script.proofs.reader.Reader.hold.Goals as goal

pub returns-clause-unread : goal.returns-clause-unread
returns-clause-unread g c = held_unread _ _ _ _ _ _ c.if-self.false c.held_line-whole.ensures

pub returns-clause-none : goal.returns-clause-none
returns-clause-none g c = held_none _ _ _ c.held_line-whole.ensures
