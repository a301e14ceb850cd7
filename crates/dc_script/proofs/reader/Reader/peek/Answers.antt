use Rattle.dc_script.proofs.BreakLemmas.{ReadOff-found, ReadOff-more}
use Rattle.dc_script.proofs.StateLemmas.{long-rest, one-rest, one_same, SaysNoMore-here}
use Rattle.dc_script.proofs.reader.Reader.peek.Goals as goal

pub returns-in-Found-clause-heard : goal.returns-in-Found-clause-heard
returns-in-Found-clause-heard g c =
    let finds = c.in-Found.ensures.found in
    ReadOff-found g.S.Source.took _ _ _ _ _ _ _ _ finds.0 _ c.if-self.false finds.1.taken finds.1.finds.0

pub returns-in-Failed-clause-heard : goal.returns-in-Failed-clause-heard
returns-in-Failed-clause-heard g c =
    let finds = c.in-Failed.ensures.found in
    ReadOff-more g.S.Source.took _ _ _ _ _ _ _ _ finds.0 _ c.if-self.false finds.1.taken finds.1.finds.0

pub returns-in-Failed-clause-stopped : goal.returns-in-Failed-clause-stopped
returns-in-Failed-clause-stopped g c =
    let finds = c.in-Failed.ensures.found in
    rw c.in-Failed.is (SaysNoMore-here _ _ _ _ c.if-self.false (one_same _ _ finds.1.finds.0 finds.1.finds.1))

pub returns-in-TooLong-clause-heard : goal.returns-in-TooLong-clause-heard
returns-in-TooLong-clause-heard g c =
    let finds = c.in-TooLong.ensures.found in
    ReadOff-more g.S.Source.took _ _ _ _ _ _ _ _ finds.0 _ c.if-self.false finds.1.taken finds.1.finds.0

pub returns-in-Ended-clause-heard : goal.returns-in-Ended-clause-heard
returns-in-Ended-clause-heard g c =
    let finds = c.in-Ended.ensures.found in
    ReadOff-more g.S.Source.took _ _ _ _ _ _ _ _ finds.0 _ c.if-self.false finds.1.taken finds.1.finds.0

pub returns-in-TooLong-clause-found : goal.returns-in-TooLong-clause-found
returns-in-TooLong-clause-found g c =
    let finds = c.in-TooLong.ensures.found in
    rw c.in-TooLong.is (c.if-self.false, long-rest 131200 _ _ finds.1.finds.0 finds.1.finds.1, one-rest 131201 _ _ finds.1.finds.0 finds.1.finds.2)
