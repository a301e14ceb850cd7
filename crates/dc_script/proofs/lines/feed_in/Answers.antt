use Rattle.dc_script.proofs.Feeds.{first_feed, no_feed}
use Rattle.dc_script.proofs.lines.feed_in.Goals as goal

pub returns-in-Some : goal.returns-in-Some
returns-in-Some c =
    let found = c.in-Some.ensures in
    first_feed c.args.bytes.now c.args.from c.in-Some.at c.requires.from c.requires.none found.0.high found.0.before found.1

pub returns-in-None : goal.returns-in-None
returns-in-None c = no_feed c.args.bytes.now c.args.from c.requires.from c.requires.none c.in-None.ensures
