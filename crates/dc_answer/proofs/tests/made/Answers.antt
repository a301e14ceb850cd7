use Rattle.dc_answer.proofs.Making.{begun_if_made}
use Rattle.dc_answer.proofs.tests.made.Goals as goal

pub returns-in-Nothing : goal.returns-in-Nothing
returns-in-Nothing c = begun_if_made _ _ _ c.reply_nothing.ensures

pub returns-in-Missing : goal.returns-in-Missing
returns-in-Missing c = begun_if_made _ _ _ c.reply_missing.ensures

pub returns-in-Failure : goal.returns-in-Failure
returns-in-Failure c = begun_if_made _ _ _ c.reply_failure.ensures

pub returns-in-Address : goal.returns-in-Address
returns-in-Address c = begun_if_made _ _ _ c.reply_one.ensures

pub returns-in-Heard : goal.returns-in-Heard
returns-in-Heard c = begun_if_made _ _ _ c.reply_heard.ensures

pub returns-in-Exchanges : goal.returns-in-Exchanges
returns-in-Exchanges c = begun_if_made _ _ _ c.reply_items.ensures
