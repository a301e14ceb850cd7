use Rattle.dc_model.proofs.NumberLemmas.{message_of-numbered, request_of-numbers}
use Rattle.dc_model.proofs.messages.numbers_fit.Goals as goal

pub returns-clause-message : goal.returns-clause-message
returns-clause-message c p m h e = message_of-numbered p m h e

pub returns-clause-request : goal.returns-clause-request
returns-clause-request c p r h e = request_of-numbers p r h e
