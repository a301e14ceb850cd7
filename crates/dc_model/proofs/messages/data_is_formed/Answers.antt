use Rattle.dc_model.proofs.FormLemmas.{message_of-formed}
use Rattle.dc_model.proofs.messages.data_is_formed.Goals as goal

pub returns : goal.returns
returns c p m e = message_of-formed p m e
