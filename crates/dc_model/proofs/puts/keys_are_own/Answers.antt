use Rattle.dc_model.proofs.PutLemmas.{key_own}
use Rattle.dc_model.proofs.puts.keys_are_own.Goals as goal

pub returns : goal.returns
returns c kind other owner name h k m n e = key_own kind other owner name h k m n e
