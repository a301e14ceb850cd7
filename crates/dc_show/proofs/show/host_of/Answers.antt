use Rattle.std.proofs.Common.{sym, ◌∙◌, ap}
use Rattle.dc_model.proofs.MessageLemmas.{some_of}
use Rattle.dc_lookup.specs.Text.{first_host}
use Rattle.dc_show.proofs.show.host_of.Goals as goal

pub returns : goal.returns
returns c m e = c.first_host.ensures ∙ ap first_host (some_of c.new-message.result m (sym c.new-message.ensures ∙ e))
