use Rattle.dc_rules.proofs.Leading.{same_servers}
use Rattle.dc_recording.proofs.laws.names_keep_their_servers.Goals as goal

pub returns : goal.returns
returns c = λ config n. same_servers config.zones n
