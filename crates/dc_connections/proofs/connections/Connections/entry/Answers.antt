use Rattle.dc_connections.proofs.EntryLemmas.{read_is}
use Rattle.dc_connections.proofs.connections.Connections.entry.Goals as goal

pub returns : goal.returns
returns c = read_is c.self.inside.entries.items c.args.self.now c.args.i c.index.result.now c.self.view_is c.requires c.index.ensures
