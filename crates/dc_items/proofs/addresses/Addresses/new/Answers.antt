use Rattle.dc_items.proofs.AddressLemmas.{addresses_are}
use Rattle.dc_items.proofs.addresses.Addresses.new.Goals as goal

pub returns-clause-items : goal.returns-clause-items
returns-clause-items c = λ rule. addresses_are rule c.args.body.now
