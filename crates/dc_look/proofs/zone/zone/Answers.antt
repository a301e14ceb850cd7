use Rattle.std.proofs.Common.{refl}
use Rattle.dc_frames.specs.View.{query_of}
use Rattle.dc_desk.specs.View.{setting_at, at}
use Rattle.dc_look.proofs.Taking.{took_goes}
use Rattle.dc_look.proofs.RowLemmas.{zone-chosen}
use Rattle.dc_look.proofs.zone.zone.Goals as goal

pub returns : goal.returns
returns g c = took_goes (zone-chosen (setting_at c.args.desk.now c.args.moment) (at g.S.Store.cache c.args.query.now c.args.desk.now) _ (query_of c.choose_servers.new.query) refl c.choose_servers.ensures.query) c.choose_servers.ensures.acts
