use Rattle.std.proofs.Common.{sym, refl, []}
use Rattle.dc_frames.specs.View.{query_of}
use Rattle.dc_desk.specs.View.{setting_at, at}
use Rattle.dc_look.proofs.Taking.{took_goes, took_reply}
use Rattle.dc_look.proofs.RowLemmas.{address-above, address-lowest}
use Rattle.dc_look.proofs.built_in.give_address.Goals as goal

pub returns-then-not-is_lowest : goal.returns-then-not-is_lowest
returns-then-not-is_lowest g c m = took_goes
    (address-above c.args.address (setting_at c.args.desk.now m) (at g.S.Store.cache c.args.query.now c.args.desk.now) (query_of c.add_address.new.self) (sym c.if-not-is_lowest.ensures) c.add_address.ensures)
    (g.met.O.Effects.acted_none c.args.out.now)

pub returns : goal.returns
returns g c m = took_reply _ []
    (address-lowest c.args.address (setting_at c.args.desk.now m) (at g.S.Store.cache c.args.query.now c.args.desk.now) (sym c.if-not-is_lowest.ensures))
    (g.met.O.Effects.acted_none c.args.out.now) c.reply_address.ensures c.replied.ensures refl
