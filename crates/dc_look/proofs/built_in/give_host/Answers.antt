use Rattle.std.proofs.Common.{sym, refl, []}
use Rattle.dc_desk.specs.View.{setting_at, at}
use Rattle.dc_look.proofs.Taking.{took_goes, took_reply}
use Rattle.dc_look.proofs.RowLemmas.{host-above, host-lowest}
use Rattle.dc_look.proofs.built_in.give_host.Goals as goal

pub returns-then-not-is_lowest : goal.returns-then-not-is_lowest
returns-then-not-is_lowest g c m = took_goes
    (host-above (setting_at c.args.desk.now m) (at g.S.Store.cache c.args.query.now c.args.desk.now) (sym c.if-not-is_lowest.ensures))
    (g.met.O.Effects.acted_none c.args.out.now)

pub returns : goal.returns
returns g c m = took_reply _ []
    (host-lowest (setting_at c.args.desk.now m) (at g.S.Store.cache c.args.query.now c.args.desk.now) (sym c.if-not-is_lowest.ensures))
    (g.met.O.Effects.acted_none c.args.out.now) c.reply_host.ensures c.replied.ensures refl
