use Rattle.std.proofs.Common.{arith, ap}
use Rattle.dc_machine.specs.Query.{Query}
use Rattle.dc_machine.specs.Turn.{State}
use Rattle.dc_frames.specs.View.{query_of}
use Rattle.dc_desk.specs.View.{setting_at, at}
use Rattle.dc_look.proofs.Taking.{took_as, took_ends}
use Rattle.dc_look.proofs.RowLemmas.{look-last, look-on}
use Rattle.dc_look.proofs.rules.look.Goals as goal

pub returns-then-turns-ge100 : goal.returns-then-turns-ge100
returns-then-turns-ge100 g c = took_ends (look-last (setting_at c.args.desk.now c.args.moment) (at g.S.Store.cache c.args.query.now c.args.desk.now) (query_of c.count.new.self) c.count.ensures (omega arith))
    (g.met.O.Effects.acted_none c.args.out.now)

pub returns : goal.returns
returns g c = took_as (look-on (setting_at c.args.desk.now c.args.moment) (at g.S.Store.cache c.args.query.now c.args.desk.now) (at g.S.Store.cache c.count.new.self c.args.desk.now)
    (ap (λ (x : Query). let s : State = record { query = x; cache = g.S.Store.cache c.args.desk.now.store; links = c.args.desk.now.link } in s) c.count.ensures) (omega arith)) c.first_rules.ensures
