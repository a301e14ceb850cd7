use Rattle.dc_puts.proofs.Telling.{put_long}
use Rattle.dc_puts.proofs.group.keep.Goals as goal

pub returns-then-not-body : goal.returns-then-not-body
returns-then-not-body g c = λ xs h. put_long c.args.body.now xs c.args.shared.now.owner c.args.shared.now.kind c.args.shared.now.ttl c.args.now (g.S.Store.cache c.args.store.now) c.if-not-body.true h
