use Rattle.std.proofs.Common.{◌≡◌, sym, subst, rules}
use Rattle.dc_model.specs.Cache.{Cache, put, KeepsFirst}
use Rattle.dc_model.proofs.CacheLemmas.{put_law}
use Rattle.dc_ring.proofs.ArenaStoreStore.put.Goals as goal

pub returns-clause-keeps_first : goal.returns-clause-keeps_first
returns-clause-keeps_first c =
    let k = c.args.key.now in
    let b = c.args.body.now in
    let e : c.place.new.self ≡ put k b c.args.ttl c.args.now c.args.self.now = search rules in
    let P : Cache → Type 0 = λ s. KeepsFirst k b c.args.ttl c.args.now c.args.self.now s in
    subst P (sym e) (put_law k b c.args.ttl c.args.now c.args.self.now)
