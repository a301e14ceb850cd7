use Rattle.std.proofs.Common.{◌+◌, ◌-◌, ◌^◌, min, length, ◌∙◌, ap}
use Rattle.dc_model.specs.Cache.{Cache, Entry, added}
use Rattle.dc_ring.specs.declared.ArenaStore.TheInside.{Inside}
use Rattle.dc_ring.proofs.Seal.{sealed, sealed_view}
use Rattle.dc_ring.proofs.Added.{others, before, clear, fresh, added_all}
use Rattle.dc_ring.proofs.ArenaStore.add.Goals as goal

pub write-requires-clause-clear : goal.write-requires-clause-clear
write-requires-clause-clear c =
    let a = c.self.inside in
    let s : Cache = c.args.self.now in
    let e : Entry = record { key = c.args.key.now; body = c.args.body.now; expiry = c.args.expiry } in
    (others a s, before a s e c.self.view_is c.self.invariant c.requires.room, clear a s e c.self.view_is c.self.invariant c.requires.room)

pub link_first-requires : goal.link_first-requires
link_first-requires c =
    let a = c.self.inside in
    let s : Cache = c.args.self.now in
    let e : Entry = record { key = c.args.key.now; body = c.args.body.now; expiry = c.args.expiry } in
    let vi = c.self.view_is in
    let iv = c.self.invariant in
    let k = c.write.ensures.others (others a s) (before a s e vi iv c.requires.room) (clear a s e vi iv c.requires.room) in
    (others a s, record { at = a.writer; entry = e }, fresh a s e vi iv c.requires.room c.write.new.self c.bucket-bucket.result c.write.ensures.stands k c.bucket-bucket.ensures)

pub invariant_of-self : goal.invariant_of-self
invariant_of-self c =
    let a = c.self.inside in
    let s : Cache = c.args.self.now in
    let e : Entry = record { key = c.args.key.now; body = c.args.body.now; expiry = c.args.expiry } in
    let vi = c.self.view_is in
    let iv = c.self.invariant in
    let k = c.write.ensures.others (others a s) (before a s e vi iv c.requires.room) (clear a s e vi iv c.requires.room) in
    let f = fresh a s e vi iv c.requires.room c.write.new.self c.bucket-bucket.result c.write.ensures.stands k c.bucket-bucket.ensures in
    let n : Inside = record a { chains = c.link_first.new.self; writer = a.writer + (20 + length c.args.key.now + length c.args.body.now); motion = c.saturating_add-self-inside.result } in
    let l = added_all a s e vi iv c.requires.room c.link_first.new.self (c.link_first.ensures.len ∙ c.write.ensures.len) (c.link_first.ensures.first (others a s) (record { at = a.writer; entry = e }) f) in
    let m = c.saturating_add-self-inside.ensures ∙ ap (λ k. min (a.motion + k) (2 ^ 64 - 1)) c.from.ensures ∙ ap (λ (q : Cache). min (q.motion + (20 + length c.args.key.now + length c.args.body.now)) (2 ^ 64 - 1)) vi in
    sealed n (added e s) m l

pub returns : goal.returns
returns c =
    let a = c.self.inside in
    let s : Cache = c.args.self.now in
    let e : Entry = record { key = c.args.key.now; body = c.args.body.now; expiry = c.args.expiry } in
    let vi = c.self.view_is in
    let iv = c.self.invariant in
    let k = c.write.ensures.others (others a s) (before a s e vi iv c.requires.room) (clear a s e vi iv c.requires.room) in
    let f = fresh a s e vi iv c.requires.room c.write.new.self c.bucket-bucket.result c.write.ensures.stands k c.bucket-bucket.ensures in
    let n : Inside = record a { chains = c.link_first.new.self; writer = a.writer + (20 + length c.args.key.now + length c.args.body.now); motion = c.saturating_add-self-inside.result } in
    let l = added_all a s e vi iv c.requires.room c.link_first.new.self (c.link_first.ensures.len ∙ c.write.ensures.len) (c.link_first.ensures.first (others a s) (record { at = a.writer; entry = e }) f) in
    let m = c.saturating_add-self-inside.ensures ∙ ap (λ k. min (a.motion + k) (2 ^ 64 - 1)) c.from.ensures ∙ ap (λ (q : Cache). min (q.motion + (20 + length c.args.key.now + length c.args.body.now)) (2 ^ 64 - 1)) vi in
    sealed_view n (added e s) m l
