use Rattle.std.proofs.Common.{◌≡◌, List, ℕ, [], ◌∷◌, length, sym, ◌∙◌}
use Rattle.dc_model.specs.Cache.{bucket}
use Rattle.dc_store_tests.proofs.Two.{is_head, after_head, after_newer}
use Rattle.dc_store_tests.proofs.chains.look_at_two.Goals as goal

pub first-requires : goal.first-requires
first-requires g c =
    let b : List ℕ = c.args.chains.now in
    let e1 : bucket (length b) c.args.older_key.now ≡ c.bucket-head.result = sym c.bucket-head.ensures in
    is_head b c.bucket-head.result c.args.older_key.now e1

pub next-requires : goal.next-requires
next-requires g c =
    let b : List ℕ = c.args.chains.now in
    let e1 : bucket (length b) c.args.older_key.now ≡ c.bucket-head.result = sym c.bucket-head.ensures in
    let e2 : bucket (length b) c.args.newer_key.now ≡ c.bucket-head.result = sym c.bucket-newer_head.ensures ∙ c.if-newer_head-head.false in
    (c.args.row.older ∷ [], after_head b c.bucket-head.result c.args.row.older c.args.row.newer c.args.older_key.now c.args.newer_key.now c.args.body.now e1 e2 c.requires)

pub next-requires-2 : goal.next-requires-2
next-requires-2 g c =
    let b : List ℕ = c.args.chains.now in
    let e1 : bucket (length b) c.args.older_key.now ≡ c.bucket-head.result = sym c.bucket-head.ensures in
    let e2 : bucket (length b) c.args.newer_key.now ≡ c.bucket-head.result = sym c.bucket-newer_head.ensures ∙ c.if-newer_head-head.false in
    ([], after_newer b c.bucket-head.result c.args.row.older c.args.row.newer c.args.older_key.now c.args.newer_key.now c.args.body.now e1 e2 c.requires)
