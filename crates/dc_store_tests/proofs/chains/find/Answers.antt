use Rattle.std.proofs.Common.{ℕ, length, sym, subst}
use Rattle.dc_model.specs.Layout.{IsHead}
use Rattle.dc_model.proofs.SizeLemmas.{bucket_head}
use Rattle.dc_store_tests.proofs.chains.find.Goals as goal

pub walk-requires : goal.walk-requires
walk-requires g c =
    let P : ℕ → Type 0 = λ h. IsHead (length c.args.chains.now) h in
    subst P (sym c.bucket.ensures) (bucket_head (length c.args.chains.now) c.args.key.now)
