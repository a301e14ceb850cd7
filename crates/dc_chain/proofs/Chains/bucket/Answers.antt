use Rattle.std.proofs.Common.{length, arith}
use Rattle.dc_model.proofs.SizeLemmas.{hsize_least}
use Rattle.dc_chain.proofs.Chains.bucket.Goals as goal

pub bucket_of-requires : goal.bucket_of-requires
bucket_of-requires c = omega (arith, c.self.invariant.heads, hsize_least (length c.self.inside.arena))
