use Rattle.std.proofs.Common.{length, refl, arith}
use Rattle.std.proofs.lemmas.Bool.{false≢true}
use Rattle.dc_model.proofs.SizeLemmas.{hsize_least}
use Rattle.dc_image.proofs.NoteLemmas.{own_of, index_there, not_noted, noted}
use Rattle.dc_image.proofs.fronts.Fronts.note.Goals as goal

pub bucket_of-head-requires : goal.bucket_of-head-requires
bucket_of-head-requires c = omega (arith, c.requires.noted.1.heads, hsize_least (length c.args.block.now))

pub index-front-requires : goal.index-front-requires
index-front-requires c =
    let n = c.requires.noted.1 in
    let here = own_of c.args.block.now c.args.at c.number_at.result c.bucket_of-head.result c.args.self.now.heads c.number_at.ensures c.bucket_of-head.ensures n.heads in
    let i = index_there c.args.block.now c.args.at c.bucket_of-head.result c.requires.noted.0 c.args.self.now (record { newest = 0; awaited = 0 }) n here in
    omega (arith, i, c.args.self.now.fronts.ok.0)

pub returns-then-not-fits : goal.returns-then-not-fits
returns-then-not-fits c = λ ps n g.
    let here = own_of c.args.block.now c.args.at c.number_at.result c.bucket_of-head.result c.args.self.now.heads c.number_at.ensures c.bucket_of-head.ensures n.heads in
    not_noted c.args.block.now c.args.at c.bucket_of-head.result ps c.args.self.now c.index-front.result.now n here c.index-front.ensures (λ f. false≢true (c.if-not-fits.ensures.1 f))

pub index_mut-requires : goal.index_mut-requires
index_mut-requires c =
    let n = c.requires.noted.1 in
    let here = own_of c.args.block.now c.args.at c.number_at.result c.bucket_of-head.result c.args.self.now.heads c.number_at.ensures c.bucket_of-head.ensures n.heads in
    let i = index_there c.args.block.now c.args.at c.bucket_of-head.result c.requires.noted.0 c.args.self.now (record { newest = 0; awaited = 0 }) n here in
    omega (arith, i, c.args.self.now.fronts.ok.0)

pub returns : goal.returns
returns c = λ ps n.
    let here = own_of c.args.block.now c.args.at c.number_at.result c.bucket_of-head.result c.args.self.now.heads c.number_at.ensures c.bucket_of-head.ensures n.heads in (
      c.in_ok-end.ensures.0,
      c.in_ok-end.ensures.1,
      noted c.args.block.now c.args.at c.bucket_of-head.result ps c.args.self.now c.index-front.result.now n here _ c.number_at-2.result c.index-front.ensures (c.if-not-fits.ensures.0 refl)
          (let m = hsize_least (length c.args.block.now) in omega (arith, m, c.requires.behind)) c.number_at-2.ensures refl refl,
    )
