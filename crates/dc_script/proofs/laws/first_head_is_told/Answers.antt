use Rattle.std.proofs.Common.{refl, arith, inl}
use Rattle.dc_script.proofs.HeadTextLemmas.{zeros}
use Rattle.dc_script.proofs.laws.first_head_is_told.Goals as goal

pub returns : goal.returns
returns c = record {
  version = inl refl;
  size = omega arith;
  allowed = ((refl, refl), omega arith, (_, refl, refl));
  some = omega arith;
  are = ((((refl, (omega arith, (omega arith, (omega arith, (omega arith, tt))))), refl), tt), omega arith);
  added = ((refl, refl), omega arith, refl, (tt, omega arith), (_, refl, (_, refl, refl)));
  seed = (refl, zeros 32);
}
