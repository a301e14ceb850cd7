use Rattle.std.proofs.Common.{arith}
use Rattle.dc_arena.proofs.Laws.{get4-set4_same, get8-set8_same, part-stored_same, part-stored_other}
use Rattle.dc_arena.proofs.numbers_stay.Goals as goal

pub returns : goal.returns
returns c = record {
  same4 = get4-set4_same;
  same8 = get8-set8_same;
  same = λ b ws at h. part-stored_same b at ws (omega arith);
  other = λ b ws at p n h o. part-stored_other b at ws p n (omega arith) o;
}
