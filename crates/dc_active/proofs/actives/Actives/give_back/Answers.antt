use Rattle.std.proofs.Common.{◌+◌, ◌∷◌, ◌++◌, [], vec_len, IsNone, sym, subst, ap, arith}
use Rattle.dc_machine.specs.Kept.{AllOf}
use Rattle.dc_active.specs.Roll.{Roll}
use Rattle.dc_active.proofs.EntryLemmas.{length_of}
use Rattle.dc_active.proofs.ListLemmas.{all_push, done}
use Rattle.dc_active.proofs.actives.Actives.give_back.Goals as goal

pub invariant_of-self : goal.invariant_of-self
invariant_of-self c =
    let items = done c.push.result c.unwrap.result (c.self.inside.spare.items ++ c.args.work ∷ []) c.push.new.self.items c.self.inside.spare.items c.unwrap.ensures c.push.ensures.items in
    let many = done c.push.result c.unwrap.result (vec_len c.self.inside.spare + 1) (vec_len c.push.new.self) (vec_len c.self.inside.spare) c.unwrap.ensures c.push.ensures.len in
    let queries = length_of c.self.inside.entries.items c.args.self.now.queries (ap (λ (r : Roll). r.queries) c.self.view_is) in
    let spare = ap (λ (r : Roll). r.spare) c.self.view_is in
    record {
      fit = c.self.invariant.fit;
      idle = subst (λ ws. AllOf (λ w. IsNone w.value.sender.attempt) ws) (sym items) (all_push (λ w. IsNone w.value.sender.attempt) c.self.inside.spare.items c.args.work c.self.invariant.idle c.requires.idle);
      udp = c.self.invariant.udp;
      most = omega (arith, c.requires.room, queries, spare, many, c.self.inside.entries.ok.0);
      entries = c.self.invariant.entries;
      works = omega (arith, c.self.invariant.works, c.push.ensures.capacity);
    }
