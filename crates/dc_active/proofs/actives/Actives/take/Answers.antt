use Rattle.std.proofs.Common.{◌≡◌, ◌<◌, length, sym, subst, ap, arith, ◌∙◌}
use Rattle.std.specs.List.{remove}
use Rattle.dc_machine.specs.Kept.{AllOf}
use Rattle.dc_active.specs.View.{entry_of, queries_of, IsFit}
use Rattle.dc_active.specs.Roll.{Roll}
use Rattle.dc_active.proofs.ListLemmas.{all_read, all_remove, map_remove}
use Rattle.dc_active.proofs.EntryLemmas.{entry_at, within, udp_least, udp_taken}
use Rattle.dc_active.proofs.actives.Actives.take.Goals as goal

pub overflow_sub-self : goal.overflow_sub-self
overflow_sub-self c =
    let l : c.args.i < length c.self.inside.entries.items = within c.self.inside.entries.items c.args.self.now.queries c.args.i (ap (λ (r : Roll). r.queries) c.self.view_is) c.requires in
    udp_least c.self.inside.entries.items c.args.i c.remove-entry.result c.self.inside.udp c.udp_count.result l c.remove-entry.ensures.value c.self.invariant.udp c.udp_count.ensures

pub invariant_of-self : goal.invariant_of-self
invariant_of-self c =
    let l : c.args.i < length c.self.inside.entries.items = within c.self.inside.entries.items c.args.self.now.queries c.args.i (ap (λ (r : Roll). r.queries) c.self.view_is) c.requires in
    record {
      fit = subst (λ es. AllOf IsFit es) (sym c.remove-entry.ensures.items) (all_remove IsFit c.self.inside.entries.items c.args.i c.self.invariant.fit);
      idle = c.self.invariant.idle;
      udp = udp_taken c.self.inside.entries.items c.remove-entry.new.self.items c.args.i c.remove-entry.result c.self.inside.udp c.udp_count.result l c.remove-entry.ensures.value c.remove-entry.ensures.items c.self.invariant.udp c.udp_count.ensures;
      most = omega (arith, c.self.invariant.most, c.remove-entry.ensures.len);
      entries = omega (arith, c.self.invariant.entries, c.remove-entry.ensures.capacity);
      works = c.self.invariant.works;
    }

pub returns-clause-taken : goal.returns-clause-taken
returns-clause-taken c = entry_at c.self.inside.entries.items c.args.self.now.queries c.args.i c.remove-entry.result (ap (λ (r : Roll). r.queries) c.self.view_is) c.requires c.remove-entry.ensures.value

pub returns-clause-rest : goal.returns-clause-rest
returns-clause-rest c =
    let left : queries_of c.remove-entry.new.self.items ≡ remove c.args.self.now.queries c.args.i =
    ap (λ es. queries_of es) c.remove-entry.ensures.items ∙ map_remove entry_of c.self.inside.entries.items c.args.i ∙ ap (λ qs. remove qs c.args.i) (ap (λ (r : Roll). r.queries) c.self.view_is) in
    let spare = ap (λ (r : Roll). r.spare) c.self.view_is in
    ap (λ qs. record { queries = qs; spare = c.self.inside.spare.len }) left ∙ ap (λ n. record { queries = remove c.args.self.now.queries c.args.i; spare = n }) spare

pub returns-clause-waiting : goal.returns-clause-waiting
returns-clause-waiting c =
    let l : c.args.i < length c.self.inside.entries.items = within c.self.inside.entries.items c.args.self.now.queries c.args.i (ap (λ (r : Roll). r.queries) c.self.view_is) c.requires in
    (all_read IsFit c.self.inside.entries.items c.args.i c.remove-entry.result l c.remove-entry.ensures.value c.self.invariant.fit).waiting
