use Rattle.std.proofs.Common.{◌+◌, vec_len, sym, subst, ap, refl, ◌∙◌, arith}
use Rattle.std.specs.List.{insert}
use Rattle.dc_machine.specs.Kept.{AllOf}
use Rattle.dc_machine.specs.Machine.{is_udp, with_query}
use Rattle.dc_active.specs.View.{client_of, active_of, queries_of, IsFit}
use Rattle.dc_active.specs.Roll.{Roll}
use Rattle.dc_active.proofs.EntryLemmas.{length_of, place_is, place_within, put_at, udp_put, udp_room}
use Rattle.dc_active.proofs.ListLemmas.{all_insert, done}
use Rattle.dc_active.proofs.actives.Actives.put.Goals as goal

pub overflow_add-self : goal.overflow_add-self
overflow_add-self c = omega (arith, udp_room c.self.inside.entries.items (is_udp (client_of c.args.taken.client)) c.self.inside.udp c.udp_count.result c.self.invariant.udp c.udp_count.ensures, c.self.invariant.most, c.self.inside.entries.ok.0)

pub insert-requires : goal.insert-requires
insert-requires c = omega (arith, place_within c.args.taken.serial c.self.inside.entries.items c.deref.result.now c.place_for-place.result c.deref.ensures.value c.place_for-place.ensures, c.self.inside.entries.ok.0)

pub unwrap-requires : goal.unwrap-requires
unwrap-requires c =
    let queries = length_of c.self.inside.entries.items c.args.self.now.queries (ap (λ (r : Roll). r.queries) c.self.view_is) in
    let spare = ap (λ (r : Roll). r.spare) c.self.view_is in
    c.insert.ensures.succeeds (omega (arith, c.requires.room, queries, spare, c.self.invariant.entries, c.self.inside.entries.ok.0))

pub invariant_of-self : goal.invariant_of-self
invariant_of-self c =
    let items = done c.insert.result c.unwrap.result (insert c.self.inside.entries.items c.place_for-place.result c.new.result) c.insert.new.self.items c.self.inside.entries.items c.unwrap.ensures c.insert.ensures.items in
    let many = done c.insert.result c.unwrap.result (vec_len c.self.inside.entries + 1) (vec_len c.insert.new.self) (vec_len c.self.inside.entries) c.unwrap.ensures c.insert.ensures.len in
    let queries = length_of c.self.inside.entries.items c.args.self.now.queries (ap (λ (r : Roll). r.queries) c.self.view_is) in
    let spare = ap (λ (r : Roll). r.spare) c.self.view_is in
    let place = place_is c.args.taken.serial c.self.inside.entries.items c.deref.result.now c.place_for-place.result c.deref.ensures.value c.place_for-place.ensures in
    record {
      fit = subst (λ es. AllOf IsFit es) (sym items) (all_insert IsFit c.self.inside.entries.items c.place_for-place.result c.new.result c.new.ensures.fit c.self.invariant.fit);
      idle = c.self.invariant.idle;
      udp = udp_put (active_of c.args.taken) c.self.inside.entries.items c.insert.new.self.items c.self.inside.udp c.udp_count.result
          (put_at (active_of c.args.taken) c.args.taken.serial c.place_for-place.result c.self.inside.entries.items c.insert.new.self.items (queries_of c.self.inside.entries.items) c.new.result refl place items c.new.ensures.query refl)
          c.self.invariant.udp c.udp_count.ensures;
      most = omega (arith, c.requires.room, queries, spare, many, c.self.inside.entries.ok.0);
      entries = omega (arith, c.self.invariant.entries, c.insert.ensures.capacity);
      works = c.self.invariant.works;
    }

pub returns : goal.returns
returns c =
    let items = done c.insert.result c.unwrap.result (insert c.self.inside.entries.items c.place_for-place.result c.new.result) c.insert.new.self.items c.self.inside.entries.items c.unwrap.ensures c.insert.ensures.items in
    let place = place_is c.args.taken.serial c.self.inside.entries.items c.deref.result.now c.place_for-place.result c.deref.ensures.value c.place_for-place.ensures in
    let queries = put_at (active_of c.args.taken) c.args.taken.serial c.place_for-place.result c.self.inside.entries.items c.insert.new.self.items c.args.self.now.queries c.new.result refl place items c.new.ensures.query (ap (λ (r : Roll). r.queries) c.self.view_is) in
    let spare = ap (λ (r : Roll). r.spare) c.self.view_is in
    ap (λ qs. record { queries = qs; spare = c.self.inside.spare.len }) queries ∙ ap (λ n. record { queries = with_query (active_of c.args.taken) c.args.self.now.queries; spare = n }) spare
