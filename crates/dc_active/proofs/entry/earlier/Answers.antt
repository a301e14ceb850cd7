use Rattle.std.proofs.Common.{◌<◌, ◌+◌, drop, length, sym, ◌∙◌, rules}
use Rattle.dc_active.specs.View.{queries_of}
use Rattle.dc_active.proofs.EarliestLemmas.{least_of, none_of, least_within, last_entry, least_behind, least_here}
use Rattle.dc_active.proofs.entry.earlier.Goals as goal

pub bounds-entries-other : goal.bounds-entries-other
bounds-entries-other c = least_within (drop (c.args.place + 1) (queries_of c.args.entries.now)) c.args.entries.now c.in-Some.other (least_of (drop (c.args.place + 1) (queries_of c.args.entries.now)) (queries_of c.args.entries.now) c.args.behind c.in-Some.other c.in-Some.is c.requires.behind)

pub offset_bounds-entries-other : goal.offset_bounds-entries-other
offset_bounds-entries-other c =
    let l : c.in-Some.other < length c.args.entries.now = least_within (drop (c.args.place + 1) (queries_of c.args.entries.now)) c.args.entries.now c.in-Some.other (least_of (drop (c.args.place + 1) (queries_of c.args.entries.now)) (queries_of c.args.entries.now) c.args.behind c.in-Some.other c.in-Some.is c.requires.behind) in
    search rules

pub returns-in_default : goal.returns-in_default
returns-in_default c = record {
  least = last_entry c.args.entries.now c.args.place c.requires.place (none_of (drop (c.args.place + 1) (queries_of c.args.entries.now)) (queries_of c.args.entries.now) c.args.behind c.in_default.is c.requires.behind);
}

pub returns-then-is_before : goal.returns-then-is_before
returns-then-is_before c =
    let least = (least_of (drop (c.args.place + 1) (queries_of c.args.entries.now)) (queries_of c.args.entries.now) c.args.behind c.in-Some.other c.in-Some.is c.requires.behind) in
    record {
      least = least_behind c.args.entries.now c.args.place c.in-Some.other c.index-entries-place.result c.index-entries-other.result c.requires.fit c.requires.place c.index-entries-place.is
          (least_within (drop (c.args.place + 1) (queries_of c.args.entries.now)) c.args.entries.now c.in-Some.other least) c.index-entries-other.is least (sym c.is_before.ensures ∙ c.if-is_before.true);
    }

pub returns-else-is_before : goal.returns-else-is_before
returns-else-is_before c =
    let least = (least_of (drop (c.args.place + 1) (queries_of c.args.entries.now)) (queries_of c.args.entries.now) c.args.behind c.in-Some.other c.in-Some.is c.requires.behind) in
    record {
      least = least_here c.args.entries.now c.args.place c.in-Some.other c.index-entries-place.result c.index-entries-other.result c.requires.fit c.requires.place c.index-entries-place.is
          (least_within (drop (c.args.place + 1) (queries_of c.args.entries.now)) c.args.entries.now c.in-Some.other least) c.index-entries-other.is least (sym c.is_before.ensures ∙ c.if-is_before.false);
    }
