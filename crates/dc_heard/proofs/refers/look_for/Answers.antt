use Rattle.std.proofs.Common.{◌<◌, [], length, ap, ◌∙◌, arith}
use Rattle.dc_model.specs.Places.{empty_places}
use Rattle.dc_machine.specs.Query.{Query, with_zone}
use Rattle.dc_frames.specs.View.{query_of}
use Rattle.dc_heard.specs.Taken.{listed}
use Rattle.dc_heard.proofs.Hosts.{looks_none, counts_none, looks_more, counts_more, looks_all, zone_counts}
use Rattle.dc_heard.proofs.refers.look_for.Goals as goal

pub loop-i-init : goal.loop-i-init
loop-i-init c =
    let q : Query = query_of c.args.query.now in
    record {
      same = looks_none q (query_of c.ask_zone.new.self) c.args.zone.now c.args.message.now.records empty_places (c.ask_zone.ensures ∙ ap (λ zone. with_zone q zone [] empty_places) c.copy.ensures);
      count = counts_none c.args.zone.now c.args.message.now.records;
    }

pub push_host-count-requires-clause-count : goal.push_host-count-requires-clause-count
push_host-count-requires-clause-count c =
    zone_counts (query_of c.args.query.now) (query_of c.loop-i.query) c.args.zone.now _ empty_places c.loop-i.count c.loop-i.invariant.same c.loop-i.invariant.count

pub loop-i-preserved : goal.loop-i-preserved
loop-i-preserved c =
    let q : Query = query_of c.args.query.now in
    let q1 : Query = query_of c.loop-i.query in
    let within : c.loop-i.i < length c.args.message.now.records = omega arith in
    record {
      same = looks_more q q1 (query_of c.push_host-count.new.query) c.args.zone.now c.args.message.now.records c.loop-i.i empty_places (listed c.host.result) within c.loop-i.invariant.same c.host.ensures c.push_host-count.ensures.query;
      count = counts_more q q1 c.args.zone.now c.args.message.now.records c.loop-i.i c.push_host-count.result empty_places (listed c.host.result) within c.loop-i.invariant.same c.host.ensures c.push_host-count.ensures.count;
    }

pub returns : goal.returns
returns c = looks_all (query_of c.args.query.now) (query_of c.loop-i.query) c.args.zone.now c.args.message.now c.loop-i.i empty_places (omega arith) c.loop-i.invariant.same
