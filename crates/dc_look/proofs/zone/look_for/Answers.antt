use Rattle.std.proofs.Common.{◌≡◌, ◌++◌, ◌∷◌, [], take, ap, ◌∙◌}
use Rattle.dc_model.specs.Line.{line_cached_ns}
use Rattle.dc_model.specs.Marks.{host_of}
use Rattle.dc_packet.specs.Data.{body_of}
use Rattle.dc_frames.specs.View.{query_of}
use Rattle.dc_machine.specs.Query.{top_of, with_hosts}
use Rattle.dc_look.proofs.Looking.{looking-hosts, looking-few, looking-more, looking-ends}
use Rattle.dc_look.proofs.zone.look_for.Goals as goal

pub keep-taken-requires-clause-taken : goal.keep-taken-requires-clause-taken
keep-taken-requires-clause-taken g c = looking-hosts c.loop-item.invariant

pub keep-taken-requires-clause-few : goal.keep-taken-requires-clause-few
keep-taken-requires-clause-few g c = looking-few c.loop-item.invariant

pub loop-item-preserved : goal.loop-item-preserved
loop-item-preserved g c =
    let host : c.host_of-host.result ≡ host_of (body_of c.in-Some.item) = c.host_of-host.ensures in
    let text : c.text.result.now ≡ line_cached_ns c.args.zone (host_of (body_of c.in-Some.item)) =
    c.text.ensures.bytes ∙ (c.line_cached_ns.ensures ∙ ap (line_cached_ns c.args.zone) host) in
    looking-more g.met.O.Effects.acted_both c.args.out.now c.loop-item.out c.line.new.self c.args.zone (query_of c.args.query.now) (query_of c.loop-item.query) (query_of c.keep-taken.new.query)
    c.args.hosts c.loop-item.hosts c.next_item.new.self (body_of c.in-Some.item) c.loop-item.taken c.keep-taken.result
    c.loop-item.invariant c.in-Some.ensures (rw text at c.line.ensures)
    (c.keep-taken.ensures.query ∙ ap (λ h. with_hosts (query_of c.loop-item.query) (take 16 ((top_of (query_of c.loop-item.query)).hosts ++ h ∷ []))) host)
    c.keep-taken.ensures.taken

pub returns : goal.returns
returns g c = looking-ends c.loop-item.invariant c.in_default.ensures.0
