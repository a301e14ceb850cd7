use Rattle.std.proofs.Common.{ap, ◌∙◌}
use Rattle.dc_model.specs.Name.{lower}
use Rattle.dc_rules.specs.Table.{zone_of}
use Rattle.dc_record.proofs.HeadPieces.{zone_pieces}
use Rattle.dc_record.proofs.head.push_zone.Goals as goal

pub returns : goal.returns
returns c =
    zone_pieces c.args.text.now.items c.extend_from_slice.new.self.items c.push_name.new.text.items c.push_servers.new.text.items c.extend_from_slice-2.new.self.items (zone_of c.args.zone.now) c.lower.result
    c.servers.result.now c.in_ok-extend_from_slice.ensures.items (c.lower.ensures ∙ ap lower c.name.ensures.name) c.in_ok-push_name.ensures c.servers.ensures.servers c.in_ok-push_servers.ensures c.in_ok-extend_from_slice-2.ensures.items
