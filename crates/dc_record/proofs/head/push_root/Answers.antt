use Rattle.dc_rules.specs.Table.{zone_of}
use Rattle.dc_record.proofs.HeadPieces.{root_pieces}
use Rattle.dc_record.proofs.head.push_root.Goals as goal

pub returns : goal.returns
returns c =
    root_pieces c.args.text.now.items c.extend_from_slice.new.self.items c.push_servers.new.text.items c.extend_from_slice-2.new.self.items (zone_of c.args.zone.now) c.servers.result.now c.in_ok-extend_from_slice.ensures.items
    c.servers.ensures.servers c.in_ok-push_servers.ensures c.in_ok-extend_from_slice-2.ensures.items
