use Rattle.dc_record.proofs.HeadPieces.{octets_begin}
use Rattle.dc_record.proofs.head.push_octets.Goals as goal

pub loop-octet-init : goal.loop-octet-init
loop-octet-init c = octets_begin c.args.octets.now c.args.text.now.items c.push_number.new.text.items c.into.result c.requires c.into.ensures c.in_ok-push_number.ensures
