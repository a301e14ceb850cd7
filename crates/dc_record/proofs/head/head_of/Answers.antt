use Rattle.dc_rules.specs.Table.{table_of}
use Rattle.dc_record.proofs.HeadPieces.{head_pieces}
use Rattle.dc_record.proofs.Saying.{is_told}
use Rattle.dc_record.proofs.head.head_of.Goals as goal

pub returns-clause-lines : goal.returns-clause-lines
returns-clause-lines c =
    head_pieces c.args.config.now c.args.seed.now c.new-text.result.items c.push_front.new.text.items c.push_allows.new.text.items c.push_zones.new.text.items c.push_last.new.text.items (table_of c.as_slice.result.now) c.requires.said
    c.new-text.ensures.items c.in_ok-push_front.ensures c.in_ok-push_allows.ensures c.in_ok-push_zones.ensures c.as_slice.ensures.zones c.in_ok-push_last.ensures

pub returns-clause-told : goal.returns-clause-told
returns-clause-told c = is_told c.args.config.now c.args.seed.now c.are_parts.ensures c.told-seed c.are_bytes.ensures c.requires.said
