use Rattle.dc_record.proofs.HeadPieces.{place_some}
use Rattle.dc_record.proofs.head.push_allows.Goals as goal

pub push_allow-requires : goal.push_allow-requires
push_allow-requires c =
    let rows = c.as_slice-place-items in
    place_some _ rows.result.now c.args.permit.now c.loop-place.place-index c.place-item.result c.as_slice.result.now rows.ensures.octets rows.ensures.each c.loop-place-test.true c.place-item.is c.as_slice.ensures.value
