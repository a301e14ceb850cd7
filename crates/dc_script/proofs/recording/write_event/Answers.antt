use Rattle.dc_engine.specs.View.{event_of}
use Rattle.dc_writer.proofs.Faring.{fared_both, whole_fares}
use Rattle.dc_writer.proofs.Writing.{wrote_as, wrote_both, whole}
use Rattle.dc_script.proofs.RecordingLemmas.{line_parts}
use Rattle.dc_script.proofs.recording.write_event.Goals as goal

pub returns-clause-put : goal.returns-clause-put
returns-clause-put g c =
    let b = g.met.K.Sink.gained_both in
    let words = rw c.as_slice.ensures.value at c.put.ensures.wrote in
    let line = wrote_both _ _ b (wrote_both _ _ b words c.write_bytes_if.ensures.wrote) c.put-2.ensures.wrote in
    let text = line_parts (event_of c.args.event c.args.bytes.now) c.push_kind.new.text.items c.push_number_if.new.text.items c.push_address_if.new.text.items c.push_number_if-2.new.text.items c.has_number.result
    c.has_sender.result c.has_sender-2.result c.has_bytes.result c.into.result c.push_kind.ensures.items c.has_number.ensures c.push_number_if.ensures.items c.has_sender.ensures c.push_address_if.ensures.items
    c.has_sender-2.ensures c.into.ensures c.push_number_if-2.ensures.items c.has_bytes.ensures in
    (whole _ _ b c.new-writer.result c.finish.result c.new-writer.ensures (wrote_as _ _ b text line) c.finish.ensures.flushed).0

pub returns-clause-fares : goal.returns-clause-fares
returns-clause-fares g c =
    let b = g.met.K.Sink.gained_both in
    let words = c.put.ensures.wrote in
    let rest = wrote_both _ _ b words c.write_bytes_if.ensures.wrote in
    let line = wrote_both _ _ b rest c.put-2.ensures.wrote in
    let rest_fared = fared_both _ _ _ b _ _ words c.put.ensures.fared c.write_bytes_if.ensures.fared in
    let line_fared = fared_both _ _ _ b _ _ rest rest_fared c.put-2.ensures.fared in
    whole_fares _ _ _ b c.new-writer.result c.finish.result _ _ c.new-writer.ensures (fared_both _ _ _ b _ _ line line_fared c.finish.ensures.fared)
