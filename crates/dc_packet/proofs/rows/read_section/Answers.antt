use Rattle.std.proofs.Common.{◌≡◌, ◌+◌, ◌-◌, ◌<◌, ◌≤◌, ◌∷◌, ◌++◌, [], length, vec_len, suc, rules, sym, ◌∙◌, ap, subst, arith}
use Rattle.dc_model.specs.Message as model
use Rattle.dc_model.proofs.PartLemmas.{mapped}
use Rattle.dc_packet.specs.Rows.{named_section, row_of}
use Rattle.dc_packet.proofs.RowLemmas.{IsReading, reading_more}
use Rattle.dc_packet.proofs.rows.read_section.Goals as goal

pub loop-read-preserved : goal.loop-read-preserved
loop-read-preserved c =
    let p = c.args.packet.now in
    let s = named_section c.args.section in
    let row = c.in_ok-row.row in
    let before = c.args.rows.now.items in
    let items = c.loop-read.rows.items in
    let least = c.in_ok-row.ensures.least in
    let within = c.in_ok-row.ensures.within in
    let room = c.loop-read.invariant.room in
    let record_read = mapped row_of (model.record_at p s c.loop-read.at) row (sym c.in_ok-row.ensures.record) in
    let left : c.args.count - c.loop-read._read ≡ suc (c.args.count - (c.loop-read._read + 1)) = omega (arith, c.loop-read-test.true) in
    let reading = subst (λ n. IsReading p s c.args.count c.args.at before n c.loop-read.at items) left c.loop-read.invariant.reading in
    record {
      places = search rules;
      room = omega (arith, least, room, c.push_reserved.ensures.len);
      within = within;
      reading = reading_more p s c.args.count c.args.at _ c.loop-read.at (row.at + row.len) before items _ record_read.0 reading record_read.1 (ap (λ r. r.at + r.len) (sym record_read.2))
          (c.push_reserved.ensures.items ∙ ap (λ r. items ++ (r ∷ [])) (sym record_read.2));
    }
