-- The lines of a packet.
use Rattle.std.specs.Prelude.{ℕ, List, [], ◌∷◌, ◌++◌, map, decimal}
use Rattle.std.specs.List.{join_with_byte}
use Rattle.dc_model.specs.Line.{words}
use Rattle.dc_model.specs.Message.{u16_at, Body}
use Rattle.dc_model.specs.Name.{Name}
use Rattle.dc_packet.specs.Rows.{named_section}
use Rattle.dc_packet.specs.declared.record.Rr.{Rr}
use Rattle.dc_lookup.specs.Text.{dot, line_end, section_word, data_text}

-- The counts of the three sections.
abbrev pub counts_text : List ℕ → List ℕ
counts_text p = join_with_byte 43 (map (λ at. decimal (u16_at p at)) (6 ∷ 8 ∷ 10 ∷ []))

-- The line of a record by its row, its owner and its data.
abbrev pub line_of : Rr → Name → Body → List ℕ
line_of rr owner body = section_word (named_section rr.section) ++ words (dot owner ∷ decimal rr.ttl ∷ data_text rr.kind rr.class body ∷ []) ++ line_end
