-- Rows that are replies.
use Rattle.std.proofs.Common.{◌≡◌, Bool, true, false, if◌then◌else◌, [], refl, ap}
use Rattle.dc_model.specs.Message.{Message}
use Rattle.dc_model.specs.Reply.{Reply, fits}
use Rattle.dc_model.specs.Line.{too_long}
use Rattle.dc_reply.specs.Draft.{Draft}
use Rattle.dc_machine.specs.Query.{is_lowest, with_addresses}
use Rattle.dc_machine.specs.Turn.{State, ends, goes, at_down, replied, dropped, reply_row, reply_of, heard_answers, heard_addresses, answers_row}
use Rattle.dc_desk.specs.declared.step.Step.{Step}
use Rattle.dc_desk.specs.Steps.{Follows}
use Rattle.dc_heard.specs.Quiet.{Leads}

reply_acts : (r : Reply) (s : State) → (reply_row r [] s).actions ≡ []
unfolding reply_row
reply_acts r s = own (fits r) where
  own : (b : Bool) → (if b then ends s.query [] (replied r) else ends s.query [] (dropped too_long)).actions ≡ []
  own true = refl
  own false = refl

reply_puts : (r : Reply) (s : State) → (reply_row r [] s).puts ≡ []
unfolding reply_row
reply_puts r s = own (fits r) where
  own : (b : Bool) → (if b then ends s.query [] (replied r) else ends s.query [] (dropped too_long)).puts ≡ []
  own true = refl
  own false = refl

reply_query : (r : Reply) (s : State) → s.query ≡ (reply_row r [] s).query
unfolding reply_row
reply_query r s = own (fits r) where
  own : (b : Bool) → s.query ≡ (if b then ends s.query [] (replied r) else ends s.query [] (dropped too_long)).query
  own true = refl
  own false = refl

-- a reply leads to what follows it
pub leads_reply : (r : Reply) (s : State) (d : Draft) (step : Step) → Follows step d (reply_row r [] s).following → Leads (reply_row r [] s) s.query d step
leads_reply r s d step h = record { acts = reply_acts r s; puts = reply_puts r s; query = reply_query r s; next = h }

-- an answer at level 0 is a reply
pub answers_lowest : (m : Message) (s : State) → is_lowest s.query ≡ true → answers_row m s ≡ reply_row (reply_of s.query (heard_answers s.query m)) [] s
unfolding answers_row
answers_lowest m s h = ap (λ (b : Bool). if b then reply_row (reply_of s.query (heard_answers s.query m)) [] s else goes (with_addresses s.query (heard_addresses s.query m)) [] at_down) h
