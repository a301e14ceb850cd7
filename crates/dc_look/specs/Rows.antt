-- Parts of the rows of a look that have no name of their own.
use Rattle.std.specs.Prelude.{[], ◌∷◌, if◌then◌else◌}
use Rattle.dc_model.specs.Message.{kind_ptr, host}
use Rattle.dc_machine.specs.Query.{is_lowest}
use Rattle.dc_machine.specs.Turn.{Setting, State, Row, goes, at_down, reply_row, reply_of, if_wanted, answer_of, localhost}

-- The name under which 127.0.0.1 is looked up was asked for.
unfoldable pub loopback_here : Setting → State → Row
loopback_here g s =
    if is_lowest s.query
    then reply_row (reply_of s.query (if_wanted s.query kind_ptr (answer_of s.query kind_ptr 655360 (host localhost) ∷ []))) [] s
    else goes s.query [] at_down
