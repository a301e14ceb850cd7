-- What a query asks, as the code keeps it.
use Rattle.std.specs.Prelude.{ℕ, List, ◌++◌, Option, option_map}
use Rattle.dc_model.specs.Name.{wire}
use Rattle.dc_model.specs.Message.{Question, QuestionRead, u16, u16_at}
use Rattle.dc_packet.specs.Question.{question_read}
use Rattle.dc_simulation.specs.Tree.{question_in}
use Rattle.dc_sim.specs.declared.answer.Asked.{Asked}

-- The id and the question of a query, where it reads.
abbrev pub asked_in : List ℕ → Option (ℕ × QuestionRead)
asked_in query = option_map (λ q. (u16_at query 0, q)) (question_in query)

-- What is kept.
abbrev pub asked_of : Asked → ℕ × QuestionRead
asked_of a = (a.id, question_read a.question)

abbrev pub question_by : Asked → Question
question_by a = (question_read a.question).question

-- The bytes in front of the records.
abbrev pub head_bytes : ℕ → Question → (flags answer authority additional : ℕ) → List ℕ
head_bytes id q flags answer authority additional =
    u16 id ++ (u16 flags ++ (u16 1 ++ (u16 answer ++ (u16 authority ++ (u16 additional ++ (wire q.name ++ (u16 q.kind ++ u16 q.class)))))))
