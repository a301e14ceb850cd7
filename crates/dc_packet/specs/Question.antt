-- Questions and requests, as the model has them.
use Rattle.dc_model.specs.Message as model
use Rattle.dc_packet.specs.declared.question.Question.{Question}
use Rattle.dc_packet.specs.declared.request.Request.{Request}

-- The question, and the place behind it.
abbrev pub question_read : Question → model.QuestionRead
question_read q = record { question = record { name = q.name; kind = q.kind; class = q.class }; after = q.after }

-- What a client asks.
abbrev pub asked : Request → model.Request
asked r = record { id = r.id; name = r.name; kind = r.qtype; class = r.qclass }
