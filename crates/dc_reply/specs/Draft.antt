-- Replies that are being built.
use Rattle.std.specs.Prelude.{◌≡◌, ◌≤◌, ℕ, Bool, true, List, length, Some}
use Rattle.dc_model.specs.Message.{Message, message_of}
use Rattle.dc_model.specs.Reply.{Written, Reply, question_written, answers_written}
use Rattle.dc_model.specs.ReadBack.{SaysReply}
use Rattle.dc_reply.specs.Put.{with_more}

-- A reply as it is kept: whether it is begun, the id and the flags, how many answers there are, how many bytes the question has,
-- and question and answers as they are written behind the header.
pub record Draft : Type 0 where
  pub begun : Bool
  pub id : ℕ
  pub flags : ℕ
  pub count : ℕ
  pub asked : ℕ
  pub written : Written

-- What is kept of a reply that is begun.
unfoldable pub draft_of : Reply → Draft
draft_of r = record {
  begun = true;
  id = r.id;
  flags = r.flags;
  count = length r.answers;
  asked = length (question_written r.question).bytes;
  written = with_more (question_written r.question) (answers_written r.answers);
}

-- Bytes are a message that says a reply: its id, flags and question, and its answers in order.
abbrev pub IsMessageOf : Reply → List ℕ → Type 0
IsMessageOf r bytes = (m : Message) × (message_of bytes ≡ Some m) × SaysReply r m

-- What is always so of what is kept: the message has at most 65535 bytes, and at least as many behind its header as it has
-- answers; the question has at most 259; and the flags are those of a response.
pub record IsInside (flags count asked len : ℕ) : Type 0 where
  pub response : flags ≤ 34179
  pub answers : count ≤ len
  pub question : asked ≤ len
  pub short : asked ≤ 259
  pub whole : len ≤ 65523
