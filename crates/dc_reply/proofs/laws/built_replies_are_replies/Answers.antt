use Rattle.std.proofs.Common.{◌≡◌, ◌+◌, ◌≤◌, ℕ, List, [], ◌∷◌, ◌++◌, length, ap, arith}
use Rattle.std.proofs.lemmas.List.{length-append}
use Rattle.dc_model.specs.Name.{wire}
use Rattle.dc_model.specs.Message.{u16}
use Rattle.dc_model.specs.Reply.{Answer, Written, name_written, question_written, answers_written, reply_bytes, reply_to}
use Rattle.dc_model.specs.ReadBack.{IsAnswer, AreAnswers}
use Rattle.dc_model.proofs.NameLemmas.{leb_yes}
use Rattle.dc_model.proofs.WriteLemmas.{name_whole}
use Rattle.dc_reply.proofs.laws.built_replies_are_replies.Goals as goal

AreAnswers-snoc : (answers : List Answer) (a : Answer) → AreAnswers answers → IsAnswer a → AreAnswers (answers ++ a ∷ [])
AreAnswers-snoc [] a h k = (k, tt)
AreAnswers-snoc (b ∷ others) a h k = (h.0, AreAnswers-snoc others a h.1 k)

pub returns-clause-begun : goal.returns-clause-begun
unfolding reply_bytes
returns-clause-begun c r name id kind class =
    let question : Written = question_written (record { name = r.name; kind = r.kind; class = r.class }) in
    let labels : length (name_written r.name 12 []).bytes ≡ length (wire r.name) = ap (λ (bs : List ℕ). length bs) (name_whole r.name 12 [] tt) in
    let asked = length-append (name_written r.name 12 []).bytes (u16 r.kind ++ u16 r.class) in
    let behind = length-append question.bytes (answers_written [] (12 + length question.bytes) question.table).bytes in
    let whole : length (reply_bytes (reply_to r)) ≤ 65535 = omega (arith, name.whole) in
    record {
      id = id;
      flags = omega arith;
      name = name;
      kind = kind;
      class = class;
      answers = tt;
      whole = leb_yes (length (reply_bytes (reply_to r))) 65535 whole;
    }

pub returns-clause-answered : goal.returns-clause-answered
returns-clause-answered c r a h k fit = record {
  id = h.id;
  flags = h.flags;
  name = h.name;
  kind = h.kind;
  class = h.class;
  answers = AreAnswers-snoc r.answers a h.answers k;
  whole = fit;
}

pub returns-clause-nxdomain : goal.returns-clause-nxdomain
unfolding reply_bytes
returns-clause-nxdomain c r h = record {
  id = h.id;
  flags = omega arith;
  name = h.name;
  kind = h.kind;
  class = h.class;
  answers = h.answers;
  whole = h.whole;
}

pub returns-clause-servfail : goal.returns-clause-servfail
unfolding reply_bytes
returns-clause-servfail c r h = record {
  id = h.id;
  flags = omega (arith, h.flags);
  name = h.name;
  kind = h.kind;
  class = h.class;
  answers = h.answers;
  whole = h.whole;
}
