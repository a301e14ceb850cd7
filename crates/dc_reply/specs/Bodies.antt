-- Data and answers as the meaning names them.
use Rattle.std.specs.Prelude.{ℕ}
use Rattle.dc_model.specs.Name.{Name}
use Rattle.dc_model.specs.Message as model
use Rattle.dc_model.specs.Reply.{Answer}
use Rattle.dc_reply.specs.declared.body.Body.{Body}
use Rattle.dc_reply.specs.declared.body.Body.TheVariants.{Bytes, Host, Mx, Soa}

-- The data of a record.
abbrev pub body_of : Body → model.Body
body_of (Bytes bs) = model.bytes bs.now
body_of (Host n) = model.host n.now
body_of (Mx preference n) = model.mx preference n.now
body_of (Soa n m numbers) = model.soa n.now m.now numbers.now

-- An answer.
abbrev pub answer_of : Name → ℕ → ℕ → Body → Answer
answer_of owner kind ttl body = record { owner = owner; kind = kind; ttl = ttl; body = body_of body }
