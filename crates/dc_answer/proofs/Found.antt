-- The answers behind the aliases, one by one.
use Rattle.std.proofs.Common.{◌≡◌, ℕ, Bool, true, false, List, [], ◌∷◌, ◌++◌, subst, append_assoc}
use Rattle.dc_model.specs.Name.{Name}
use Rattle.dc_model.specs.Message.{Body}
use Rattle.dc_model.specs.Reply.{Answer, Reply, reply_to, with_answer, fits}
use Rattle.dc_reply.specs.Draft.{Draft, draft_of}
use Rattle.dc_machine.specs.Query.{Query, name_of}
use Rattle.dc_machine.specs.Turn.{alias_answers, reply_of, answer_of}
use Rattle.dc_answer.specs.Replies.{Replies}
use Rattle.dc_answer.proofs.Making.{Replies-with_answer, Replies-no_more}

-- A reply that is longer only by answers.
abbrev whole : Query → List Answer → Reply
whole q answers = record { id = q.request.id; question = (reply_to q.request).question; flags = 33152; answers = answers }

-- One answer more.
added : (q : Query) (found : List Answer) (a : Answer) (made : Bool) (old new : Draft) → Replies true old (reply_of q found)
    → ((r : Reply) → old ≡ draft_of r → made ≡ fits (with_answer a r))
    → ((r : Reply) → old ≡ draft_of r → made ≡ true → new ≡ draft_of (with_answer a r))
    → Replies made new (reply_of q (found ++ a ∷ []))
unfolding reply_of
added q found a made old new before f g =
    subst (λ (answers : List Answer). Replies made new (whole q answers)) (append_assoc (alias_answers q.aliases (name_of q)) found (a ∷ []))
    (Replies-with_answer made old new a (reply_of q found) before f g)

-- An answer of this owner.
abbrev pub owned : Name → ℕ → ℕ → Body → Answer
owned owner kind ttl body = record { owner = owner; kind = kind; ttl = ttl; body = body }

-- One answer more, owned by the name on top.
pub found_added : (q : Query) (found : List Answer) (owner : Name) (kind ttl : ℕ) (body : Body) (made : Bool) (old new : Draft) → owner ≡ name_of q
    → Replies true old (reply_of q found)
    → ((r : Reply) → old ≡ draft_of r → made ≡ fits (with_answer (owned owner kind ttl body) r))
    → ((r : Reply) → old ≡ draft_of r → made ≡ true → new ≡ draft_of (with_answer (owned owner kind ttl body) r))
    → Replies made new (reply_of q (found ++ answer_of q kind ttl body ∷ []))
found_added q found owner kind ttl body made old new e before f g =
    subst (λ (o : Name). Replies made new (reply_of q (found ++ owned o kind ttl body ∷ []))) e (added q found (owned owner kind ttl body) made old new before f g)

-- Where the first answers don't fit, all of them don't.
pub found_exceeds : (q : Query) (found more : List Answer) (old new : Draft) → Replies false old (reply_of q found) → Replies false new (reply_of q (found ++ more))
unfolding reply_of
found_exceeds q found more old new h =
    subst (λ (answers : List Answer). Replies false new (whole q answers)) (append_assoc (alias_answers q.aliases (name_of q)) found more)
    (Replies-no_more old new (reply_of q found) more h)
