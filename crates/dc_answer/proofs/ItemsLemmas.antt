-- The items of a cached body, one by one.
use Rattle.std.proofs.Common.{◌≡◌, ℕ, Bool, true, false, List, [], ◌∷◌, ◌++◌, map, sym, ◌∙◌, ap, subst, append_assoc}
use Rattle.std.proofs.lemmas.List.{map-append}
use Rattle.dc_model.specs.Name.{Name}
use Rattle.dc_model.specs.Message.{Body}
use Rattle.dc_model.specs.Reply.{Answer, Reply, with_answer, fits}
use Rattle.dc_reply.specs.Draft.{Draft, draft_of}
use Rattle.dc_machine.specs.Query.{Query, name_of}
use Rattle.dc_machine.specs.Turn.{answer_of, reply_of}
use Rattle.dc_answer.specs.Replies.{Replies}
use Rattle.dc_answer.proofs.Found.{owned, found_added, found_exceeds}

-- The items of which the client is told, and those that are left.
pub record Taken (q : Query) (kind ttl : ℕ) (all rest : List Body) (d : Draft) : Type 0 where
  pub taken : List Body
  pub split : all ≡ taken ++ rest
  pub made : Replies true d (reply_of q (map (answer_of q kind ttl) taken))

-- The answer to one more item.
item_made : (q : Query) (kind ttl : ℕ) (all rest before : List Body) (old : Draft) (h : Taken q kind ttl all before old) (owner : Name) (body : Body) (made : Bool) (new : Draft)
    → owner ≡ name_of q
    → ((r : Reply) → old ≡ draft_of r → made ≡ fits (with_answer (owned owner kind ttl body) r))
    → ((r : Reply) → old ≡ draft_of r → made ≡ true → new ≡ draft_of (with_answer (owned owner kind ttl body) r))
    → Replies made new (reply_of q (map (answer_of q kind ttl) (h.taken ++ body ∷ [])))
item_made q kind ttl all rest before old h owner body made new own f g =
    subst (λ (xs : List Answer). Replies made new (reply_of q xs)) (sym (map-append (answer_of q kind ttl) h.taken (body ∷ [])))
    (found_added q (map (answer_of q kind ttl) h.taken) owner kind ttl body made old new own h.made f g)

item_split : (all taken before rest : List Body) (body : Body) → all ≡ taken ++ before → before ≡ body ∷ rest → all ≡ (taken ++ body ∷ []) ++ rest
item_split all taken before rest body e f = e ∙ ap (λ (xs : List Body). taken ++ xs) f ∙ sym (append_assoc taken (body ∷ []) rest)

pub Taken-more : (q : Query) (kind ttl : ℕ) (all rest before : List Body) (old : Draft) → Taken q kind ttl all before old → (owner : Name) (body item : Body) (new : Draft)
    → before ≡ item ∷ rest → body ≡ item → owner ≡ name_of q
    → ((r : Reply) → old ≡ draft_of r → true ≡ fits (with_answer (owned owner kind ttl body) r))
    → ((r : Reply) → old ≡ draft_of r → true ≡ true → new ≡ draft_of (with_answer (owned owner kind ttl body) r))
    → Taken q kind ttl all rest new
Taken-more q kind ttl all rest before old h owner body item new e b own f g = record {
  taken = h.taken ++ body ∷ [];
  split = item_split all h.taken before rest body h.split (e ∙ ap (λ (x : Body). x ∷ rest) (sym b));
  made = item_made q kind ttl all rest before old h owner body true new own f g;
}

pub Taken-exceeds : (q : Query) (kind ttl : ℕ) (all rest before : List Body) (old : Draft) → Taken q kind ttl all before old → (owner : Name) (body item : Body) (new last : Draft)
    → before ≡ item ∷ rest → body ≡ item → owner ≡ name_of q
    → ((r : Reply) → old ≡ draft_of r → false ≡ fits (with_answer (owned owner kind ttl body) r))
    → ((r : Reply) → old ≡ draft_of r → false ≡ true → new ≡ draft_of (with_answer (owned owner kind ttl body) r))
    → Replies false last (reply_of q (map (answer_of q kind ttl) all))
Taken-exceeds q kind ttl all rest before old h owner body item new last e b own f g =
    let x : Body → Answer = answer_of q kind ttl in
    subst (λ (xs : List Answer). Replies false last (reply_of q xs))
    (sym (map-append x (h.taken ++ body ∷ []) rest) ∙ ap (map x) (sym (item_split all h.taken before rest body h.split (e ∙ ap (λ (y : Body). y ∷ rest) (sym b)))))
    (found_exceeds q (map x (h.taken ++ body ∷ [])) (map x rest) new last (item_made q kind ttl all rest before old h owner body false new own f g))
