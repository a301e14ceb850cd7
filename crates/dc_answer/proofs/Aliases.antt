-- The aliases of a reply, one by one.
use Rattle.std.proofs.Common.{◌≡◌, ℕ, zero, suc, ◌+◌, ◌<◌, ◌≤◌, Bool, true, false, List, [], ◌∷◌, ◌++◌, length, take, drop, refl, sym, ◌∙◌, ap, subst, arith, Some, option_map, slice_get}
use Rattle.std.proofs.lemmas.List.{take_all, take_more, take-append-drop, append-nil}
use Rattle.std.proofs.lemmas.Option.{slice_get_past, slice_get_within, get_or_from_slice_get}
use Rattle.dc_model.specs.Name.{Name}
use Rattle.dc_model.specs.Message.{kind_cname, host}
use Rattle.dc_model.specs.Reply.{Answer, Reply, reply_to, with_answer, fits}
use Rattle.dc_reply.specs.Draft.{Draft, draft_of}
use Rattle.dc_machine.specs.Query.{Alias, Query, name_of}
use Rattle.dc_machine.specs.Turn.{alias_answers, reply_of}
use Rattle.dc_answer.specs.Replies.{Replies, first_aliases, target_by, target_of}
use Rattle.dc_answer.proofs.Making.{Replies-with_answer, Replies-no_more}

-- What the client is told of an alias.
abbrev pub cname : Alias → Name → Answer
cname a target = record { owner = a.name; kind = kind_cname; ttl = a.ttl; body = host target }

length-alias_answers : (as' : List Alias) (name : Name) → length (alias_answers as' name) ≡ length as'
unfolding alias_answers
length-alias_answers [] name = refl
length-alias_answers (a ∷ []) name = refl
length-alias_answers (a ∷ b ∷ as') name = ap suc (length-alias_answers (b ∷ as') name)

same_cname : (b a : Alias) (target : Name) → Some b ≡ Some a → Some (cname b target) ≡ Some (cname a target)
same_cname b a target e = ap (option_map (λ (x : Alias). cname x target)) e

-- Each leads to the name of the next one.
alias_answers-get : (as' : List Alias) (name : Name) (i : ℕ) (a : Alias) → slice_get as' i ≡ Some a
    → slice_get (alias_answers as' name) i ≡ Some (cname a (target_by (slice_get as' (suc i)) name))
unfolding alias_answers
alias_answers-get [] name i a h = absurd (cc)
alias_answers-get (b ∷ []) name zero a h = same_cname b a name h
alias_answers-get (b ∷ []) name (suc k) a h = absurd (cc)
alias_answers-get (b ∷ c ∷ as') name zero a h = same_cname b a c.name h
alias_answers-get (b ∷ c ∷ as') name (suc k) a h = alias_answers-get (c ∷ as') name k a h

-- No alias is told of yet.
pub first_aliases-none : (q : Query) → reply_to q.request ≡ first_aliases 0 q
unfolding first_aliases
first_aliases-none q = refl

-- One more is told of.
pub first_aliases-more : (q : Query) (i : ℕ) (a : Alias) → slice_get q.aliases i ≡ Some a
    → first_aliases (i + 1) q ≡ with_answer (cname a (target_of q i)) (first_aliases i q)
unfolding first_aliases
first_aliases-more q i a h =
    let xs : List Answer = alias_answers q.aliases (name_of q) in
    let next : suc i ≡ i + 1 = omega arith in
    let x : Answer = cname a (target_of q i) in
    let here : slice_get xs i ≡ Some x =
    alias_answers-get q.aliases (name_of q) i a h ∙ ap (λ (n : ℕ). Some (cname a (target_by (slice_get q.aliases n) (name_of q)))) next in
    let within : i < length xs = slice_get_within xs i x here in
    ap (λ (ys : List Answer). record { id = q.request.id; question = (reply_to q.request).question; flags = 33152; answers = ys })
    (take_more xs i x within ∙ ap (λ (y : Answer). take i xs ++ y ∷ []) (get_or_from_slice_get xs i x x here))

-- The next alias, and what stands behind the last.
pub target-next : (q : Query) (i : ℕ) (a : Alias) (name : Name) → slice_get q.aliases (i + 1) ≡ Some a → name ≡ a.name → name ≡ target_of q i
target-next q i a name h e = rw h e

pub target-last : (q : Query) (i : ℕ) (name : Name) → length q.aliases ≤ i + 1 → name ≡ name_of q → name ≡ target_of q i
target-last q i name h e = rw (slice_get_past q.aliases (i + 1) h) e

pub alias_added : (q : Query) (i : ℕ) (a : Alias) (target : Name) (made : Bool) (old new : Draft) → slice_get q.aliases i ≡ Some a → target ≡ target_of q i
    → Replies true old (first_aliases i q)
    → ((r : Reply) → old ≡ draft_of r → made ≡ fits (with_answer (cname a target) r))
    → ((r : Reply) → old ≡ draft_of r → made ≡ true → new ≡ draft_of (with_answer (cname a target) r))
    → Replies made new (first_aliases (i + 1) q)
alias_added q i a target made old new h e before f g =
    subst (λ (r : Reply). Replies made new r)
    (ap (λ (t : Name). with_answer (cname a t) (first_aliases i q)) e ∙ sym (first_aliases-more q i a h))
    (Replies-with_answer made old new (cname a target) (first_aliases i q) before f g)

-- All are told of.
pub first_aliases-all : (q : Query) (n : ℕ) → length q.aliases ≤ n → first_aliases n q ≡ reply_of q []
unfolding first_aliases reply_of
first_aliases-all q n h =
    let xs : List Answer = alias_answers q.aliases (name_of q) in
    let l = length-alias_answers q.aliases (name_of q) in
    ap (λ (ys : List Answer). record { id = q.request.id; question = (reply_to q.request).question; flags = 33152; answers = ys })
    (take_all n xs (omega (arith, l)) ∙ sym (append-nil xs))

-- Where the first don't fit, the whole doesn't.
pub first_aliases-exceed : (q : Query) (n : ℕ) (old new : Draft) → Replies false old (first_aliases n q) → Replies false new (reply_of q [])
unfolding first_aliases reply_of
first_aliases-exceed q n old new h =
    let xs : List Answer = alias_answers q.aliases (name_of q) in
    subst (λ (ys : List Answer). Replies false new (record { id = q.request.id; question = (reply_to q.request).question; flags = 33152; answers = ys }))
    (take-append-drop n xs ∙ sym (append-nil xs))
    (Replies-no_more old new (first_aliases n q) (drop n xs) h)
