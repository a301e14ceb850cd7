-- How the servers of a zone are taken, one after another.
use Rattle.std.proofs.Common.{◌≡◌, ℕ, zero, suc, ◌≤◌, List, [], ◌∷◌, ◌++◌, length, take, map, refl, ap, sym, ◌∙◌, subst, arith, ◌+◌, ◌<◌, length-append, length-take}
use Rattle.std.proofs.lemmas.List.{append-nil}
use Rattle.dc_model.specs.Name.{Name}
use Rattle.dc_model.specs.Message.{Body}
use Rattle.dc_model.specs.Event.{Action, line}
use Rattle.dc_model.specs.Line.{line_cached_ns}
use Rattle.dc_model.specs.Places.{empty_places}
use Rattle.dc_model.specs.Marks.{host_of}
use Rattle.dc_machine.specs.Query.{Query, Frame, top, below, top_of, with_hosts, with_zone}
use Rattle.dc_look.specs.Chosen.{hosts_in, choice_among, IsAsked}

-- The lines of these servers.
abbrev pub lines_of : Name → List Body → List Action
lines_of zone bodies = map line (map (line_cached_ns zone) (hosts_in bodies))

-- The bodies in front of those that are left were taken.
pub record IsLooking {O : Type 0} (acted : O → List Action → O → Type 0) (before now : O) (zone : Name) (q q' : Query) (every left : List Body) (taken : ℕ) : Type 0 where
  pub seen : List Body
  pub parts : every ≡ seen ++ left
  pub acts : acted before (lines_of zone seen) now
  pub query : q' ≡ with_zone q zone (take 16 (hosts_in seen)) empty_places
  pub count : taken ≡ length (take 16 (hosts_in seen))

take-front : {A : Type 0} (n : ℕ) (xs ys : List A) → length xs ≡ n → take n (xs ++ ys) ≡ xs
take-front zero [] ys e = refl
take-front zero (x ∷ xs) ys e = absurd (omega arith)
take-front (suc n) [] ys e = absurd (omega arith)
take-front (suc n) (x ∷ xs) ys e = ap (λ zs. x ∷ zs) (take-front n xs ys (omega arith))

frames-kept : (fs : List Frame) (host : Name) → 0 < length fs → length (top fs).hosts ≡ 16 →
    fs ≡ record (top fs) { hosts = take 16 ((top fs).hosts ++ host ∷ []) } ∷ below fs
unfolding top below
frames-kept [] host h e = absurd (omega arith)
frames-kept (f ∷ fs) host h e = ap (λ hs. record f { hosts = hs } ∷ fs) (sym (take-front 16 f.hosts (host ∷ []) e))

-- Behind the sixteenth host none is kept.
pub hosts-kept : (q : Query) (host : Name) → 0 < length q.frames → length (top_of q).hosts ≡ 16 → q ≡ with_hosts q (take 16 ((top_of q).hosts ++ host ∷ []))
hosts-kept q host h e = ap (λ fs. record q { frames = fs }) (frames-kept q.frames host h e)

-- One host more.
pub hosts-added : (q q' : Query) (host : Name) (n : ℕ) → q' ≡ with_hosts q ((top_of q).hosts ++ host ∷ []) → n ≡ length (top_of q).hosts → n + 1 ≡ length (top_of q').hosts
unfolding top
hosts-added q q' host n e h =
    let k : (top_of q').hosts ≡ (top_of q).hosts ++ host ∷ [] = ap (λ x. (top_of x).hosts) e in
    let l : length (top_of q').hosts ≡ length (top_of q).hosts + 1 = ap (λ (x : List Name). length x) k ∙ length-append (top_of q).hosts (host ∷ []) in
    omega arith

pub looking-begins : {O : Type 0} {acted : O → List Action → O → Type 0} (none : (a : O) → acted a [] a) (before : O) (zone : Name) (q q' : Query) (every : List Body) →
    q' ≡ with_zone q zone [] empty_places → IsLooking acted before before zone q q' every every 0
looking-begins none before zone q q' every e = record { seen = []; parts = refl; acts = none before; query = e; count = refl }

take-take : {A : Type 0} (n : ℕ) (xs : List A) (y : A) → take n (take n xs ++ y ∷ []) ≡ take n (xs ++ y ∷ [])
take-take zero xs y = refl
take-take (suc n) [] y = refl
take-take (suc n) (x ∷ xs) y = ap (λ zs. x ∷ zs) (take-take n xs y)

hosts-more : (seen : List Body) (b : Body) → hosts_in (seen ++ b ∷ []) ≡ hosts_in seen ++ host_of b ∷ []
hosts-more [] b = refl
hosts-more (x ∷ seen) b = ap (λ zs. host_of x ∷ zs) (hosts-more seen b)

lines-more : (zone : Name) (seen : List Body) (b : Body) → lines_of zone (seen ++ b ∷ []) ≡ lines_of zone seen ++ line (line_cached_ns zone (host_of b)) ∷ []
lines-more zone [] b = refl
lines-more zone (x ∷ seen) b = ap (λ zs. line (line_cached_ns zone (host_of x)) ∷ zs) (lines-more zone seen b)

one-more : (seen left : List Body) (b : Body) → seen ++ b ∷ left ≡ (seen ++ b ∷ []) ++ left
one-more [] left b = refl
one-more (x ∷ seen) left b = ap (λ zs. x ∷ zs) (one-more seen left b)

-- A frame whose servers are written anew.
zone-hosts : (q q' : Query) (zone : Name) (hosts hosts' : List Name) → q' ≡ with_zone q zone hosts empty_places → with_hosts q' hosts' ≡ with_zone q zone hosts' empty_places
unfolding top below
zone-hosts q q' zone hosts hosts' e = ap (λ x. with_hosts x hosts') e

zone-hosts-are : (q q' : Query) (zone : Name) (hosts : List Name) → q' ≡ with_zone q zone hosts empty_places → (top_of q').hosts ≡ hosts
unfolding top
zone-hosts-are q q' zone hosts e = ap (λ x. (top_of x).hosts) e

pub looking-hosts : {O : Type 0} {acted : O → List Action → O → Type 0} {before now : O} {zone : Name} {q q' : Query} {every left : List Body} {taken : ℕ} →
    IsLooking acted before now zone q q' every left taken → taken ≡ length (top_of q').hosts
looking-hosts {zone = zone} {q = q} {q' = q'} k = k.count ∙ ap (λ (x : List Name). length x) (sym (zone-hosts-are q q' zone _ k.query))

pub looking-few : {O : Type 0} {acted : O → List Action → O → Type 0} {before now : O} {zone : Name} {q q' : Query} {every left : List Body} {taken : ℕ} →
    IsLooking acted before now zone q q' every left taken → taken ≤ 16
looking-few k = omega (arith, k.count, length-take 16 (hosts_in k.seen))

pub looking-more : {O : Type 0} {acted : O → List Action → O → Type 0} (both : (a b c : O) (xs ys : List Action) → acted a xs b → acted b ys c → acted a (xs ++ ys) c)
    (before now later : O) (zone : Name) (q q' q'' : Query) (every left left' : List Body) (b : Body) (taken taken' : ℕ) →
    IsLooking acted before now zone q q' every left taken → left ≡ b ∷ left' →
    acted now (line (line_cached_ns zone (host_of b)) ∷ []) later →
    q'' ≡ with_hosts q' (take 16 ((top_of q').hosts ++ host_of b ∷ [])) → taken' ≡ length (top_of q'').hosts →
    IsLooking acted before later zone q q'' every left' taken'
looking-more {acted = acted} both before now later zone q q' q'' every left left' b taken taken' k e a w n =
    let hosts : take 16 ((top_of q').hosts ++ host_of b ∷ []) ≡ take 16 (hosts_in (k.seen ++ b ∷ [])) =
    ap (λ hs. take 16 (hs ++ host_of b ∷ [])) (zone-hosts-are q q' zone _ k.query) ∙ (take-take 16 (hosts_in k.seen) (host_of b) ∙ ap (take 16) (sym (hosts-more k.seen b))) in
    let after : q'' ≡ with_zone q zone (take 16 (hosts_in (k.seen ++ b ∷ []))) empty_places =
    w ∙ (zone-hosts q q' zone _ _ k.query ∙ ap (λ hs. with_zone q zone hs empty_places) hosts) in
    record {
      seen = k.seen ++ b ∷ [];
      parts = k.parts ∙ (ap (λ xs. k.seen ++ xs) e ∙ one-more k.seen left' b);
      acts = subst (λ xs. acted before xs later) (sym (lines-more zone k.seen b)) (both before now later _ _ k.acts a);
      query = after;
      count = n ∙ ap (λ (x : List Name). length x) (zone-hosts-are q q'' zone _ after);
    }

pub looking-ends : {O : Type 0} {acted : O → List Action → O → Type 0} {before now : O} {zone : Name} {q q' : Query} {every left : List Body} {taken : ℕ} →
    IsLooking acted before now zone q q' every left taken → left ≡ [] → IsAsked acted before q (choice_among zone every) now q'
unfolding choice_among
looking-ends {acted = acted} {before = before} {now = now} {zone = zone} {q = q} {every = every} k e =
    let is : k.seen ≡ every = sym (k.parts ∙ (ap (λ xs. k.seen ++ xs) e ∙ append-nil k.seen)) in
    record {
      acts = subst (λ xs. acted before (lines_of zone xs) now) is k.acts;
      query = k.query ∙ ap (λ xs. with_zone q zone (take 16 (hosts_in xs)) empty_places) is;
    }
