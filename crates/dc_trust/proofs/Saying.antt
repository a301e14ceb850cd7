-- What a client reads in a reply that has no answer that nobody told.
use Rattle.std.proofs.Common.{◌≡◌, ℕ, ◌+◌, ◌<◌, ◌≤◌, ◌^◌, ◌⊎◌, inl, inr, List, [], ◌∷◌, length, take, Bool, true, false, cond, leb, refl, sym, ◌∙◌, ap, subst, arith}
use Rattle.std.specs.Prelude.{IsTrue, All, codes, decimal}
use Rattle.std.specs.Str.{str_to_ascii_lowercase}
use Rattle.std.specs.Char.{to_ascii_lowercase}
use Rattle.std.proofs.lemmas.List.{length-map, length-append}
use Rattle.std.proofs.lemmas.Fmt.{decimal_nonempty, length-decimal-le}
use Rattle.std.proofs.lemmas.List.Elements.{All-cons, All-nil}
use Rattle.dc_model.specs.Name.{Name, IsName, IsLabel, lower, same, wire, wire_length, reverse_name}
use Rattle.dc_model.specs.Message.{kind_a, Body, bytes, host, mx, soa, Form, form_bytes, form_host, form_mx, form_soa, form_of, class_in, framed, Record, in_records, kept_ttl, IsFormed, HasNames, HasNumbers}
use Rattle.dc_model.specs.Event.{Action, reply, conn_reply, conn_close, udp, tcp, link_write, link_close, line}
use Rattle.dc_model.specs.Rules.{Zones}
use Rattle.dc_model.specs.Reply.{Answer, Reply, reply_bytes, truncated_bytes, udp_bytes, tcp_bytes}
use Rattle.dc_model.specs.ReadBack.{HasForm, IsAnswer, AreAnswers, IsReply, SameBody, Says, SayAll}
use Rattle.dc_model.proofs.NameLemmas.{head_label, tail_labels}
use Rattle.dc_model.proofs.ReadLemmas.{length-wire-lower, u16_at-front}
use Rattle.dc_model.proofs.PartLemmas.{leb_least}
use Rattle.dc_model.proofs.ZoneLemmas.{same_means}
use Rattle.dc_model.proofs.ReplyLemmas.{reply_reads, truncated_reads}
use Rattle.dc_model.specs.Puts.{pair_of, group_of, first_ttl}
use Rattle.dc_machine.specs.Turn.{loopback, localhost}
use Rattle.dc_machine.specs.Machine.{first_message}
use Rattle.dc_machine.specs.Kept.{AllOf}
use Rattle.dc_trust.specs.Trust.{Telling, IsRead, IsTold, IsBuiltInAddress, IsBuiltInName, IsFounded}
use Rattle.dc_trust.specs.Faith.{IsHonest, SaysTruth}
use Rattle.dc_trust.specs.Said.{answer_in, IsFoundedRecord, IsFoundedMessage, IsFoundedStream, TellsTruth}
use Rattle.dc_trust.proofs.Nearest.{same_sym, same_trans}
use Rattle.dc_trust.proofs.Among.{all_nil}
use Rattle.dc_trust.proofs.Reading.{read_fact}
use Rattle.dc_trust.proofs.BuiltIn.{built_in_same, built_in_good}

-- Names that are the same

labels_back : (n : Name) → All IsLabel (lower n) → All IsLabel n
labels_back [] h = All-nil IsLabel
labels_back (l ∷ ls) h =
    let c = length-map l to_ascii_lowercase in
    let p = head_label (str_to_ascii_lowercase l) (lower ls) h in
    All-cons IsLabel l ls (record { least = omega (arith, c, p.least); most = omega (arith, c, p.most) }) (labels_back ls (tail_labels (str_to_ascii_lowercase l) (lower ls) h))

labels_lower : (n : Name) → All IsLabel n → All IsLabel (lower n)
labels_lower [] h = All-nil IsLabel
labels_lower (l ∷ ls) h =
    let c = length-map l to_ascii_lowercase in
    let p = head_label l ls h in
    All-cons IsLabel (str_to_ascii_lowercase l) (lower ls) (record { least = omega (arith, c, p.least); most = omega (arith, c, p.most) }) (labels_lower ls (tail_labels l ls h))

-- A name that is the same as one within the limits is within them.
same_name : (n m : Name) → IsTrue (same n m) → IsName m → IsName n
same_name n m h k =
    let e : lower n ≡ lower m = same_means n m h in
    let a = length-wire-lower n in
    let b = length-wire-lower m in
    let c : wire_length (lower n) ≡ wire_length (lower m) = ap (λ x. wire_length x) e in
    record { labels = labels_back n (subst (All IsLabel) (sym e) (labels_lower m k.labels)); whole = omega (arith, a, b, c, k.whole) }

-- Data that is the same

like_bytes : (x : List ℕ) (b : Body) → SameBody (bytes x) b → b ≡ bytes x
like_bytes x (bytes y) h = ap (λ z. bytes z) (sym h)
like_bytes x (host m) h = absurd h
like_bytes x (mx p m) h = absurd h
like_bytes x (soa m k y) h = absurd h

like_host : (n : Name) (b : Body) → SameBody (host n) b → (m : Name) × (b ≡ host m) × IsTrue (same n m)
like_host n (bytes y) h = absurd h
like_host n (host m) h = (m, refl, h)
like_host n (mx p m) h = absurd h
like_host n (soa m k y) h = absurd h

like_mx : (p : ℕ) (n : Name) (b : Body) → SameBody (mx p n) b → (m : Name) × (b ≡ mx p m) × IsTrue (same n m)
like_mx p n (bytes y) h = absurd h
like_mx p n (host m) h = absurd h
like_mx p n (mx q m) h = (m, ap (λ i. mx i m) (sym h.0), h.1)
like_mx p n (soa m k y) h = absurd h

like_soa : (n m : Name) (x : List ℕ) (b : Body) → SameBody (soa n m x) b → (k : Name) × (l : Name) × (b ≡ soa k l x) × IsTrue (same n k) × IsTrue (same m l)
like_soa n m x (bytes y) h = absurd h
like_soa n m x (host k) h = absurd h
like_soa n m x (mx p k) h = absurd h
like_soa n m x (soa k l y) h = (k, l, ap (λ z. soa k l z) (sym h.2), h.0, h.1)

-- What is the same as one is the same.
pub body_join : (a b c : Body) → SameBody a b → SameBody a c → SameBody b c
body_join (bytes x) b c h k = subst (λ y. SameBody y c) (sym (like_bytes x b h)) (subst (λ y. SameBody (bytes x) y) (sym (like_bytes x c k)) refl)
body_join (host n) b c h k =
    let p = like_host n b h in
    let q = like_host n c k in
    subst (λ y. SameBody y c) (sym p.1) (subst (λ y. SameBody (host p.0) y) (sym q.1) (same_trans p.0 n q.0 (same_sym n p.0 p.2) q.2))
body_join (mx i n) b c h k =
    let p = like_mx i n b h in
    let q = like_mx i n c k in
    subst (λ y. SameBody y c) (sym p.1) (subst (λ y. SameBody (mx i p.0) y) (sym q.1) (refl, same_trans p.0 n q.0 (same_sym n p.0 p.2) q.2))
body_join (soa n m x) b c h k =
    let p = like_soa n m x b h in
    let q = like_soa n m x c k in
    subst (λ y. SameBody y c) (sym p.2) (subst (λ y. SameBody (soa p.0 p.1 x) y) (sym q.2) (same_trans p.0 n q.0 (same_sym n p.0 p.3) q.3, same_trans p.1 m q.1 (same_sym m p.1 p.4) q.4, refl))

-- Data that is the same as what a record says fits its type.
body_form : (f : Form) (len : ℕ) (a b : Body) → SameBody a b → IsFormed f len b → HasNames b → HasNumbers b → HasForm f a
body_form form_bytes len (bytes x) b h k n m = tt
body_form form_bytes len (host x) b h k n m = let p = like_host x b h in absurd (subst (λ y. IsFormed form_bytes len y) p.1 k)
body_form form_bytes len (mx i x) b h k n m = let p = like_mx i x b h in absurd (subst (λ y. IsFormed form_bytes len y) p.1 k)
body_form form_bytes len (soa x y z) b h k n m = let p = like_soa x y z b h in absurd (subst (λ y. IsFormed form_bytes len y) p.2 k)
body_form form_host len (host x) b h k n m = let p = like_host x b h in same_name x p.0 p.2 (subst (λ y. HasNames y) p.1 n)
body_form form_host len (bytes x) b h k n m = absurd (subst (λ y. IsFormed form_host len y) (like_bytes x b h) k)
body_form form_host len (mx i x) b h k n m = let p = like_mx i x b h in absurd (subst (λ y. IsFormed form_host len y) p.1 k)
body_form form_host len (soa x y z) b h k n m = let p = like_soa x y z b h in absurd (subst (λ y. IsFormed form_host len y) p.2 k)
body_form form_mx len (mx i x) b h k n m = let p = like_mx i x b h in (subst (λ y. HasNumbers y) p.1 m, same_name x p.0 p.2 (subst (λ y. HasNames y) p.1 n))
body_form form_mx len (bytes x) b h k n m = absurd (subst (λ y. IsFormed form_mx len y) (like_bytes x b h) k)
body_form form_mx len (host x) b h k n m = let p = like_host x b h in absurd (subst (λ y. IsFormed form_mx len y) p.1 k)
body_form form_mx len (soa x y z) b h k n m = let p = like_soa x y z b h in absurd (subst (λ y. IsFormed form_mx len y) p.2 k)
body_form form_soa len (soa x y z) b h k n m =
    let p = like_soa x y z b h in
    let i : HasNames (soa p.0 p.1 z) = subst (λ y. HasNames y) p.2 n in
    (same_name x p.0 p.3 i.0, same_name y p.1 p.4 i.1, i.2)
body_form form_soa len (bytes x) b h k n m = absurd (subst (λ y. IsFormed form_soa len y) (like_bytes x b h) k)
body_form form_soa len (host x) b h k n m = let p = like_host x b h in absurd (subst (λ y. IsFormed form_soa len y) p.1 k)
body_form form_soa len (mx i x) b h k n m = let p = like_mx i x b h in absurd (subst (λ y. IsFormed form_soa len y) p.1 k)

-- Answers that were told are answers.

abbrev AreRead : (Telling → Type 0) → Type 0
AreRead H = (t : Telling) → H t → IsRead t.message

told_answer : (zs : Zones) (H : Telling → Type 0) (C : Type 0) (a : Answer) → AreRead H → IsTold zs H C a → IsAnswer a
told_answer zs H C a read h =
    let f = read_fact h.told.telling.message h.it (read h.told.telling h.told.was_heard) h.told.there in
    record {
      owner = same_name a.owner h.it.owner h.owner f.owner;
      kind = subst (λ n. n < 2 ^ 16) h.kind f.kind;
      ttl = let w = h.week in omega (arith, w);
      body = body_form (form_of a.kind class_in) h.it.len a.body h.it.body h.says (subst (λ k. IsFormed (form_of k class_in) h.it.len h.it.body) h.kind f.formed) f.names f.numbers;
    }

-- So are those that are built in.

label : (l : List ℕ) → 1 ≤ length l → length l ≤ 63 → IsLabel l
label l h k = record { least = h; most = k }

localhost_good : IsName localhost
localhost_good = record { labels = All-cons IsLabel _ [] (label _ (omega arith) (omega arith)) (All-nil IsLabel); whole = omega arith }

octet_text : (n : ℕ) → n < 256 → IsLabel (decimal n) × (length (decimal n) ≤ 3)
octet_text n h =
    let a = decimal_nonempty n (omega (arith, h)) in
    let b = length-decimal-le 3 n (omega arith) (omega (arith, h)) (omega (arith, h)) in
    (label (decimal n) (omega (arith, a)) (omega (arith, b)), b)

one_more : (l : List ℕ) (ls : Name) (k : ℕ) → IsLabel l × (length l ≤ 3) → All IsLabel ls × (length (wire ls) ≤ k) → All IsLabel (l ∷ ls) × (length (wire (l ∷ ls)) ≤ 4 + k)
one_more l ls k h r = let e = length-append l (wire ls) in (All-cons IsLabel l ls h.0 r.0, omega (arith, h.1, r.1, e))

reverse_good : IsName (reverse_name loopback)
reverse_good =
    let end : Name = codes "in-addr" ∷ codes "arpa" ∷ [] in
    let a : All IsLabel end × (length (wire end) ≤ 14) = (All-cons IsLabel (codes "in-addr") (codes "arpa" ∷ []) (label (codes "in-addr") (omega arith) (omega arith)) (All-cons IsLabel (codes "arpa") [] (label (codes "arpa") (omega arith) (omega arith)) (All-nil IsLabel)), omega arith) in
    let b = one_more (decimal 127) end 14 (octet_text 127 (omega arith)) a in
    let c = one_more (decimal 0) (decimal 127 ∷ end) 18 (octet_text 0 (omega arith)) b in
    let d = one_more (decimal 0) (decimal 0 ∷ decimal 127 ∷ end) 22 (octet_text 0 (omega arith)) c in
    let e = one_more (decimal 1) (decimal 0 ∷ decimal 0 ∷ decimal 127 ∷ end) 26 (octet_text 1 (omega arith)) d in
    record { labels = e.0; whole = omega (arith, e.1) }

address_answer : (a : Answer) → IsBuiltInAddress a → IsAnswer a
address_answer a h = record {
  owner = elim (built_in_good a.owner h.address h.is_its) [ inl s ↦ same_name a.owner localhost s localhost_good | inr k ↦ k ];
  kind = subst (λ n. n < 2 ^ 16) (sym h.kind) (omega arith);
  ttl = subst (λ n. n < 2 ^ 32) (sym h.ttl) (omega arith);
  body = subst (λ k. HasForm (form_of k class_in) a.body) (sym h.kind) (subst (λ b. HasForm (form_of kind_a class_in) b) (sym h.body) tt);
}

name_answer : (a : Answer) → IsBuiltInName a → IsAnswer a
name_answer a h = record {
  owner = same_name a.owner (reverse_name loopback) h.is_its reverse_good;
  kind = subst (λ n. n < 2 ^ 16) (sym h.kind) (omega arith);
  ttl = subst (λ n. n < 2 ^ 32) (sym h.ttl) (omega arith);
  body = subst (λ k. HasForm (form_of k class_in) a.body) (sym h.kind) (body_form form_host 0 a.body (host localhost) h.says tt localhost_good tt);
}

founded_answer : (zs : Zones) (H : Telling → Type 0) (C : Type 0) (a : Answer) → AreRead H → IsFounded zs H C a → IsAnswer a
founded_answer zs H C a read (inl h) = told_answer zs H C a read h
founded_answer zs H C a read (inr (inl h)) = address_answer a h
founded_answer zs H C a read (inr (inr h)) = name_answer a h

founded_answers : (zs : Zones) (H : Telling → Type 0) (C : Type 0) (as' : List Answer) → AreRead H → AllOf (λ (a : Answer). IsFounded zs H C a) as' → AreAnswers as'
unfolding AllOf
founded_answers zs H C [] read h = tt
founded_answers zs H C (a ∷ as') read h = (founded_answer zs H C a read h.0, founded_answers zs H C as' read h.1)

-- What is read of an answer has its foundation.

read_founded : (zs : Zones) (H : Telling → Type 0) (C : Type 0) (a : Answer) (r : Record) → Says a r → IsFounded zs H C a → IsFounded zs H C (answer_in r)
read_founded zs H C a r s (inl h) = inl (record {
  it = h.it;
  told = h.told;
  owner = same_trans r.owner a.owner h.it.owner (same_sym a.owner r.owner s.owner) h.owner;
  kind = h.kind ∙ sym s.kind;
  says = body_join a.body r.body h.it.body s.body h.says;
  week = subst (λ n. n ≤ 604800) (sym s.ttl) h.week;
  ttl = subst (λ n. C → (n ≤ kept_ttl h.it.ttl) ⊎ (n ≤ first_ttl (group_of (in_records h.told.telling.message) (pair_of h.it)))) (sym s.ttl) h.ttl;
})
read_founded zs H C a r s (inr (inl h)) = inr (inl (record {
  address = h.address;
  is_its = built_in_same a.owner r.owner h.address h.is_its (same_means a.owner r.owner s.owner);
  kind = s.kind ∙ h.kind;
  ttl = s.ttl ∙ h.ttl;
  body = like_bytes h.address r.body (subst (λ b. SameBody b r.body) h.body s.body);
}))
read_founded zs H C a r s (inr (inr h)) = inr (inr (record {
  is_its = same_trans r.owner a.owner (reverse_name loopback) (same_sym a.owner r.owner s.owner) h.is_its;
  kind = s.kind ∙ h.kind;
  ttl = s.ttl ∙ h.ttl;
  says = body_join a.body r.body (host localhost) s.body h.says;
}))

read_records : (zs : Zones) (H : Telling → Type 0) (C : Type 0) (as' : List Answer) (rs : List Record) → SayAll as' rs → AllOf (λ (a : Answer). IsFounded zs H C a) as' → AllOf (λ (r : Record). IsFoundedRecord zs H C r) rs
unfolding AllOf
read_records zs H C [] [] s h = tt
read_records zs H C [] (r ∷ rs) s h = absurd s
read_records zs H C (a ∷ as') [] s h = absurd s
read_records zs H C (a ∷ as') (r ∷ rs) s h = (record { section = s.0.section; class = s.0.class; founded = read_founded zs H C a r s.0 h.0 }, read_records zs H C as' rs s.1 h.1)

-- Replies

small : (n : ℕ) → n + 512 < 2 ^ 16 → n < 2 ^ 16
small n h = omega (arith, h)

honest_reply : (zs : Zones) (H : Telling → Type 0) (C : Type 0) (r : Reply) → AreRead H → IsHonest zs H C r → IsReply r
honest_reply zs H C r read h = record {
  id = h.writable.id;
  flags = small r.flags h.writable.flags;
  name = h.writable.name;
  kind = h.writable.kind;
  class = h.writable.class;
  answers = founded_answers zs H C r.answers read h.answers;
  whole = h.whole;
}

whole_message : (zs : Zones) (H : Telling → Type 0) (C : Type 0) (r : Reply) → AreRead H → IsHonest zs H C r → IsFoundedMessage zs H C (reply_bytes r)
whole_message zs H C r read h =
    let m = reply_reads r (honest_reply zs H C r read h) in
    record { message = m.0; reads = m.1; records = read_records zs H C r.answers m.0.records m.2.answers h.answers }

cut_message : (zs : Zones) (H : Telling → Type 0) (C : Type 0) (r : Reply) → IsHonest zs H C r → IsFoundedMessage zs H C (truncated_bytes r)
cut_message zs H C r h = record {
  message = record { id = r.id; flags = r.flags + 512; question = r.question; records = [] };
  reads = truncated_reads r h.writable.id h.writable.flags h.writable.name h.writable.kind h.writable.class;
  records = all_nil (λ (x : Record). IsFoundedRecord zs H C x);
}

udp_message : (zs : Zones) (H : Telling → Type 0) (C : Type 0) (r : Reply) → AreRead H → IsHonest zs H C r → IsFoundedMessage zs H C (udp_bytes r)
unfolding udp_bytes
udp_message zs H C r read h = by_size (leb (length (reply_bytes r)) 512) where
  by_size : (b : Bool) → IsFoundedMessage zs H C (cond b (reply_bytes r) (truncated_bytes r))
  by_size true = whole_message zs H C r read h
  by_size false = cut_message zs H C r h

take_all : (xs : List ℕ) → take (length xs) xs ≡ xs
take_all [] = refl
take_all (x ∷ xs) = ap (λ ys. x ∷ ys) (take_all xs)

first_framed : (xs : List ℕ) → length xs < 2 ^ 16 → first_message (framed xs) ≡ xs
first_framed xs l = ap (λ n. take n xs) (u16_at-front 0 (framed xs) (length xs) xs l refl) ∙ take_all xs

tcp_stream : (zs : Zones) (H : Telling → Type 0) (C : Type 0) (r : Reply) → AreRead H → IsHonest zs H C r → IsFoundedStream zs H C (tcp_bytes r)
unfolding tcp_bytes
tcp_stream zs H C r read h =
    let l = leb_least (length (reply_bytes r)) 65535 h.whole in
    let e = first_framed (reply_bytes r) (omega (arith, l)) in
    record { framing = ap (λ b. framed b) (sym e); first = subst (λ b. IsFoundedMessage zs H C b) (sym e) (whole_message zs H C r read h) }

pub truth_told : (zs : Zones) (H : Telling → Type 0) (C : Type 0) (a : Action) → AreRead H → SaysTruth zs H C a → TellsTruth zs H C a
unfolding SaysTruth TellsTruth
truth_told zs H C (reply addr port b) read h = subst (λ x. IsFoundedMessage zs H C x) (sym h.1) (udp_message zs H C h.0 read h.2)
truth_told zs H C (conn_reply number b) read h = subst (λ x. IsFoundedStream zs H C x) (sym h.1) (tcp_stream zs H C h.0 read h.2)
truth_told zs H C (conn_close number) read h = tt
truth_told zs H C (udp link port server query) read h = tt
truth_told zs H C (tcp link port server) read h = tt
truth_told zs H C (link_write link b) read h = tt
truth_told zs H C (link_close link) read h = tt
truth_told zs H C (line text) read h = tt
