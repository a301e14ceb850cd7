-- The text of actions says the actions.
use Rattle.std.proofs.Common.{◌≡◌, ℕ, ◌<◌, Bool, true, false, cond, bytes_eq, List, [], ◌∷◌, length, map, codes, decimal, slice_index_or, refl, sym, ◌∙◌, ap, arith, append_assoc}
use Rattle.std.specs.List.{join_with_byte}
use Rattle.std.proofs.lemmas.List.Splits.{join_with_byte-slice_split}
use Rattle.dc_model.specs.Event.{Action, reply, conn_reply, conn_close, udp, tcp, link_write, link_close, line}
use Rattle.dc_model.specs.Line.{words}
use Rattle.dc_model.specs.Name.{number_value, dotted_parts}
use Rattle.dc_event.specs.Told.{Tells, TellsAmong}
use Rattle.dc_text.specs.Parts.{parts_of}
use Rattle.dc_script.specs.Script.{Words, pieces_of}
use Rattle.dc_model.specs.Address.{address_text}
use Rattle.dc_script.specs.Text.{bytes_text, action_words, action_text, text_of, IsAddress, IsOneAction, AreOneActions}
use Rattle.dc_script.specs.Written.{Written}
use Rattle.dc_script.specs.World.{Recorded, Wrote}
use Rattle.dc_script.proofs.ReadLemmas.{has_piece}
use Rattle.dc_script.proofs.Spelling.{lacks, split-part, split-joined, joined-lacks, value-decimal, decimal-lacks, parts-address, values-decimal, address-lacks, bytes_back, back-bytes, bytes-lack, feed-lacks}

-- What words say

abbrev word : ℕ → Words → List ℕ
word k ws = slice_index_or ws k []

abbrev number_at : ℕ → Words → ℕ
number_at k ws = number_value (word k ws)

abbrev address_at : ℕ → Words → List ℕ
address_at k ws = map number_value (dotted_parts (word k ws))

abbrev bytes_at : ℕ → Words → List ℕ
bytes_at k ws = bytes_back (word k ws)

-- The action that words say.
abbrev back : Words → Action
back ws =
    cond (bytes_eq (word 0 ws) (codes "reply")) (reply (address_at 1 ws) (number_at 2 ws) (bytes_at 3 ws))
    (cond (bytes_eq (word 0 ws) (codes "connreply")) (conn_reply (number_at 1 ws) (bytes_at 2 ws))
    (cond (bytes_eq (word 0 ws) (codes "connclose")) (conn_close (number_at 1 ws))
    (cond (bytes_eq (word 0 ws) (codes "udp")) (udp (number_at 1 ws) (number_at 2 ws) (address_at 3 ws) (bytes_at 4 ws))
    (cond (bytes_eq (word 0 ws) (codes "tcp")) (tcp (number_at 1 ws) (number_at 2 ws) (address_at 3 ws))
    (cond (bytes_eq (word 0 ws) (codes "linkwrite")) (link_write (number_at 1 ws) (bytes_at 2 ws)) (link_close (number_at 1 ws)))))))

-- The same of a line, of which the text of a log line is all that stands behind the first word.
abbrev back_line : Words → Action
back_line [] = back []
back_line (w ∷ ws) = cond (bytes_eq w (codes "line")) (line (join_with_byte 32 ws)) (back (w ∷ ws))

address-back : (a : List ℕ) → IsAddress a → map number_value (dotted_parts (address_text a)) ≡ a
address-back a h = ap (map number_value) (parts-address a h.0 h.1) ∙ values-decimal a h.1

-- Of the words

back-words : (x : Action) → IsOneAction x → back_line (parts_of 32 (words (action_words x))) ≡ x
back-words (reply addr port bytes) h =
    let small = h.1 in
    let parted = split-joined 32 (codes "reply") (address_text addr ∷ decimal port ∷ bytes_text bytes ∷ [])
    (refl, (address-lacks 32 addr (omega arith) h.0.1, (decimal-lacks 32 port (omega arith) (omega (arith, small)), (bytes-lack 32 bytes (omega arith), tt)))) in
    ap back_line parted ∙ ap (λ a. reply a (number_value (decimal port)) (bytes_back (bytes_text bytes))) (address-back addr h.0)
    ∙ ap (λ p. reply addr p (bytes_back (bytes_text bytes))) (value-decimal port (omega (arith, small))) ∙ ap (reply addr port) (back-bytes bytes)
back-words (conn_reply conn bytes) h =
    let parted = split-joined 32 (codes "connreply") (decimal conn ∷ bytes_text bytes ∷ []) (refl, (decimal-lacks 32 conn (omega arith) h, (bytes-lack 32 bytes (omega arith), tt))) in
    ap back_line parted ∙ ap (λ n. conn_reply n (bytes_back (bytes_text bytes))) (value-decimal conn h) ∙ ap (conn_reply conn) (back-bytes bytes)
back-words (conn_close conn) h =
    let parted = split-joined 32 (codes "connclose") (decimal conn ∷ []) (refl, (decimal-lacks 32 conn (omega arith) h, tt)) in
    ap back_line parted ∙ ap conn_close (value-decimal conn h)
back-words (udp link port server query) h =
    let small = h.1 in
    let parted = split-joined 32 (codes "udp") (decimal link ∷ decimal port ∷ address_text server ∷ bytes_text query ∷ [])
    (refl, (decimal-lacks 32 link (omega arith) h.0, (decimal-lacks 32 port (omega arith) (omega (arith, small)), (address-lacks 32 server (omega arith) h.2.1, (bytes-lack 32 query (omega arith), tt))))) in
    ap back_line parted ∙ ap (λ n. udp n (number_value (decimal port)) (map number_value (dotted_parts (address_text server))) (bytes_back (bytes_text query))) (value-decimal link h.0)
    ∙ ap (λ n. udp link n (map number_value (dotted_parts (address_text server))) (bytes_back (bytes_text query))) (value-decimal port (omega (arith, small)))
    ∙ ap (λ a. udp link port a (bytes_back (bytes_text query))) (address-back server h.2) ∙ ap (udp link port server) (back-bytes query)
back-words (tcp link port server) h =
    let small = h.1 in
    let parted = split-joined 32 (codes "tcp") (decimal link ∷ decimal port ∷ address_text server ∷ [])
    (refl, (decimal-lacks 32 link (omega arith) h.0, (decimal-lacks 32 port (omega arith) (omega (arith, small)), (address-lacks 32 server (omega arith) h.2.1, tt)))) in
    ap back_line parted ∙ ap (λ n. tcp n (number_value (decimal port)) (map number_value (dotted_parts (address_text server)))) (value-decimal link h.0)
    ∙ ap (λ n. tcp link n (map number_value (dotted_parts (address_text server)))) (value-decimal port (omega (arith, small))) ∙ ap (tcp link port) (address-back server h.2)
back-words (link_write link bytes) h =
    let parted = split-joined 32 (codes "linkwrite") (decimal link ∷ bytes_text bytes ∷ []) (refl, (decimal-lacks 32 link (omega arith) h, (bytes-lack 32 bytes (omega arith), tt))) in
    ap back_line parted ∙ ap (λ n. link_write n (bytes_back (bytes_text bytes))) (value-decimal link h) ∙ ap (link_write link) (back-bytes bytes)
back-words (link_close link) h =
    let parted = split-joined 32 (codes "linkclose") (decimal link ∷ []) (refl, (decimal-lacks 32 link (omega arith) h, tt)) in
    ap back_line parted ∙ ap link_close (value-decimal link h)
back-words (line text) h = ap back_line (split-part 32 (codes "line") text refl) ∙ ap line (join_with_byte-slice_split 32 text)

-- Of a line

words-one : (x : Action) → IsOneAction x → lacks 10 (words (action_words x)) ≡ true
words-one (reply addr port bytes) h =
    let small = h.1 in
    joined-lacks 10 32 (action_words (reply addr port bytes)) refl
    (refl, (address-lacks 10 addr (omega arith) h.0.1, (decimal-lacks 10 port (omega arith) (omega (arith, small)), (bytes-lack 10 bytes (omega arith), tt))))
words-one (conn_reply conn bytes) h = joined-lacks 10 32 (action_words (conn_reply conn bytes)) refl (refl, (decimal-lacks 10 conn (omega arith) h, (bytes-lack 10 bytes (omega arith), tt)))
words-one (conn_close conn) h = joined-lacks 10 32 (action_words (conn_close conn)) refl (refl, (decimal-lacks 10 conn (omega arith) h, tt))
words-one (udp link port server query) h =
    let small = h.1 in
    joined-lacks 10 32 (action_words (udp link port server query)) refl
    (refl, (decimal-lacks 10 link (omega arith) h.0, (decimal-lacks 10 port (omega arith) (omega (arith, small)), (address-lacks 10 server (omega arith) h.2.1, (bytes-lack 10 query (omega arith), tt)))))
words-one (tcp link port server) h =
    let small = h.1 in
    joined-lacks 10 32 (action_words (tcp link port server)) refl
    (refl, (decimal-lacks 10 link (omega arith) h.0, (decimal-lacks 10 port (omega arith) (omega (arith, small)), (address-lacks 10 server (omega arith) h.2.1, tt))))
words-one (link_write link bytes) h = joined-lacks 10 32 (action_words (link_write link bytes)) refl (refl, (decimal-lacks 10 link (omega arith) h, (bytes-lack 10 bytes (omega arith), tt)))
words-one (link_close link) h = joined-lacks 10 32 (action_words (link_close link)) refl (refl, (decimal-lacks 10 link (omega arith) h, tt))
words-one (line text) h = joined-lacks 10 32 (action_words (line text)) refl (refl, (feed-lacks text h, tt))

text-pieces : (x : Action) (xs : List Action) → IsOneAction x → pieces_of (text_of (x ∷ xs)) ≡ words (action_words x) ∷ pieces_of (text_of xs)
unfolding text_of action_text
text-pieces x xs h = ap pieces_of (append_assoc (words (action_words x)) (10 ∷ []) (text_of xs)) ∙ split-part 10 (words (action_words x)) (text_of xs) (words-one x h)

-- Of lines

text-none : text_of [] ≡ []
unfolding text_of
text-none = refl

rest-same : (xs ys : List ℕ) → pieces_of xs ≡ pieces_of ys → xs ≡ ys
rest-same xs ys e = sym (join_with_byte-slice_split 10 xs) ∙ ap (join_with_byte 10) e ∙ join_with_byte-slice_split 10 ys

first_same : (a b : List ℕ) (as' bs : Words) → a ∷ as' ≡ b ∷ bs → (a ≡ b) × (as' ≡ bs)
first_same a b as' bs e = (cc, cc)

piece_some : (text : List ℕ) → 0 < length (pieces_of text)
piece_some text = let p = has_piece text in omega (arith, ap length p.1.1)

pub text-same : (xs ys : List Action) → AreOneActions xs → AreOneActions ys → text_of xs ≡ text_of ys → xs ≡ ys
text-same [] [] h k e = refl
text-same [] (y ∷ ys) h k e =
    let pieces : [] ∷ [] ≡ words (action_words y) ∷ pieces_of (text_of ys) = ap pieces_of (sym text-none) ∙ ap pieces_of e ∙ text-pieces y ys k.0 in
    absurd (omega (arith, ap length pieces, piece_some (text_of ys)))
text-same (x ∷ xs) [] h k e =
    let pieces : [] ∷ [] ≡ words (action_words x) ∷ pieces_of (text_of xs) = ap pieces_of (sym text-none) ∙ ap pieces_of (sym e) ∙ text-pieces x xs h.0 in
    absurd (omega (arith, ap length pieces, piece_some (text_of xs)))
text-same (x ∷ xs) (y ∷ ys) h k e =
    let both = first_same _ _ _ _ (sym (text-pieces x xs h.0) ∙ ap pieces_of e ∙ text-pieces y ys k.0) in
    let first : x ≡ y = sym (back-words x h.0) ∙ ap (λ t. back_line (parts_of 32 t)) both.0 ∙ back-words y k.0 in
    let rest : xs ≡ ys = text-same xs ys h.1 k.1 (rest-same (text_of xs) (text_of ys) both.1) in
    ap (λ z. z ∷ xs) first ∙ ap (λ zs. y ∷ zs) rest

-- Of a world

gained_whole : {K : Type 0} (gained : K → List ℕ → K → Type 0) (before after : Bool) (old new : K) (text : List ℕ) → after ≡ false → Written gained before after old text new → gained old text new
gained_whole gained false false old new text e w = w
gained_whole gained false true old new text e w = absurd cc
gained_whole gained true false old new text e w = absurd w
gained_whole gained true true old new text e w = absurd cc

pub Wrote-tells : {S K : Type 0} (gained : K → List ℕ → K → Type 0) (refused : K → K → Type 0) (faults : K → ℕ) (old new : Recorded S K) → Tells gained old.sink new.sink → new.write_failed ≡ false → TellsAmong AreOneActions (Wrote gained refused faults) old new
Wrote-tells gained refused faults old new told whole = λ xs ys h k p q.
    text-same xs ys h k (told (text_of xs) (text_of ys)
    (gained_whole gained old.write_failed new.write_failed old.sink new.sink (text_of xs) whole p.written)
    (gained_whole gained old.write_failed new.write_failed old.sink new.sink (text_of ys) whole q.written))
