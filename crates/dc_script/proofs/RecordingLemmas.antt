-- The line of an event, part by part.
use Rattle.std.proofs.Common.{◌≡◌, ℕ, Bool, true, false, List, [], ◌∷◌, ◌++◌, codes, decimal, refl, sym, ap, ◌∙◌, append_assoc}
use Rattle.std.proofs.lemmas.List.{append-nil}
use Rattle.std.proofs.lemmas.Grind.{flat_map-append}
use Rattle.dc_model.specs.Address.{address_text}
use Rattle.dc_model.specs.Event.{Event}
use Rattle.dc_model.specs.Line.{words}
use Rattle.dc_script.specs.Script.{Words, has_number, has_sender, has_bytes_word}
use Rattle.dc_script.specs.Text.{bytes_text}
use Rattle.dc_script.specs.EventText.{kind_text, word_if, event_text}
use Rattle.dc_script.specs.Recording.{spaced, begun_text, event_line}

words_spaced : (w : List ℕ) (ws : Words) → words (w ∷ ws) ≡ w ++ spaced ws
words_spaced w [] = sym (append-nil w)
words_spaced w (v ∷ ws) = ap (λ (l : List ℕ). w ++ (32 ∷ l)) (words_spaced v ws)

spaced_both : (xs ys : Words) → spaced (xs ++ ys) ≡ spaced xs ++ spaced ys
spaced_both xs ys = flat_map-append (λ w. 32 ∷ w) xs ys

regroup : (d k a b c x l : List ℕ) → (((((codes "at " ++ d ++ codes " " ++ k) ++ a) ++ b) ++ c) ++ x) ++ l ≡ (codes "at" ++ ((32 ∷ d) ++ ((32 ∷ k) ++ (a ++ (b ++ (c ++ x)))))) ++ l
regroup d k a b c x l = simp append_assoc

pub line_is : (e : Event)
    → ((((begun_text e.now e.kind ++ spaced (word_if (has_number e.kind) (decimal e.id))) ++ spaced (word_if (has_sender e.kind) (address_text e.addr))) ++ spaced (word_if (has_sender e.kind) (decimal e.port)))
    ++ spaced (word_if (has_bytes_word e.kind) (bytes_text e.bytes))) ++ 10 ∷ [] ≡ event_line e
unfolding event_text
line_is e =
    let number = word_if (has_number e.kind) (decimal e.id) in
    let addr = word_if (has_sender e.kind) (address_text e.addr) in
    let port = word_if (has_sender e.kind) (decimal e.port) in
    let bytes = word_if (has_bytes_word e.kind) (bytes_text e.bytes) in
    let tail : spaced (number ++ (addr ++ (port ++ bytes))) ≡ spaced number ++ (spaced addr ++ (spaced port ++ spaced bytes)) =
    spaced_both number (addr ++ (port ++ bytes)) ∙ ap (λ (l : List ℕ). spaced number ++ l) (spaced_both addr (port ++ bytes) ∙ ap (λ (l : List ℕ). spaced addr ++ l) (spaced_both port bytes)) in
    regroup (decimal e.now) (kind_text e.kind) (spaced number) (spaced addr) (spaced port) (spaced bytes) (10 ∷ [])
    ∙ ap (λ (l : List ℕ). (codes "at" ++ ((32 ∷ decimal e.now) ++ ((32 ∷ kind_text e.kind) ++ l))) ++ 10 ∷ []) (sym tail)
    ∙ ap (λ (l : List ℕ). l ++ 10 ∷ []) (sym (words_spaced (codes "at") (decimal e.now ∷ kind_text e.kind ∷ (number ++ (addr ++ (port ++ bytes))))))

pub spaced_one : (wanted : Bool) (w : List ℕ) → wanted ≡ true → 32 ∷ w ≡ spaced (word_if wanted w)
spaced_one true w e = sym (append-nil (32 ∷ w))
spaced_one false w e = cc

pub line_parts : (e : Event) (t1 t2 t3 t4 : List ℕ) (number sender sender' bytes : Bool) (port : ℕ) → t1 ≡ begun_text e.now e.kind → number ≡ has_number e.kind → t2 ≡ t1 ++ spaced (word_if number (decimal e.id))
    → sender ≡ has_sender e.kind → t3 ≡ t2 ++ spaced (word_if sender (address_text e.addr)) → sender' ≡ has_sender e.kind → port ≡ e.port → t4 ≡ t3 ++ spaced (word_if sender' (decimal port))
    → bytes ≡ has_bytes_word e.kind → (t4 ++ spaced (word_if bytes (bytes_text e.bytes))) ++ 10 ∷ [] ≡ event_line e
line_parts e t1 t2 t3 t4 number sender sender' bytes port a n b s c s' p d h = rw (d, c, b, a, n, s, s', p, h) (line_is e)
