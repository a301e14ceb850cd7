use Rattle.std.proofs.Common.{◌≡◌, ◌<◌, ◌+◌, ℕ, List, [], ◌∷◌, ◌++◌, length, true, false, sym, ap, ◌∙◌, subst, refl}
use Rattle.dc_event.specs.Bytes.{Tape}
use Rattle.dc_script.specs.Lines.{IsOneLine}
use Rattle.dc_sieve.specs.Input.{Held, NextIsLong, Reads}
use Rattle.dc_sieve.proofs.InputLemmas.{ended_by, far_last, last_reads}
use Rattle.dc_sieve.proofs.input.Input.last.Goals as goal

pub returns-in-Found-clause-reads : goal.returns-in-Found-clause-reads
returns-in-Found-clause-reads c left end =
    let f = c.in-Found.ensures.found in
    let rest : List ℕ = c.self.inside.lines.rest in
    let going : c.self.inside.ended ≡ false = ap (λ (x : Held). x.ended) c.self.view_is ∙ c.requires.going in
    let one : IsOneLine rest = subst (λ (x : Held). IsOneLine x.rest) (sym c.self.view_is) c.requires.line in
    let fed : 10 ∷ [] ≡ f.0 ++ c.next_line.new.source.left = ap (λ (t : Tape). t.left) (sym (c.self.invariant.1 going)) ∙ f.1.taken.ahead in
    let e = ended_by rest f.0 c.next_line.new.source.left c.next_line.new.self.line c.next_line.new.self.rest one f.1.finds.1 fed f.1.finds.0 in
    let old : Held = record { count = c.self.inside.count; ended = c.self.inside.ended; line = c.self.inside.lines.line; rest = rest } in
    let mid : Held = record { count = c.self.inside.count; ended = true; line = c.next_line.new.self.line; rest = c.next_line.new.self.rest } in
    subst (λ (x : Held). Reads c.found.result x x.rest c.found.new.self left) c.self.view_is
    (last_reads c.found.result old mid c.found.new.self left c.found.ensures.counts refl e.line_is e.rest_is refl c.found.ensures.ended going one c.if-is_empty.ensures end)

pub returns-in-TooLong-clause-reads : goal.returns-in-TooLong-clause-reads
returns-in-TooLong-clause-reads c left end =
    let f = c.in-TooLong.ensures.found in
    let rest : List ℕ = c.self.inside.lines.rest in
    let going : c.self.inside.ended ≡ false = ap (λ (x : Held). x.ended) c.self.view_is ∙ c.requires.going in
    let one : IsOneLine rest = subst (λ (x : Held). IsOneLine x.rest) (sym c.self.view_is) c.requires.line in
    let fed : 10 ∷ [] ≡ f.0 ++ c.next_line.new.source.left = ap (λ (t : Tape). t.left) (sym (c.self.invariant.1 going)) ∙ f.1.taken.ahead in (
      c.requires.going,
      ap (λ (x : Held). x.count + 1) c.self.view_is,
      (λ tail. subst (λ (x : Held). NextIsLong x.count (x.rest ++ tail)) c.self.view_is (far_last c.self.inside.count rest f.0 c.next_line.new.source.left tail fed one f.1.finds.1)),
      (λ e. end),
    )
