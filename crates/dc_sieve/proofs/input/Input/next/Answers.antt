use Rattle.std.proofs.Common.{◌≡◌, ◌+◌, ◌≤◌, ℕ, List, [], ◌∷◌, ◌++◌, length, true, false, true≢false, sym, ap, ◌∙◌, subst, arith, refl}
use Rattle.std.specs.Io.KnownBytes.{IsAtEnd}
use Rattle.dc_sieve.specs.Input.{Held, NextIsLong, Reads}
use Rattle.dc_sieve.proofs.InputLemmas.{far_long, found_reads, reads_from}
use Rattle.dc_sieve.proofs.input.Input.next.Goals as goal

pub returns-in-Found-clause-reads : goal.returns-in-Found-clause-reads
returns-in-Found-clause-reads g c =
    let f = c.in-Found.ensures.found in
    let mid : Held = record { count = c.self.inside.count; ended = c.self.inside.ended; line = c.next_line.new.self.line; rest = c.next_line.new.self.rest } in
    let old : Held = record { count = c.self.inside.count; ended = c.self.inside.ended; line = c.self.inside.lines.line; rest = c.self.inside.lines.rest } in (
      f.0,
      f.1.taken,
      subst (λ (x : Held). Reads c.found.result x (x.rest ++ f.0) c.found.new.self (g.S.Source.left c.next_line.new.source)) c.self.view_is
          (found_reads c.found.result old mid c.found.new.self (old.rest ++ f.0) (g.S.Source.left c.next_line.new.source) c.found.ensures.counts refl c.found.ensures.ended c.if-self.false f.1.finds.0 f.1.finds.1),
    )

pub returns-in-Ended-clause-reads : goal.returns-in-Ended-clause-reads
returns-in-Ended-clause-reads g c =
    let f = c.in-Ended.ensures.found in
    let mid : Held = record { count = c.self.inside.count; ended = c.self.inside.ended; line = c.next_line.new.self.line; rest = c.next_line.new.self.rest } in
    let old : Held = record { count = c.self.inside.count; ended = c.self.inside.ended; line = c.self.inside.lines.line; rest = c.self.inside.lines.rest } in (
      f.0,
      f.1.taken,
      subst (λ (x : Held). Reads c.last.result x (x.rest ++ f.0) c.last.new.self (g.S.Source.left c.next_line.new.source)) c.self.view_is
          (reads_from c.last.result old mid c.last.new.self (old.rest ++ f.0) (g.S.Source.left c.next_line.new.source) refl refl f.1.finds.0 (c.last.ensures.reads (g.S.Source.left c.next_line.new.source) f.1.finds.2)),
    )

pub returns-in-TooLong-clause-reads : goal.returns-in-TooLong-clause-reads
returns-in-TooLong-clause-reads g c =
    let f = c.in-TooLong.ensures.found in (
      f.0,
      f.1.taken,
      subst (λ (x : Held). (x.ended ≡ false) × (c.self.inside.count + 1 ≡ x.count + 1) × ((tail : List ℕ) → NextIsLong x.count ((x.rest ++ f.0) ++ tail)) × (c.self.inside.ended ≡ true → IsAtEnd (g.S.Source.left c.next_line.new.source))) c.self.view_is (
        c.if-self.false,
        refl,
        (λ tail. far_long c.self.inside.count 131201 (c.self.inside.lines.rest ++ f.0) tail (omega arith) (omega (arith, f.1.finds.1)) f.1.finds.2),
        (λ e. absurd (true≢false (sym e ∙ c.if-self.false))),
      ),
    )
