use Rattle.std.proofs.Common.{◌≡◌, ◌∷◌, [], List, Bool, ◌<◌, ◌≤◌, length, drop, map, get_or, arith, true, false}
use Rattle.dc_audit.specs.declared.outcome.Verdict.{Verdict}
use Rattle.dc_audit.specs.declared.outcome.Verdict.TheVariants.{Same}
use Rattle.dc_auditing.specs.Runs.{spread, found_of}
use Rattle.dc_auditing.specs.declared.finding.Finding.TheVariants.{Judged}
use Rattle.dc_auditing.proofs.FindingLemmas.{first_placed, none_placed}
use Rattle.dc_auditing.proofs.judging.placed.Goals as goal

placed_first : (vs : List Verdict) (there : Bool) → there ≡ true → 1 ≤ length vs → (bs : List Bool) → map found_of (spread (there ∷ bs) vs) ≡ Judged (get_or vs 0 Same) ∷ map found_of (spread bs (drop 1 vs))
placed_first [] there e l bs = absurd (omega (arith, l))
placed_first (v ∷ vs) there e l bs = first_placed v vs there e bs

empty_of : (vs : List Verdict) → length vs < 1 → vs ≡ []
empty_of [] l = λ _. []
empty_of (v ∷ vs) l = absurd (omega (arith, l))

pub returns-in-len1-up-clause-found : goal.returns-in-len1-up-clause-found
returns-in-len1-up-clause-found c = placed_first c.args.rest.now c.args.there c.if-there.true c.in-len1-up.len_at_least

pub returns-in_default-clause-found : goal.returns-in_default-clause-found
returns-in_default-clause-found c = none_placed c.args.rest.now c.args.there (λ e. empty_of c.args.rest.now c.in_default.len_below)

pub returns-in_default-2-clause-found : goal.returns-in_default-2-clause-found
returns-in_default-2-clause-found c = none_placed c.args.rest.now c.args.there (λ e. let f : c.args.there ≡ false = c.if-there.false in cc)
