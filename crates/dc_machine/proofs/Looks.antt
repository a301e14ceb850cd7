-- The look of `Turn` is the first of the seven rules that fits.
use Rattle.std.proofs.Common.{◌≡◌, ℕ, Bool, true, false, List, [], ◌∷◌, Option, Some, None, refl, ap, ◌∙◌}
use Rattle.std.specs.Prelude.{if◌then◌else◌, option_map}
use Rattle.dc_model.specs.Name.{same, reverse_name}
use Rattle.dc_model.specs.Message.{kind_any, kind_cname}
use Rattle.dc_machine.specs.Query.{name_of, wanted_of}
use Rattle.dc_machine.specs.Turn.{Setting, State, Row, known, first_known, kinds_known, is_other, built_in, loopback, target_by, zone_row, other_by, other_row, known_by, known_row, cname_by, cname_row, missing_by, missing_row, loopback_row, built_in_by, rules_row}
use Rattle.dc_machine.specs.Look.{or_else, built_in_rule, loopback_rule, nxdomain_rule, cname_rule, records_rule, other_rule, look}

-- A rule that goes by an option is followed where there is one.
fits : {A : Type 0} (by : Option A → Row) (f : A → Row) (next : Row) → by None ≡ next → ((a : A) → by (Some a) ≡ f a) → (o : Option A) → by o ≡ or_else (option_map f o) next
fits by f next n k None = n
fits by f next n k (Some a) = k a

-- A test in front of a rule.
test : (b : Bool) (o : Option Row) (x next : Row) → x ≡ or_else o next → (if b then x else next) ≡ or_else (if b then o else None) next
test true o x next e = e
test false o x next e = refl

-- A test that a rule fits.
tested : (b : Bool) (r next : Row) → (if b then r else next) ≡ or_else (if b then Some r else None) next
tested true r next = refl
tested false r next = refl

other_is : (g : Setting) (s : State) → other_row g s ≡ or_else (other_rule g s) (zone_row g s)
unfolding other_row other_rule other_by
other_is g s = test (is_other g.zones.rule (wanted_of s.query)) _ _ _ (fits (λ o. other_by o g s) _ (zone_row g s) refl (λ h. refl) (known g s (wanted_of s.query) (name_of s.query)))

records_is : (g : Setting) (s : State) → known_row g s ≡ or_else (records_rule g s) (other_row g s)
unfolding known_row records_rule known_by
records_is g s = fits (λ o. known_by o g s) _ (other_row g s) refl (λ k. refl) (first_known g s (kinds_known g.zones.rule))

cname_is : (g : Setting) (s : State) → cname_row g s ≡ or_else (cname_rule g s) (known_row g s)
unfolding cname_row cname_rule cname_by
cname_is g s = fits (λ o. cname_by o g s) _ (known_row g s) refl (λ a. refl) (target_by (known g s kind_cname (name_of s.query)))

nxdomain_is : (g : Setting) (s : State) → missing_row g s ≡ or_else (nxdomain_rule g s) (cname_row g s)
unfolding missing_row nxdomain_rule missing_by
nxdomain_is g s = fits (λ o. missing_by o g s) _ (cname_row g s) refl (λ h. refl) (known g s kind_any (name_of s.query))

loopback_is : (g : Setting) (s : State) → loopback_row g s ≡ or_else (loopback_rule g s) (missing_row g s)
unfolding loopback_row loopback_rule
loopback_is g s = tested (same (name_of s.query) (reverse_name loopback)) _ (missing_row g s)

built_in_is : (g : Setting) (s : State) → rules_row g s ≡ or_else (built_in_rule g s) (loopback_row g s)
unfolding rules_row built_in_rule built_in_by
built_in_is g s = fits (λ o. built_in_by o g s) _ (loopback_row g s) refl (λ a. refl) (built_in (name_of s.query))

-- So the look is the first rule that fits.
pub look_holds : (g : Setting) (s : State) → rules_row g s ≡ look g s
unfolding look
look_holds g s =
    built_in_is g s ∙ ap (λ r. or_else (built_in_rule g s) r) (loopback_is g s ∙ ap (λ r. or_else (loopback_rule g s) r) (nxdomain_is g s
    ∙ ap (λ r. or_else (nxdomain_rule g s) r) (cname_is g s ∙ ap (λ r. or_else (cname_rule g s) r) (records_is g s
    ∙ ap (λ r. or_else (records_rule g s) r) (other_is g s)))))
