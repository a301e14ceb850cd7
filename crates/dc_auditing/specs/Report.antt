-- The lines of an audit.
use Rattle.std.specs.Prelude.{ℕ, List, [], ◌∷◌, ◌++◌, codes, decimal, Option, Some, None}
use Rattle.dc_audit.specs.declared.outcome.Verdict.TheVariants.{Same, Differs, Bad, Large}
use Rattle.dc_auditing.specs.declared.finding.Finding.{Finding}
use Rattle.dc_auditing.specs.declared.finding.Finding.TheVariants.{Judged, Missing}

-- The word of a finding, and its number.

abbrev pub word_of : Finding → List ℕ
word_of (Judged Same) = codes "same"
word_of (Judged (Differs k)) = codes "differs"
word_of (Judged (Bad k)) = codes "bad"
word_of (Judged Large) = codes "large"
word_of Missing = codes "missing"

abbrev pub number_of : Finding → Option ℕ
number_of (Judged Same) = None
number_of (Judged (Differs k)) = Some k
number_of (Judged (Bad k)) = Some k
number_of (Judged Large) = None
number_of Missing = None

-- A number in decimal with a space before it, where there is one.
abbrev pub number_text : Option ℕ → List ℕ
number_text None = []
number_text (Some k) = codes " " ++ decimal k

-- The line of a name.
unfoldable pub line_of : List ℕ → Finding → List ℕ
line_of name f = word_of f ++ codes " " ++ name ++ number_text (number_of f) ++ 10 ∷ []

-- The lines of names, in order.
unfoldable pub report_of : List (List ℕ) → List Finding → List ℕ
report_of [] fs = []
report_of (name ∷ names) [] = []
report_of (name ∷ names) (f ∷ fs) = line_of name f ++ report_of names fs
