-- What an audit says of names, by the files that they have.
use Rattle.std.specs.Prelude.{ℕ, Bool, true, false, List, [], ◌∷◌, ◌++◌, codes, Option, Some, None}
use Rattle.dc_config.specs.Tree.{Tree}
use Rattle.dc_audit.specs.Verdict.{verdict_of}
use Rattle.dc_audit.specs.declared.outcome.Verdict.TheVariants.{Same, Differs, Bad, Large}
use Rattle.dc_auditing.specs.declared.finding.Finding.{Finding}
use Rattle.dc_auditing.specs.declared.finding.Finding.TheVariants.{Judged, Missing}

-- A script, and the text that was recorded of its run.
pub record Recorded : Type 0 where
  pub script : List ℕ
  pub text : List ℕ

-- Both, where both are there.
abbrev pub both : Option (List ℕ) → Option (List ℕ) → Option Recorded
both None text = None
both (Some script) None = None
both (Some script) (Some text) = Some (record { script = script; text = text })

-- The file with the text that was recorded of a name's run.
abbrev pub recording_of : List ℕ → List ℕ
recording_of name = name ++ codes ".actions"

-- The recorded run of a name: the script is the file of that name.
abbrev pub recorded_at : Tree → List ℕ → Option Recorded
recorded_at t name = both (t.bytes name) (t.bytes (recording_of name))

-- The files that are read for names, in this order.
abbrev pub paths_of : List (List ℕ) → List (List ℕ)
paths_of [] = []
paths_of (name ∷ names) = name ∷ recording_of name ∷ paths_of names

-- What is found of a name: the verdict on its run, where both files are there.
abbrev pub finding_of : Option Recorded → Finding
finding_of None = Missing
finding_of (Some r) = Judged (verdict_of r.script r.text)

-- Whether the recorded text is what the resolver does.
abbrev pub is_same : Finding → Bool
is_same (Judged Same) = true
is_same (Judged (Differs k)) = false
is_same (Judged (Bad k)) = false
is_same (Judged Large) = false
is_same Missing = false
