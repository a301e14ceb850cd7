-- What writing the lines that are done comes to.
use Rattle.std.specs.Prelude.{◌≡◌, ℕ, List}
use Rattle.dc_event.specs.Told.{GainedFront}
use Rattle.dc_event.specs.declared.answers.Put.{Put}
use Rattle.dc_event.specs.declared.answers.Put.TheVariants.{Taken, Failed}
use Rattle.dc_lookup.specs.Filter.{flushed}
use Rattle.dc_filter.specs.Sifter.{Sifter}

-- The lines at the front that are done were written and left; or a front of their text was written.
abbrev pub FlushesSo : {K : Type 0} → (K → List ℕ → K → Type 0) → Put → Sifter → K → Sifter → K → Type 0
FlushesSo gained (Taken n) s old t new = gained old (flushed s.queue).text new × (t ≡ record s { queue = (flushed s.queue).queue })
FlushesSo gained Failed s old t new = GainedFront gained old (flushed s.queue).text new
