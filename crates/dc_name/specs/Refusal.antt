-- The errors of `from_dotted` as the refusals that they stand for.
use Rattle.dc_model.specs.Name.{NameRefusal, empty_label, long_label, long_name}
use Rattle.dc_name.specs.declared.error.NameError.{NameError}
use Rattle.dc_name.specs.declared.error.NameError.TheVariants.{EmptyLabel, LongLabel, LongName}

-- The refusal that an error stands for.
abbrev pub refusal_of : NameError → NameRefusal
refusal_of EmptyLabel = empty_label
refusal_of LongLabel = long_label
refusal_of LongName = long_name
