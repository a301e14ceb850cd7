-- The variables that choose how clients are served.
use Rattle.std.specs.Prelude.{ℕ, ◌^◌, ◌&&◌, ◌||◌, if◌then◌else◌, nat_le, Bool, not, is_some, List, codes, Option, Some, None, option_and_then}
use Rattle.dc_text.specs.Numbers.{number_below}
use Rattle.dc_config.specs.Environment.{Environment, value_of}
use Rattle.dc_config.specs.Variables.{name_of, bad_variable}
use Rattle.dc_config.specs.declared.error.Variable.{Variable}
use Rattle.dc_config.specs.declared.error.Variable.TheVariants.{Cores, Image, Events, Record}

-- Whether a variable is set, with any value.
abbrev pub is_set : Variable → Environment → Bool
is_set v env = is_some (value_of (name_of v) env)

-- The number of cores that a text says: a number from 1 to 8.
abbrev pub few : ℕ → Option ℕ
few count = if nat_le 1 count && nat_le count 8 then Some count else None

abbrev pub cores_of : List ℕ → Option ℕ
cores_of text = option_and_then few (number_below (2 ^ 64) text)

abbrev pub cores_in : Environment → Option ℕ
cores_in env = option_and_then cores_of (value_of (codes "CORES") env)

-- After how many events a service ends: a number below 2^64.
abbrev pub events_in : Environment → Option ℕ
events_in env = option_and_then (number_below (2 ^ 64)) (value_of (codes "EVENTS") env)

-- A variable that is bad in some case, and of two the first.

abbrev pub bad_where : Variable → Bool → Option Variable
bad_where v wrong = if wrong then Some v else None

abbrev pub first_of : Option Variable → Option Variable → Option Variable
first_of None other = other
first_of (Some v) other = Some v

-- The first bad variable of a service whose names are split over several cores.
abbrev pub bad_split : Environment → Option Variable
bad_split env = first_of (bad_variable env) (bad_where Cores (not (is_some (cores_in env))))

-- Of one that keeps its cache: its names aren't split, and where EVENTS is set it is such a number.
abbrev pub bad_kept : Environment → Option Variable
bad_kept env = first_of (bad_variable env) (first_of (bad_where Image (is_set Cores env)) (bad_where Events (is_set Events env && not (is_some (events_in env)))))

-- Of one that writes its own run: its names aren't split, and its cache isn't kept.
abbrev pub bad_recorded : Environment → Option Variable
bad_recorded env = first_of (bad_variable env) (bad_where Record (is_set Cores env || is_set Image env))
