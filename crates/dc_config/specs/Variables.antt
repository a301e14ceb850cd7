-- The variables that are read.
use Rattle.std.specs.Prelude.{ℕ, ◌&&◌, if◌then◌else◌, nat_le, min, max, Bool, is_some, List, [], ◌∷◌, length, codes, Option, Some, None, option_and_then, Result, Ok, Err}
use Rattle.std.specs.List.{list_all}
use Rattle.dc_model.specs.Name.{is_digit, number_value, address_of}
use Rattle.dc_config.specs.Environment.{Environment, value_of}
use Rattle.dc_config.specs.declared.error.Variable.{Variable}
use Rattle.dc_config.specs.declared.error.Variable.TheVariants.{Ip, Ipsend, Cachesize, Cores, Image, Events, Record}
use Rattle.dc_config.specs.declared.error.ConfigError.{ConfigError}
use Rattle.dc_config.specs.declared.error.ConfigError.TheVariants.{BadVariable}
use Rattle.dc_config.specs.declared.variables.Variables.{Variables}

-- The name under which a variable is set.
abbrev pub name_of : Variable → List ℕ
name_of Ip = codes "IP"
name_of Ipsend = codes "IPSEND"
name_of Cachesize = codes "CACHESIZE"
name_of Cores = codes "CORES"
name_of Image = codes "IMAGE"
name_of Events = codes "EVENTS"
name_of Record = codes "RECORD"

-- The names of all variables that are read.
abbrev pub names : List (List ℕ)
names =
    codes "IP" ∷ codes "IPSEND" ∷ codes "CACHESIZE" ∷ codes "FORWARDONLY" ∷ codes "CORES" ∷ codes "IMAGE" ∷ codes "EVENTS" ∷ codes "RECORD" ∷ []

-- The address that a variable says: it is one in text. 0.0.0.0 is one too.
abbrev pub address_in : List ℕ → Environment → Option (List ℕ)
address_in name env = option_and_then address_of (value_of name env)

-- The cache size that a text says: 1 to 18 digits, brought into 100 to 1000000000.
abbrev pub size_of : List ℕ → Option ℕ
size_of text =
    if list_all is_digit text && (nat_le 1 (length text) && nat_le (length text) 18) then Some (min (max (number_value text) 100) 1000000000) else None

abbrev pub size_in : Environment → Option ℕ
size_in env = option_and_then size_of (value_of (codes "CACHESIZE") env)

-- Whether all questions are forwarded: the variable counts when it is set at all.
abbrev pub forwards : Environment → Bool
forwards env = is_some (value_of (codes "FORWARDONLY") env)

-- The first of the three that is absent or unreadable.
abbrev pub bad_by : Option (List ℕ) → Option (List ℕ) → Option ℕ → Option Variable
bad_by None ipsend size = Some Ip
bad_by (Some ip) None size = Some Ipsend
bad_by (Some ip) (Some ipsend) None = Some Cachesize
bad_by (Some ip) (Some ipsend) (Some size) = None

abbrev pub bad_variable : Environment → Option Variable
bad_variable env = bad_by (address_in (codes "IP") env) (address_in (codes "IPSEND") env) (size_in env)

-- The values of all, where each of the three can be read.
abbrev pub variables_by : Option (List ℕ) → Option (List ℕ) → Option ℕ → Bool → Result Variables ConfigError
variables_by None ipsend size forward = Err (BadVariable Ip)
variables_by (Some ip) None size forward = Err (BadVariable Ipsend)
variables_by (Some ip) (Some ipsend) None forward = Err (BadVariable Cachesize)
variables_by (Some ip) (Some ipsend) (Some size) forward = Ok (record { size = size; forward = forward; ip = ip; ipsend = ipsend })

abbrev pub variables_of : Environment → Result Variables ConfigError
variables_of env = variables_by (address_in (codes "IP") env) (address_in (codes "IPSEND") env) (size_in env) (forwards env)
