-- A refused configuration names the variable that is bad.
use Rattle.std.proofs.Common.{◌≡◌, ℕ, Bool, List, codes, sym, ap, ◌∙◌, Option, Some, None, Result, Ok, Err}
use Rattle.dc_rules.specs.declared.config.Config.{Config}
use Rattle.dc_config.specs.Environment.{Environment}
use Rattle.dc_config.specs.Variables.{address_in, size_in, forwards, bad_by, bad_variable, variables_by, variables_of}
use Rattle.dc_config.specs.declared.error.Variable.{Variable}
use Rattle.dc_config.specs.declared.error.Variable.TheVariants.{Ip, Ipsend, Cachesize}
use Rattle.dc_config.specs.declared.error.ConfigError.{ConfigError}
use Rattle.dc_config.specs.declared.error.ConfigError.TheVariants.{BadVariable}
use Rattle.dc_config.specs.declared.variables.Variables.{Variables}

abbrev refusal : ConfigError → Result Variables ConfigError
refusal why = Err why

abbrev answer : Variables → Result Variables ConfigError
answer v = Ok v

abbrev no_config : ConfigError → Result Config ConfigError
no_config why = Err why

-- An error names a variable exactly where this one is bad.
abbrev pub Names : ConfigError → Option Variable → Type 0
Names why bad = (v : Variable) → (why ≡ BadVariable v → bad ≡ Some v) × (bad ≡ Some v → why ≡ BadVariable v)

named : (w v : Variable) (why : ConfigError) → refusal (BadVariable w) ≡ refusal why → why ≡ BadVariable v → w ≡ v
named w v why e h = cc

named_so : (w v : Variable) (why : ConfigError) → refusal (BadVariable w) ≡ refusal why → Some w ≡ Some v → why ≡ BadVariable v
named_so w v why e h = cc

names : (w : Variable) (why : ConfigError) → refusal (BadVariable w) ≡ refusal why → Names why (Some w)
names w why e v = (λ h. ap Some (named w v why e h), named_so w v why e)

names_by : (ip ipsend : Option (List ℕ)) (size : Option ℕ) (forward : Bool) (why : ConfigError) → variables_by ip ipsend size forward ≡ refusal why → Names why (bad_by ip ipsend size)
names_by None ipsend size forward why e = names Ip why e
names_by (Some ip) None size forward why e = names Ipsend why e
names_by (Some ip) (Some ipsend) None forward why e = names Cachesize why e
names_by (Some ip) (Some ipsend) (Some size) forward why e = never _ why e where
  never : (read : Variables) (why : ConfigError) → answer read ≡ refusal why → Names why None
  never read why e = cc

pub names_bad : (env : Environment) (why : ConfigError) → variables_of env ≡ refusal why → Names why (bad_variable env)
names_bad env why e = names_by (address_in (codes "IP") env) (address_in (codes "IPSEND") env) (size_in env) (forwards env) why e

-- The same of what the exit of a `?` answers.

exit_is : (r : Result Config ConfigError) (y why : ConfigError) (v : Variable) → r ≡ no_config y → y ≡ why → r ≡ no_config (BadVariable v) → why ≡ BadVariable v
exit_is r y why v e f h = cc

pub exit_names : (r : Result Config ConfigError) (y why : ConfigError) (bad : Option Variable) → r ≡ no_config y → y ≡ why → Names why bad
    → (v : Variable) → (r ≡ no_config (BadVariable v) → bad ≡ Some v) × (bad ≡ Some v → r ≡ no_config (BadVariable v))
exit_names r y why bad e f n v = (λ h. (n v).0 (exit_is r y why v e f h), λ h. e ∙ ap no_config (f ∙ (n v).1 h))
