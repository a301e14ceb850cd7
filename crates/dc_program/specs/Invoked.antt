-- What a program was started with, and what is read of it.
use Rattle.std.specs.Prelude.{◌≡◌, ℕ, if◌then◌else◌, List, [], ◌∷◌, map, bytes_eq, String, Vec, string_bytes, Option, Some, None, option_map, Result, Ok, Err}
use Rattle.std.specs.declared.alloc.Global.{Global}
use Rattle.std.specs.declared.alloc.AllocError.{AllocError}
use Rattle.dc_config.specs.Environment.{Environment}
use Rattle.dc_program.specs.declared.invocation.Unread.{Unread}
use Rattle.dc_program.specs.declared.invocation.Unread.TheVariants.{Strange, NoMemory}

-- The texts that were read are these.
abbrev pub IsTexts : Result (Vec (String Global) Global) Unread → List (List ℕ) → Type 0
IsTexts (Ok read) texts = map string_bytes read.items ≡ texts
IsTexts (Err Strange) texts = ⊥
IsTexts (Err NoMemory) texts = Unit {0}

-- The value that was read is this.
abbrev pub IsValue : Result (Option (String Global)) AllocError → Option (List ℕ) → Type 0
IsValue (Ok read) value = option_map string_bytes read ≡ value
IsValue (Err refused) value = Unit {0}

-- An environment with this variable, if it has a value.
abbrev pub with_value : List ℕ → Option (List ℕ) → Environment → Environment
with_value name None env = env
with_value name (Some value) env = record { name = name; value = value } ∷ env

-- The value of a variable that is among these names, and nothing for another.
abbrev pub value_among : (List ℕ → Option (List ℕ)) → List (List ℕ) → List ℕ → Option (List ℕ)
value_among value [] name = None
value_among value (n ∷ ns) name = if bytes_eq n name then value name else value_among value ns name
