-- Answers, step by step.
use Rattle.std.proofs.Common.{◌≡◌, sym, ap, ◌∙◌, subst, Result, Err}
use Rattle.dc_config.specs.Answered.{Refuses, Answers, and_then}
use Rattle.dc_config.specs.declared.error.ConfigError.{ConfigError}
use Rattle.dc_config.specs.declared.error.ConfigError.TheVariants.{BadVariable, BadZone, NoRoot, BadPermit, FilesFault, NoMemory}

-- what refuses a step refuses all that follows
pub refused : {T U : Type 0} (why : ConfigError) (defined : Result T ConfigError) (next : T → Result U ConfigError) → Refuses why defined → Refuses why (and_then next defined)
refused (BadVariable v) defined next h = ap (λ r. and_then next r) h
refused (BadZone file) defined next h = ap (λ r. and_then next r) h
refused NoRoot defined next h = ap (λ r. and_then next r) h
refused (BadPermit file) defined next h = ap (λ r. and_then next r) h
refused FilesFault defined next h = tt
refused NoMemory defined next h = tt

-- the error that is defined
pub refuses : {T : Type 0} (why : ConfigError) (defined : Result T ConfigError) → defined ≡ Err why → Refuses why defined
refuses (BadVariable v) defined h = h
refuses (BadZone file) defined h = h
refuses NoRoot defined h = h
refuses (BadPermit file) defined h = h
refuses FilesFault defined h = tt
refuses NoMemory defined h = tt

pub refuses-along : {T : Type 0} (why : ConfigError) (a b : Result T ConfigError) → a ≡ b → Refuses why a → Refuses why b
refuses-along {T} why a b e h = let P : Result T ConfigError → Type 0 = λ r. Refuses why r in subst P e h

-- what the exit of a `?` answers
pub exits : {T : Type 0} (r defined : Result T ConfigError) (y why : ConfigError) → r ≡ Err y → y ≡ why → Refuses why defined → Answers r defined
exits {T} r defined y why e f h = let P : Result T ConfigError → Type 0 = λ s. Answers s defined in subst P (sym (e ∙ ap (λ w. Err w) f)) h
