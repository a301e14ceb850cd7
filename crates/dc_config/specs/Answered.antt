-- What an answer of `load` and its parts says of what is defined.
use Rattle.std.specs.Prelude.{◌≡◌, Result, Ok, Err}
use Rattle.dc_config.specs.declared.error.ConfigError.{ConfigError}
use Rattle.dc_config.specs.declared.error.ConfigError.TheVariants.{BadVariable, BadZone, NoRoot, BadPermit, FilesFault, NoMemory}

-- The error is the one that is defined. A fault of the files and want of memory say nothing of it.
abbrev pub Refuses : {T : Type 0} → ConfigError → Result T ConfigError → Type 0
Refuses (BadVariable v) defined = defined ≡ Err (BadVariable v)
Refuses (BadZone file) defined = defined ≡ Err (BadZone file)
Refuses NoRoot defined = defined ≡ Err NoRoot
Refuses (BadPermit file) defined = defined ≡ Err (BadPermit file)
Refuses FilesFault defined = Unit {0}
Refuses NoMemory defined = Unit {0}

-- The error says nothing of what is defined.
abbrev pub IsPassing : ConfigError → Type 0
IsPassing (BadVariable v) = ⊥
IsPassing (BadZone file) = ⊥
IsPassing NoRoot = ⊥
IsPassing (BadPermit file) = ⊥
IsPassing FilesFault = Unit {0}
IsPassing NoMemory = Unit {0}

-- The answer is the one that is defined, but for a fault of the files and want of memory.
abbrev pub Answers : {T : Type 0} → Result T ConfigError → Result T ConfigError → Type 0
Answers (Ok x) defined = defined ≡ Ok x
Answers (Err why) defined = Refuses why defined

-- The same of an answer that left a value.
abbrev pub Leaves : {T : Type 0} → Result (Unit {0}) ConfigError → T → Result T ConfigError → Type 0
Leaves (Ok done) new defined = defined ≡ Ok new
Leaves (Err why) new defined = Refuses why defined

-- What follows where nothing was refused.
abbrev pub and_then : {T U : Type 0} → (T → Result U ConfigError) → Result T ConfigError → Result U ConfigError
and_then next (Ok x) = next x
and_then next (Err why) = Err why
