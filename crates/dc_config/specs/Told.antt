-- What the answers of `list` and `read` say of folders and files.
use Rattle.std.specs.Prelude.{◌≡◌, ℕ, List, Option, Some, None}
use Rattle.dc_event.specs.Causes.{counted}
use Rattle.dc_config.specs.declared.files.Listed.{Listed}
use Rattle.dc_config.specs.declared.files.Listed.TheVariants as listed
use Rattle.dc_config.specs.declared.files.FileRead.{FileRead}
use Rattle.dc_config.specs.declared.files.FileRead.TheVariants as read

-- The names are those of the folder, and it is absent where there is none.
abbrev pub IsListing : Listed → Option (List (List ℕ)) → Type 0
IsListing (listed.Names names) folder = folder ≡ Some names.items
IsListing listed.Absent folder = folder ≡ None
IsListing listed.Failed folder = Unit {0}
IsListing listed.NoMemory folder = Unit {0}

-- The bytes are those of the file, and it is absent where there is none.
abbrev pub IsReading : FileRead → Option (List ℕ) → Type 0
IsReading (read.Bytes bytes) file = file ≡ Some bytes.items
IsReading read.Absent file = file ≡ None
IsReading read.Failed file = Unit {0}
IsReading read.NoMemory file = Unit {0}

-- The count of faults behind a call, by its answer: one more where it failed, and else what it was.

abbrev pub count_listed : Listed → ℕ → ℕ
count_listed (listed.Names names) before = before
count_listed listed.Absent before = before
count_listed listed.Failed before = counted before
count_listed listed.NoMemory before = before

abbrev pub count_read : FileRead → ℕ → ℕ
count_read (read.Bytes bytes) before = before
count_read read.Absent before = before
count_read read.Failed before = counted before
count_read read.NoMemory before = before

-- This holds where the call didn't answer its failure.

abbrev pub IfListed : Listed → Type 0 → Type 0
IfListed (listed.Names names) P = P
IfListed listed.Absent P = P
IfListed listed.Failed P = Unit {0}
IfListed listed.NoMemory P = P

abbrev pub IfRead : FileRead → Type 0 → Type 0
IfRead (read.Bytes bytes) P = P
IfRead read.Absent P = P
IfRead read.Failed P = Unit {0}
IfRead read.NoMemory P = P

-- This holds where the call failed.

abbrev pub IfListFailed : Listed → Type 0 → Type 0
IfListFailed (listed.Names names) P = Unit {0}
IfListFailed listed.Absent P = Unit {0}
IfListFailed listed.Failed P = P
IfListFailed listed.NoMemory P = Unit {0}

abbrev pub IfReadFailed : FileRead → Type 0 → Type 0
IfReadFailed (read.Bytes bytes) P = Unit {0}
IfReadFailed read.Absent P = Unit {0}
IfReadFailed read.Failed P = P
IfReadFailed read.NoMemory P = Unit {0}
