-- Files in memory.
use Rattle.std.specs.Prelude.{◌≡◌, ℕ, Bool, ◌==◌, if◌then◌else◌, nat_lt, List, [], ◌∷◌, length, ◌++◌, map, filter_map, find, bytes_eq, String, Vec, Option, Some, None, option_map, string_bytes, refl}
use Rattle.std.specs.declared.alloc.Global.{Global}
use Rattle.std.specs.List.{position_or_len, before_first, after_first}
use Rattle.std.proofs.Common.{◌∙◌, sym, ap}
use Rattle.dc_event.specs.Causes.{counted}
use Rattle.dc_event.specs.Scripted.{is_among}
use Rattle.dc_config.specs.Tree.{Tree}

-- A path with the bytes of its file.
pub record Entry : Type 0 where
  pub path : List ℕ
  pub bytes : List ℕ

-- Files, the calls that are to fail, how many calls were made, and how many failed.
pub record Drawer : Type 0 where
  pub entries : List Entry
  pub fails : List ℕ
  pub calls : ℕ
  pub faults : ℕ

-- A path and bytes that are held.
abbrev pub entry_of : String Global × Vec ℕ Global → Entry
entry_of e = record { path = string_bytes e.0; bytes = e.1.items }

abbrev pub entries_of : List (String Global × Vec ℕ Global) → List Entry
entries_of es = map entry_of es

abbrev pub is_slash : ℕ → Bool
is_slash c = c == 47

-- The name under which a path lies in a folder: the folder stands before its first slash, and the name behind.
abbrev pub name_in : List ℕ → List ℕ → Option (List ℕ)
name_in folder path =
    if nat_lt (position_or_len is_slash path) (length path) then (if bytes_eq (before_first is_slash path) folder then Some (after_first is_slash path) else None) else None

-- The names in a folder, in the order of the files.
abbrev pub names_in : List ℕ → List Entry → List (List ℕ)
names_in folder es = filter_map (λ e. name_in folder e.path) es

-- A folder is there exactly where a path lies in it.
abbrev pub if_any : List (List ℕ) → Option (List (List ℕ))
if_any [] = None
if_any (n ∷ ns) = Some (n ∷ ns)

-- The bytes of the first file of this path.
abbrev pub bytes_at : List ℕ → List Entry → Option (List ℕ)
bytes_at path es = option_map (λ e. e.bytes) (find (λ e. bytes_eq e.path path) es)

abbrev pub tree_of : List Entry → Tree
tree_of es = record { names = λ folder. if_any (names_in folder es); bytes = λ path. bytes_at path es }

-- Whether the next call is to fail. Calls are counted from 1.
abbrev pub fails_next : Drawer → Bool
fails_next d = is_among d.fails (counted d.calls)

-- Behind one more call.
abbrev pub called : Drawer → Drawer
called d = record { entries = d.entries; fails = d.fails; calls = counted d.calls; faults = if fails_next d then counted d.faults else d.faults }

-- Behind one more call that went well, and behind one that failed.

abbrev pub answered : Drawer → Drawer
answered d = record d { calls = counted d.calls }

abbrev pub refused : Drawer → Drawer
refused d = record d { calls = counted d.calls; faults = counted d.faults }

-- Behind as many calls that went well as there are paths.
abbrev pub answered_all : List (List ℕ) → Drawer → Drawer
answered_all [] d = d
answered_all (path ∷ paths) d = answered_all paths (answered d)

pub answered_both : (a : Drawer) (xs ys : List (List ℕ)) → answered_all (xs ++ ys) a ≡ answered_all ys (answered_all xs a)
answered_both a [] ys = refl
answered_both a (x ∷ xs) ys = answered_both (answered a) xs ys

-- These paths were asked for between the two.
abbrev pub Asked : Drawer → List (List ℕ) → Drawer → Type 0
Asked old paths new = new ≡ answered_all paths old

pub Asked-none : (a : Drawer) → Asked a [] a
Asked-none a = refl

pub Asked-both : (a b c : Drawer) (xs ys : List (List ℕ)) → Asked a xs b → Asked b ys c → Asked a (xs ++ ys) c
Asked-both a b c xs ys p q = q ∙ ap (answered_all ys) p ∙ sym (answered_both a xs ys)
