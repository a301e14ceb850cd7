-- The zones and permissions of files, one after another.
use Rattle.std.proofs.Common.{◌≡◌, ℕ, true, false, cond, List, [], ◌++◌, codes, sym, ap, ◌∙◌, Option, Some, None, Ok, Err}
use Rattle.dc_model.specs.Name.{Name, root}
use Rattle.dc_model.specs.Rules.{Zones, ZoneRefusal, no_zones, add_zone, servers, read_servers, Permits, add_permit}
use Rattle.dc_config.specs.Environment.{Environment}
use Rattle.dc_config.specs.Tree.{Tree}
use Rattle.dc_config.specs.Answered.{and_then}
use Rattle.dc_config.specs.Folders.{is_shown, zone_named, zone_by, zone_added, with_zone_file, with_zone_files, has_server, rooted, zones_of, permit_added, with_permit_file, with_permit_files, permits_of, listing}
use Rattle.dc_config.specs.Conf.{config_of, conf_with, conf_of}
use Rattle.dc_config.specs.Variables.{variables_of}
use Rattle.dc_config.specs.declared.variables.Variables.{Variables}
use Rattle.dc_config.specs.declared.error.ConfigError.{ConfigError}
use Rattle.dc_config.specs.declared.error.ConfigError.TheVariants.{BadZone, NoRoot}

-- One zone file

pub zone_hidden : (t : Tree) (file : List ℕ) (zs : Zones) → is_shown file ≡ false → with_zone_file t file zs ≡ Ok zs
unfolding with_zone_file
zone_hidden t file zs h = ap (λ b. cond b (zone_by file (zone_named file) (t.bytes (codes "servers/" ++ file)) zs) (Ok zs)) h

shown_is : (t : Tree) (file : List ℕ) (zs : Zones) → is_shown file ≡ true → with_zone_file t file zs ≡ zone_by file (zone_named file) (t.bytes (codes "servers/" ++ file)) zs
unfolding with_zone_file
shown_is t file zs h = ap (λ b. cond b (zone_by file (zone_named file) (t.bytes (codes "servers/" ++ file)) zs) (Ok zs)) h

pub zone_unnamed : (t : Tree) (file : List ℕ) (zs : Zones) → is_shown file ≡ true → zone_named file ≡ None → with_zone_file t file zs ≡ Err (BadZone file)
zone_unnamed t file zs h e = shown_is t file zs h ∙ ap (λ o. zone_by file o (t.bytes (codes "servers/" ++ file)) zs) e

read_is : (t : Tree) (file path : List ℕ) (zs : Zones) (name : Name) (text : Option (List ℕ)) → is_shown file ≡ true → zone_named file ≡ Some name → path ≡ codes "servers/" ++ file → t.bytes path ≡ text
    → with_zone_file t file zs ≡ zone_by file (Some name) text zs
read_is t file path zs name text h e p b =
    shown_is t file zs h ∙ ap (λ o. zone_by file o (t.bytes (codes "servers/" ++ file)) zs) e ∙ ap (λ q. zone_by file (Some name) (t.bytes q) zs) (sym p) ∙ ap (λ o. zone_by file (Some name) o zs) b

pub zone_absent : (t : Tree) (file path : List ℕ) (zs : Zones) (name : Name) → is_shown file ≡ true → zone_named file ≡ Some name → path ≡ codes "servers/" ++ file → t.bytes path ≡ None → with_zone_file t file zs ≡ Ok zs
zone_absent t file path zs name h e p b = read_is t file path zs name None h e p b

pub zone_is_added : (t : Tree) (file path text : List ℕ) (zs new : Zones) (name : Name) → is_shown file ≡ true → zone_named file ≡ Some name → path ≡ codes "servers/" ++ file → t.bytes path ≡ Some text
    → add_zone name (read_servers text) zs ≡ Ok new → with_zone_file t file zs ≡ Ok new
zone_is_added t file path text zs new name h e p b a = read_is t file path zs name (Some text) h e p b ∙ ap (λ r. zone_added file r) a

pub zone_is_refused : (t : Tree) (file path text : List ℕ) (zs : Zones) (why : ZoneRefusal) (name : Name) → is_shown file ≡ true → zone_named file ≡ Some name → path ≡ codes "servers/" ++ file → t.bytes path ≡ Some text
    → add_zone name (read_servers text) zs ≡ Err why → with_zone_file t file zs ≡ Err (BadZone file)
zone_is_refused t file path text zs why name h e p b a = read_is t file path zs name (Some text) h e p b ∙ ap (λ r. zone_added file r) a

-- One permission file

pub permit_hidden : (file : List ℕ) (ps : Permits) → is_shown file ≡ false → with_permit_file file ps ≡ Ok ps
unfolding with_permit_file
permit_hidden file ps h = ap (λ b. cond b (permit_added file (add_permit file ps)) (Ok ps)) h

pub permit_is : (file : List ℕ) (ps : Permits) → is_shown file ≡ true → with_permit_file file ps ≡ permit_added file (add_permit file ps)
unfolding with_permit_file
permit_is file ps h = ap (λ b. cond b (permit_added file (add_permit file ps)) (Ok ps)) h

-- The folders

pub zones_from : (t : Tree) (names : List (List ℕ)) (start : Zones) → names ≡ listing (t.names (codes "servers")) → start ≡ no_zones → zones_of t ≡ and_then rooted (with_zone_files t names start)
unfolding zones_of
zones_from t names start e z = ap (λ l. and_then rooted (with_zone_files t l no_zones)) (sym e) ∙ ap (λ s. and_then rooted (with_zone_files t names s)) (sym z)

pub zones_rooted : (zs : Zones) → has_server (servers zs root) ≡ true → rooted zs ≡ Ok zs
zones_rooted zs h = ap (λ b. cond b (Ok zs) (Err NoRoot)) h

pub zones_unrooted : (zs : Zones) → has_server (servers zs root) ≡ false → rooted zs ≡ Err NoRoot
zones_unrooted zs h = ap (λ b. cond b (Ok zs) (Err NoRoot)) h

pub permits_from : (t : Tree) (names : List (List ℕ)) (start : Permits) → names ≡ listing (t.names (codes "ip")) → start ≡ [] → permits_of t ≡ with_permit_files names start
unfolding permits_of
permits_from t names start e z = ap (λ l. with_permit_files l []) (sym e) ∙ ap (λ s. with_permit_files names s) (sym z)

-- The whole

pub conf_refused : (env : Environment) (t : Tree) (why : ConfigError) → variables_of env ≡ Err why → conf_of env t ≡ Err why
unfolding conf_of
conf_refused env t why e = ap (λ r. and_then (conf_with t) r) e

pub conf_is : (env : Environment) (t : Tree) (v : Variables) → variables_of env ≡ Ok v → conf_of env t ≡ and_then (λ zones. and_then (λ permit. Ok (config_of v zones permit)) (permits_of t)) (zones_of t)
unfolding conf_of conf_with
conf_is env t v e = ap (λ r. and_then (conf_with t) r) e
